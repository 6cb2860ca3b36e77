-- What the code of close keeps to: the number that it is turned back with, the frontiers that stay, by their counts
-- alone, and one of them moved.
use Rattle.std.specs.Prelude.{ℕ, ◌*◌, cond, ◌||◌, List, length, take, drop}
use Rattle.std.proofs.lemmas.List.Edits.{sets}
use Rattle.frontiers.specs.declared.Frontier.{Frontier}
use Rattle.frontiers.specs.Bytes.{frontier_length, frontiers}
use Rattle.window.specs.Step.{filtered}
use Rattle.window.specs.StepCode.{stays_with}
use Rattle.records.specs.Record.{process_count, closed_mask, pending_events}
use Rattle.refusals.specs.Refusals.{bad_record_length, bad_window_length, room_of, bad_state, not_open, named_by}

-- The number that a close is turned back with, by the length of the window; 0 for none.
unfoldable pub close_fault : ℕ → ℕ → List ℕ → ℕ → ℕ
close_fault w p s n =
    cond (bad_record_length w (length s) || bad_window_length w n) 6
    (cond (bad_state w (room_of w n) s) 34
    (cond (not_open (process_count s) (closed_mask s) p) 41
    (cond (named_by p (pending_events w s)) 42 0)))

-- Those of a window's first n frontiers that stay, in their order: k processes, which are closed, and the taken counts.
abbrev pub staying : ℕ → ℕ → ℕ → List ℕ → List ℕ → ℕ → List Frontier
staying w k closed reached window n = filtered (λ f. stays_with k closed reached f.counts) (frontiers w window n)

-- The window with frontier number i moved to place m.
abbrev pub moved_to : ℕ → List ℕ → ℕ → ℕ → List ℕ
moved_to w window i m =
    sets window (m * frontier_length w) (take (frontier_length w) (drop (i * frontier_length w) window))
