-- How far the merge of a step has come: what is laid down, what is left of the frontiers that stay and of those the
-- event leads on from.
use Rattle.std.specs.Prelude.{ℕ, ◌+◌, ◌≤◌, ◌<◌, ◌≡◌, Bool, true, false, cond, List, [], ◌∷◌, map, ltb, length, drop}
use Rattle.clocks.specs.declared.Event.{Event}
use Rattle.clocks.specs.Event.{apply}
use Rattle.clocks.specs.Counts.{at, list_of}
use Rattle.clocks.specs.Tested.{ready}
use Rattle.frontiers.specs.declared.Frontier.{Frontier}
use Rattle.lookup.specs.Order.{before}
use Rattle.frontiers.specs.Bytes.{frontier_at, frontiers}
use Rattle.window.specs.Step.{Setting, Slot, staying, fresh, slot_counts, merge, advanced, stays, enabled_at, filtered, lay, stepped}

-- The event is enabled at a frontier, by its counts.
abbrev pub takes : Event → Frontier → Bool
takes e f = ready 8 e (at f.counts)

-- The frontiers from number i on that pass a test.
abbrev pub rest_of : (Frontier → Bool) → ℕ → List ℕ → ℕ → ℕ → List Frontier
rest_of t w window n i = filtered t (drop i (frontiers w window n))

-- The slots of frontiers that stay and of frontiers that the event leads on from.
abbrev pub slots_of : Setting → List Frontier → List Frontier → List Slot
slots_of s xs ys = merge slot_counts (map staying xs) (map (λ f. fresh (advanced s f)) ys)

-- The next one to be laid down is a new one.
unfoldable pub fresh_first : Setting → List Frontier → List Frontier → Bool
fresh_first s xs [] = false
fresh_first s [] (y ∷ ys) = true
fresh_first s (x ∷ xs) (y ∷ ys) = before (advanced s y).counts x.counts

-- The same by places: i is the next that stays, j the next that the event leads on from; n for none.
abbrev pub fresh_at : Event → ℕ → List ℕ → ℕ → ℕ → ℕ → Bool
fresh_at e w window n i j =
    cond (ltb j n) (cond (ltb i n) (before (list_of 8 (apply e (at (frontier_at w window j).counts))) (frontier_at w window i).counts) true) false

-- m frontiers are laid down, and what is left leads to the frontiers after the event.
pub record Laying (s : Setting) (w : ℕ) (window : List ℕ) (n kept : ℕ) (laid : List Frontier) (hints : List ℕ) (i j m : ℕ) : Type 0 where
  pub staying_within : i ≤ n
  pub staying_here : i < n → stays s (frontier_at w window i) ≡ true
  pub leading_within : j ≤ n
  pub leading_here : j < n → enabled_at s (frontier_at w window j) ≡ true
  pub counted : m + (length (rest_of (stays s) w window n i) + length (rest_of (enabled_at s) w window n j)) ≡ kept
  pub going : lay s laid hints (slots_of s (rest_of (stays s) w window n i) (rest_of (enabled_at s) w window n j)) ≡ stepped s (frontiers w window n)
