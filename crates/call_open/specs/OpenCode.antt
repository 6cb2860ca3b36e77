-- What the code of open keeps to: the number that it is turned back with before its text is read, and the first
-- frontier.
use Rattle.std.specs.Prelude.{ℕ, List, ◌∷◌, [], cond, ◌||◌, replicate}
use Rattle.frontiers.specs.declared.Frontier.{Frontier}
use Rattle.frontiers.specs.Bytes.{window_bytes}
use Rattle.clocks.specs.Refusal.{bad_start}
use Rattle.refusals.specs.Refusals.{bad_record_length, bad_window_length, bad_processes}

-- The number that an open is turned back with before its text is read; 0 for none.
unfoldable pub open_fault : ℕ → ℕ → List ℕ → ℕ → ℕ → ℕ
open_fault w k labels record_bytes window_bytes =
    cond (bad_record_length w record_bytes || bad_window_length w window_bytes) 6 (cond (bad_processes k) 5 (cond (bad_start k labels) 9 0))

-- The cut of zeros, with its labels and values.
abbrev pub zeros_judged : List ℕ → ℕ → List Frontier
zeros_judged labels values = record { counts = replicate 8 0; labels = labels; masks = replicate 8 0; values = values } ∷ []
