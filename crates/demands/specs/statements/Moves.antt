-- Moves (02 [6]): what the next move of a watch to the other form answers, and exactly when; and that the way back
-- gives the old bytes. Of every watch that calls and moves alone wrote: statements/EveryWatch. Proved in forms/Moves.
use Rattle.std.specs.Prelude.{ℕ, ◌^◌, ◌<◌, ◌≡◌, false, ◌↔◌, ◌⊎◌, length}
use mathlib.Core.List.{List, Memᴰ}
use Rattle.clocks.specs.declared.Event.{Event}
use Rattle.clocks.specs.Event.{count}
use Rattle.clocks.specs.History.{taken}
use Rattle.call_move.specs.Move.{Moved, bad_move_lengths, move_call}
use Rattle.numbers.specs.Refusal.{length_number, too_large_number}
use Rattle.demands.specs.Run.{Watch}

-- ---- The next move

-- Of a watch with counts of v bytes, to counts of w bytes in these buffers.
abbrev pub next_move : (v w : ℕ) (Z : Watch) (t target : List ℕ) → Moved
next_move v w Z t target = move_call v w Z.bytes Z.window t target

-- The four lengths are right, and the windows are of as many frontiers.
abbrev pub RightMove : (v w : ℕ) (Z : Watch) (t target : List ℕ) → Type 0
RightMove v w Z t target = bad_move_lengths v w (length Z.bytes) (length Z.window) (length t) (length target)
    ≡ false

-- Every taken count, and every count of a pending event, has a place in w bytes. (Then so has every other count of such
-- a watch: last clocks and kept cuts have none that is larger, and unused places are 0.)
abbrev pub CountsFit : (w : ℕ) (Z : Watch) → Type 0
CountsFit w Z =
    ((p : ℕ) → taken Z.ledger.history p < 256 ^ w)
    × ((e : Event) → Memᴰ e Z.ledger.pending → (p : ℕ) → count e p < 256 ^ w)

pub record MoveAnswers (v w : ℕ) (Z : Watch) (t target : List ℕ) : Type 0 where
  pub wrong_lengths : ((next_move v w Z t target).number ≡ length_number) ↔ (RightMove v w Z t target → ⊥)
  pub too_large : ((next_move v w Z t target).number ≡ too_large_number)
      ↔ (RightMove v w Z t target × (CountsFit w Z → ⊥))
  pub accepted : ((next_move v w Z t target).number ≡ 0) ↔ (RightMove v w Z t target × CountsFit w Z)
  -- and it is one of these: 34 never comes
  pub no_other : ((next_move v w Z t target).number ≡ length_number)
      ⊎ (((next_move v w Z t target).number ≡ too_large_number) ⊎ ((next_move v w Z t target).number ≡ 0))
  -- moved back at once, to buffers of the lengths that the first ones have: accepted, and their bytes
  pub back : (next_move v w Z t target).number ≡ 0
      → (u away : List ℕ) → length u ≡ length Z.bytes → length away ≡ length Z.window
      → move_call w v (next_move v w Z t target).bytes (next_move v w Z t target).window u away
      ≡ record { number = 0; bytes = Z.bytes; window = Z.window }
