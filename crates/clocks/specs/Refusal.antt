-- What an event or start labels are turned back for, each condition in 01's words (01, Turned back, from the input: 7,
-- 8, 9).
use Rattle.std.specs.Prelude.{ℕ, ◌<◌, ◌≡◌, Bool, true, false, not, ◌&&◌, ◌||◌, List, leb, eqb}
use Rattle.codec.specs.Bit.{bit}
use Rattle.clocks.specs.declared.Event.{Event}
use Rattle.clocks.specs.Event.{involved, count}
use Rattle.clocks.specs.Valid.{WellFormed}
use Rattle.clocks.specs.Bounded.{any_below}
use Rattle.clocks.specs.Counts.{at}

-- 7: the mask, a word of 64 bits, is 0, or has a bit from k up.
unfoldable pub bad_mask : (k m : ℕ) → Bool
bad_mask k m = eqb m 0 || any_below 64 (λ p. leb k p && bit m p)

-- What 8 asks of process p: it takes part and its count is 0, or it is none of the k and its count is not 0.
abbrev pub bad_count : (k m : ℕ) (clock : List ℕ) (p : ℕ) → Bool
bad_count k m clock p = (bit m p && eqb (at clock p) 0) || (leb k p && not (eqb (at clock p) 0))

-- 8: count 0 at a process that takes part, or not 0 from process k up.
unfoldable pub bad_clock : (k m : ℕ) (clock : List ℕ) → Bool
bad_clock k m clock = any_below 8 (bad_count k m clock)

-- What 9 asks of process p: it does not take part, or at open is none of the k, and its label byte is not 0.
abbrev pub bad_label : (m : ℕ) (labels : List ℕ) (p : ℕ) → Bool
bad_label m labels p = not (bit m p) && not (eqb (at labels p) 0)

abbrev pub bad_start_label : (k : ℕ) (labels : List ℕ) (p : ℕ) → Bool
bad_start_label k labels p = leb k p && not (eqb (at labels p) 0)

-- 9, of an event: a label byte not 0 at a process that does not take part.
unfoldable pub bad_labels : (m : ℕ) (labels : List ℕ) → Bool
bad_labels m labels = any_below 8 (bad_label m labels)

-- 9, at open: a label byte not 0 from process k up.
unfoldable pub bad_start : (k : ℕ) (labels : List ℕ) → Bool
bad_start k labels = any_below 8 (bad_start_label k labels)

-- An event that none of the three turns back, in plain words.
pub record Faultless (k : ℕ) (e : Event) : Type 0 where
  pub formed : WellFormed k e
  pub counted : (p : ℕ) → involved e p ≡ true → 0 < count e p
  pub unlabelled : (p : ℕ) → involved e p ≡ false → at e.labels p ≡ 0
