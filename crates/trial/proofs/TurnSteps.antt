-- The order of the pending events one event at a time, as loops go through them.
use Prim.Native.Nat.{ℕ, zero, suc, ◌+◌, ◌-◌, ◌≤◌, ◌<◌}
use native.Mathlib.Omega.{arith}
use mathlib.Core.Path.{◌≡◌, refl, ap, ◌∙◌}
use mathlib.Core.Bool.{true, false}
use mathlib.Core.List.{List, ◌∷◌, ◌++◌}
use lib.ListN.{drop, get_or}
use borrow.Author.Tests.{le-leb, lt-leb}
use Rattle.clocks.specs.Key.{lowest}
use Rattle.clocks.specs.cuts.EventLaws.{true-T}
use Rattle.clocks.specs.stored.CountsLaws.{length-list_of, rest_next, rest_end}
use Rattle.records.specs.Record.{pending_count, pending_at, pending_events}
use Rattle.trial.specs.Trial.{places_of, places_from, in_turn}
use Rattle.trial.specs.TurnLaws.{ascending, places_here, places_pass, none_beyond, turn_stands_at}

-- ---- Do their lowest processes ascend?
module _ (w : ℕ) (s : List ℕ) (last i : ℕ) where
  pub up_end : pending_count s ≤ i → ascending last (drop i (pending_events w s)) ≡ true
  unfolding ascending pending_events
  up_end l = rw (rest_end (pending_count s) (pending_at w s) i l)

  pub up_next : i < pending_count s → last ≤ lowest (pending_at w s i)
      → ascending last (drop i (pending_events w s))
      ≡ ascending (lowest (pending_at w s i)) (drop (i + 1) (pending_events w s))
  unfolding ascending pending_events
  up_next l h = rw (rest_next (pending_count s) (pending_at w s) i l, le-leb last (lowest (pending_at w s i)) h)

  pub up_down : i < pending_count s → lowest (pending_at w s i) < last
      → ascending last (drop i (pending_events w s)) ≡ false
  unfolding ascending pending_events
  up_down l h = rw (rest_next (pending_count s) (pending_at w s) i l, lt-leb last (lowest (pending_at w s i)) h)

-- Where they do, an event's turn is its place.
pub turn-there : (w : ℕ) (s : List ℕ) (turn : ℕ) → ascending 0 (pending_events w s) ≡ true → turn < pending_count s
    → get_or (in_turn (pending_events w s)) turn 0 ≡ turn
unfolding pending_events
turn-there w s turn a l =
    turn_stands_at (pending_events w s) (true-T a) turn (omega (arith, length-list_of (pending_count s) (pending_at w s)))

-- ---- The turns from that of pending event i on, where those of process p and then the higher ones are gone through
unfoldable pub remaining : (w : ℕ) (s : List ℕ) (p i : ℕ) → List ℕ
remaining w s p i = places_of p i (drop i (pending_events w s)) ++ places_from (8 - p) (p + 1) 0 (pending_events w s)

-- After the last event of a process come those of the next.
after_last : (w : ℕ) (s : List ℕ) (p n : ℕ) → 8 - p ≡ n
    → places_from n (p + 1) 0 (pending_events w s) ≡ remaining w s (p + 1) 0
unfolding remaining places_from
after_last w s p zero q =
    let z : 8 - (p + 1) ≡ 0 = omega arith in
    rw (z, none_beyond (p + 1) 0 (pending_events w s) (omega arith))
after_last w s p (suc n) q = let z : 8 - (p + 1) ≡ n = omega arith in rw z

module _ (w : ℕ) (s : List ℕ) where
  pub sought-first : (turn : ℕ) → get_or (in_turn (pending_events w s)) turn 0 ≡ get_or (remaining w s 0 0) turn 0
  unfolding remaining places_from
  sought-first turn = refl

  pub sought-end : (p i left : ℕ) → 8 < p → get_or (remaining w s p i) left 0 ≡ 0
  unfolding remaining places_from
  sought-end p i left l =
      let z : 8 - p ≡ 0 = omega arith in
      rw (z, none_beyond p i (drop i (pending_events w s)) l)

  pub sought_over : (p i left : ℕ) → pending_count s ≤ i
      → get_or (remaining w s p i) left 0 ≡ get_or (remaining w s (p + 1) 0) left 0
  unfolding pending_events
  sought_over p i left l = ap (λ (is : List ℕ). get_or is left 0) (over ∙ after_last w s p (8 - p) refl)
    where
      over : remaining w s p i ≡ places_from (8 - p) (p + 1) 0 (pending_events w s)
      over = unfold remaining in (unfold places_of in (rw (rest_end (pending_count s) (pending_at w s) i l)))

  module _ (p i : ℕ) (l : i < pending_count s) where
    pub sought_pass : (left : ℕ) → (lowest (pending_at w s i) ≡ p → ⊥)
        → get_or (remaining w s p i) left 0 ≡ get_or (remaining w s p (i + 1)) left 0
    unfolding remaining pending_events
    sought_pass left h = rw (rest_next (pending_count s) (pending_at w s) i l, places_pass p i (pending_at w s i) _ h)

    remaining-here : lowest (pending_at w s i) ≡ p → remaining w s p i ≡ i ∷ remaining w s p (i + 1)
    unfolding remaining pending_events
    remaining-here h = rw (rest_next (pending_count s) (pending_at w s) i l, places_here p i (pending_at w s i) _ h)

    pub sought-here : (left : ℕ) → lowest (pending_at w s i) ≡ p → left ≡ 0 → get_or (remaining w s p i) left 0 ≡ i
    sought-here left h z = rw (remaining-here h, z)

    pub sought_next : (left : ℕ) → lowest (pending_at w s i) ≡ p → (left ≡ 0 → ⊥)
        → get_or (remaining w s p i) left 0 ≡ get_or (remaining w s p (i + 1)) (left - 1) 0
    sought_next zero h z = absurd (z refl)
    sought_next (suc left) h z =
        let one : suc left - 1 ≡ left = omega arith in rw (remaining-here h, one)
