-- When an event or start labels are turned back: each test in plain statements, and each number exactly in its turn.
use Rattle.std.specs.Prelude.{ℕ, zero, ◌*◌, ◌/◌, ◌^◌, ◌≤◌, ◌<◌, suc, ◌≡◌, refl, Bool, true, false, cond, not, ◌&&◌, ◌||◌, List, ◌↔◌, ◌≢◌, T, leb, eqb, length}
use Rattle.std.proofs.Common.{arith, div-lt_iff_lt-mul, lt_of_lt_of_le, sym, ap, ◌∙◌, true≢false, ⊎_elim, pow_pos, pow_mono, le-leb, leb-true, eq-eqb, ne_eqb, eqb-true}
use Rattle.std.proofs.Math.Decide.{dec_le, dec_lt}
use Rattle.std.proofs.Math.Nat.{div-eq_of_lt}
use Rattle.std.proofs.lemmas.Bool.{lt-leb, eqb-false, not-true, not-false}
use Rattle.codec.specs.Bit.{bit}
use Rattle.codec.specs.BitLaws.{bit-zero, bit_above, lt_of_bits}
use Rattle.codec.specs.LowestBit.{some-bit}
use Rattle.clocks.specs.declared.Event.{Event}
use Rattle.clocks.specs.Event.{involved, count}
use Rattle.clocks.specs.cuts.EventLaws.{either, true-T}
use Rattle.clocks.specs.Bounded.{any_below}
use Rattle.clocks.specs.stored.BoundedTurns.{any-false_i, any-false_e}
use Rattle.clocks.specs.stored.CountsLaws.{at_beyond}
use Rattle.clocks.specs.Refusal.{bad_mask, bad_count, bad_clock, bad_labels, bad_start, Faultless}
use Rattle.clocks.specs.RefusalCode.{event_fault}
use Rattle.clocks.specs.Counts.{at}

-- ---- Two tests together, both ways
or-false : (a b : Bool) → (a || b ≡ false) ↔ ((a ≡ false) × (b ≡ false))
or-false true b = (λ e. absurd (true≢false e), λ w. w.0)
or-false false b = (λ e. (refl, e), λ w. w.1)

-- ---- 7
pub mask_fine : (k m : ℕ) → m < 2 ^ 64 → (bad_mask k m ≡ false) ↔ ((0 < m) × (m < 2 ^ k))
unfolding bad_mask
mask_fine k m w = (there, back)
  where
    high : ℕ → Bool
    high p = leb k p && bit m p

    clear : any_below 64 high ≡ false → (p : ℕ) → k ≤ p → Dec (p < 64) → bit m p ≡ false
    clear h p l (yes j) = rw (le-leb k p l) at (any-false_e 64 high h p j)
    clear h p l (no j) = bit_above m 64 p w (omega arith)

    there : (eqb m 0 || any_below 64 high) ≡ false → (0 < m) × (m < 2 ^ k)
    there h =
        let s = (or-false (eqb m 0) (any_below 64 high)).0 h in
        let z : m ≡ 0 → ⊥ = eqb-false m 0 s.0 in
        (omega arith, lt_of_bits k m (λ p l. clear s.1 p l (dec_lt p 64)))

    low : m < 2 ^ k → (p : ℕ) → Dec (k ≤ p) → high p ≡ false
    low h p (yes l) = rw (le-leb k p l) (bit_above m k p h l)
    low h p (no l) = rw (lt-leb k p (omega arith))

    back : (0 < m) × (m < 2 ^ k) → (eqb m 0 || any_below 64 high) ≡ false
    back h =
        (or-false (eqb m 0) (any_below 64 high)).1
        (ne_eqb m 0 (λ (e : m ≡ 0). omega arith), any-false_i 64 high (λ p l. low h.1 p (dec_le k p)))

-- the test as a shift
pub mask_shift : (k m : ℕ) → m < 2 ^ 64 → m ≢ 0 → bad_mask k m ≡ not (eqb (m / 2 ^ k) 0)
mask_shift k m w z = ⊎_elim bad fine (either (bad_mask k m))
  where
    fine : bad_mask k m ≡ false → bad_mask k m ≡ not (eqb (m / 2 ^ k) 0)
    fine b = let q : m / 2 ^ k ≡ 0 = div-eq_of_lt ((mask_fine k m w).0 b).1 in rw (b, q)

    bad : bad_mask k m ≡ true → bad_mask k m ≡ not (eqb (m / 2 ^ k) 0)
    bad b = rw (b, ne_eqb (m / 2 ^ k) 0 (λ (q : m / 2 ^ k ≡ 0). true≢false (sym b ∙ (mask_fine k m w).1 (omega arith, below q))))
      where
        below : m / 2 ^ k ≡ 0 → m < 2 ^ k
        below q = let l : m < 1 * 2 ^ k = (div-lt_iff_lt-mul (pow_pos k)).0 (omega arith) in omega arith

-- ---- 8
is_false : (b : Bool) → (b ≡ true → ⊥) → b ≡ false
is_false true h = absurd (h refl)
is_false false h = refl

-- a choice by a third test
pub choice : (z a b : Bool) → cond z a b ≡ ((a && z) || (b && not z))
choice true true b = refl
choice true false true = refl
choice true false false = refl
choice false true true = refl
choice false true false = refl
choice false false true = refl
choice false false false = refl

-- one process: with b whether it takes part and n its count
count_fine : (b : Bool) (k p n : ℕ) → (((b && eqb n 0) || (leb k p && not (eqb n 0))) ≡ false) ↔ ((b ≡ true → 0 < n) × (k ≤ p → n ≡ 0))
count_fine b k p n = rw (← choice (eqb n 0) b (leb k p)) (chosen n)
  where
    chosen : (n : ℕ) → (cond (eqb n 0) b (leb k p) ≡ false) ↔ ((b ≡ true → 0 < n) × (k ≤ p → n ≡ 0))
    chosen zero =
        (λ h. (λ t. absurd (true≢false (sym t ∙ h)), λ l. refl), λ w. is_false b (λ t. let z : 0 < 0 = w.0 t in omega arith))
    chosen (suc n) = rw (ne_eqb (suc n) 0 (λ (z : suc n ≡ 0). omega arith)) (
      λ h. (λ t. omega arith, λ l. absurd (true≢false (sym (le-leb k p l) ∙ h))),
      λ w. is_false (leb k p) (λ t. let z : suc n ≡ 0 = w.1 (leb-true k p t) in omega arith),
    )

pub clock_fine : (k m : ℕ) (clock : List ℕ) → m < 2 ^ 8 → length clock ≤ 8 → (bad_clock k m clock ≡ false) ↔ ((p : ℕ) → (bit m p ≡ true → 0 < at clock p) × (k ≤ p → at clock p ≡ 0))
unfolding bad_clock
clock_fine k m clock low short = (λ h p. there h p (dec_lt p 8), λ w. any-false_i 8 (bad_count k m clock) (λ p l. (count_fine (bit m p) k p (at clock p)).1 (w p)))
  where
    there : any_below 8 (bad_count k m clock) ≡ false → (p : ℕ) → Dec (p < 8) → (bit m p ≡ true → 0 < at clock p) × (k ≤ p → at clock p ≡ 0)
    there h p (yes l) = (count_fine (bit m p) k p (at clock p)).0 (any-false_e 8 (bad_count k m clock) h p l)
    there h p (no l) = (λ t. absurd (true≢false (sym t ∙ bit_above m 8 p low (omega arith))), λ j. at_beyond clock p (omega arith))

-- ---- 9
-- one process: with a whether its label byte must be 0, and n that byte
label_fine : (a : Bool) (n : ℕ) → ((a && not (eqb n 0)) ≡ false) ↔ (a ≡ true → n ≡ 0)
label_fine true n = (λ h t. eqb-true n 0 (not-false (eqb n 0) h), λ w. ap not (eq-eqb n 0 (w refl)))
label_fine false n = (λ h t. absurd (true≢false (sym t)), λ w. refl)

-- a test for each of eight processes, and past the eighth there are no labels
labels_fine : (must : ℕ → Bool) (labels : List ℕ) → length labels ≤ 8
    → (any_below 8 (λ p. must p && not (eqb (at labels p) 0)) ≡ false) ↔ ((p : ℕ) → must p ≡ true → at labels p ≡ 0)
labels_fine must labels short = (λ h p. there h p (dec_lt p 8), λ w. any-false_i 8 test (λ p l. (label_fine (must p) (at labels p)).1 (w p)))
  where
    test : ℕ → Bool
    test p = must p && not (eqb (at labels p) 0)

    there : any_below 8 test ≡ false → (p : ℕ) → Dec (p < 8) → must p ≡ true → at labels p ≡ 0
    there h p (yes l) = (label_fine (must p) (at labels p)).0 (any-false_e 8 test h p l)
    there h p (no l) = λ t. at_beyond labels p (omega arith)

pub event_labels_fine : (m : ℕ) (labels : List ℕ) → length labels ≤ 8 → (bad_labels m labels ≡ false) ↔ ((p : ℕ) → bit m p ≡ false → at labels p ≡ 0)
unfolding bad_labels
event_labels_fine m labels short =
    let both = labels_fine (λ p. not (bit m p)) labels short in
    (λ h p b. both.0 h p (ap not b), λ w. both.1 (λ p b. w p (not-true (bit m p) b)))

pub start_labels_fine : (k : ℕ) (labels : List ℕ) → length labels ≤ 8 → (bad_start k labels ≡ false) ↔ ((p : ℕ) → k ≤ p → at labels p ≡ 0)
unfolding bad_start
start_labels_fine k labels short =
    let both = labels_fine (λ p. leb k p) labels short in
    (λ h p l. both.0 h p (le-leb k p l), λ w. both.1 (λ p b. w p (leb-true k p b)))

-- ---- Each number exactly in its turn
turn : Bool → Bool → Bool → ℕ
turn a b c = cond a 7 (cond b 8 (cond c 9 0))

-- what the number tells of the three tests
record Told (a b c : Bool) (n : ℕ) : Type 0 where
  at_7 : n ≡ 7 → a ≡ true
  at_8 : n ≡ 8 → (a ≡ false) × (b ≡ true)
  at_9 : n ≡ 9 → (a ≡ false) × (b ≡ false) × (c ≡ true)
  at_0 : n ≡ 0 → (a ≡ false) × (b ≡ false) × (c ≡ false)

told : (a b c : Bool) → Told a b c (turn a b c)
unfolding turn
told true b c = record { at_7 = λ e. refl; at_8 = λ e. absurd (omega arith); at_9 = λ e. absurd (omega arith); at_0 = λ e. absurd (omega arith) }
told false true c = record { at_7 = λ e. absurd (omega arith); at_8 = λ e. (refl, refl); at_9 = λ e. absurd (omega arith); at_0 = λ e. absurd (omega arith) }
told false false true = record { at_7 = λ e. absurd (omega arith); at_8 = λ e. absurd (omega arith); at_9 = λ e. (refl, refl, refl); at_0 = λ e. absurd (omega arith) }
told false false false = record { at_7 = λ e. absurd (omega arith); at_8 = λ e. absurd (omega arith); at_9 = λ e. absurd (omega arith); at_0 = λ e. (refl, refl, refl) }

module _ (k m : ℕ) (clock labels : List ℕ) where
  tells : Told (bad_mask k m) (bad_clock k m clock) (bad_labels m labels) (event_fault k m clock labels)
  unfolding turn event_fault
  tells = told (bad_mask k m) (bad_clock k m clock) (bad_labels m labels)

  pub fault_7 : (event_fault k m clock labels ≡ 7) ↔ (bad_mask k m ≡ true)
  unfolding event_fault
  fault_7 = (tells.at_7, λ a. rw a)

  pub fault_8 : (event_fault k m clock labels ≡ 8) ↔ ((bad_mask k m ≡ false) × (bad_clock k m clock ≡ true))
  unfolding event_fault
  fault_8 = (tells.at_8, λ w. rw (w.0, w.1))

  pub fault_9 : (event_fault k m clock labels ≡ 9) ↔ ((bad_mask k m ≡ false) × (bad_clock k m clock ≡ false) × (bad_labels m labels ≡ true))
  unfolding event_fault
  fault_9 = (tells.at_9, λ w. rw (w.0, w.1, w.2))

  pub fault_0 : (event_fault k m clock labels ≡ 0) ↔ ((bad_mask k m ≡ false) × (bad_clock k m clock ≡ false) × (bad_labels m labels ≡ false))
  unfolding event_fault
  fault_0 = (tells.at_0, λ w. rw (w.0, w.1, w.2))

-- ---- Theorem: no number exactly if the event is without fault
below_256 : (k m : ℕ) → k ≤ 8 → m < 2 ^ k → m < 2 ^ 8
below_256 k m l h = lt_of_lt_of_le h (pow_mono l)

bit_positive : (m p : ℕ) → T (bit m p) → 0 < m
bit_positive zero p t = absurd (rw (bit-zero p) at t)
bit_positive (suc m) p t = omega arith

pub no_fault : (k : ℕ) (e : Event) → k ≤ 8 → e.mask < 2 ^ 64 → length e.clock ≡ 8 → length e.labels ≡ 8
    → (event_fault k e.mask e.clock e.labels ≡ 0) ↔ Faultless k e
unfolding involved count
no_fault k e eight word c8 l8 = (there, back)
  where
    there : event_fault k e.mask e.clock e.labels ≡ 0 → Faultless k e
    there z =
        let w = (fault_0 k e.mask e.clock e.labels).0 z in
        let m = (mask_fine k e.mask word).0 w.0 in
        let c = (clock_fine k e.mask e.clock (below_256 k e.mask eight m.1) (omega arith)).0 w.1 in
        let b = some-bit e.mask (λ (q : e.mask ≡ 0). omega (arith, m.0)) in
        record {
          formed = record { occupied = (b.0, true-T b.1); below = λ p l. bit_above e.mask k p m.1 l; silent = λ p l. (c p).1 l };
          counted = λ p b. (c p).0 b;
          unlabelled = (event_labels_fine e.mask e.labels (omega arith)).0 w.2;
        }

    back : Faultless k e → event_fault k e.mask e.clock e.labels ≡ 0
    back f =
        let m : e.mask < 2 ^ k = lt_of_bits k e.mask f.formed.below in
        (fault_0 k e.mask e.clock e.labels).1 (
          (mask_fine k e.mask word).1 (bit_positive e.mask f.formed.occupied.0 f.formed.occupied.1, m),
          (clock_fine k e.mask e.clock (below_256 k e.mask eight m) (omega arith)).1 (λ p. (f.counted p, f.formed.silent p)),
          (event_labels_fine e.mask e.labels (omega arith)).1 f.unlabelled,
        )
