-- The order of keys is a strict order in which any two different keys compare; a key's process is the lowest that takes
-- part.
use Rattle.std.specs.Prelude.{ℕ, ◌^◌, ◌<◌, ◌≤◌, ◌≡◌, true, false, ◌&&◌, ◌⊎◌, T, ltb, eqb, length}
use Rattle.std.proofs.Common.{arith, sym, ap, ◌∙◌, inl, inr, ⊎_elim, eqb→eq, ltb→lt, lt→ltb, eq-eqb}
use Rattle.std.proofs.Math.Decide.{dec_lt}
use Rattle.std.specs.Int.Count.{trailing_of_zero}
use Rattle.codec.specs.LowestBit.{trailing_lt, bit-trailing, bit_below_trailing}
use Rattle.clocks.specs.declared.Event.{Event}
use Rattle.clocks.specs.declared.Key.{Key}
use Rattle.clocks.specs.Event.{involved}
use Rattle.clocks.specs.cuts.EventLaws.{true-T}
use Rattle.clocks.specs.stored.BoundedLaws.{and_i, and_l, and_r, or_l, or_r, or_e}
use Rattle.clocks.specs.Key.{lowest, key_before, key_of}
use Rattle.clocks.specs.KeyOrder.{Before}
use Rattle.clocks.specs.Counts.{at}
use Rattle.clocks.specs.stored.CountsLaws.{at_beyond}

-- ---- The test, in plain statements
pub before_e : (a b : Key) → T (key_before a b) → Before a b
unfolding key_before
before_e a b t = ⊎_elim (λ l. inl (ltb→lt a.process b.process l)) both (or_e (ltb a.process b.process) (eqb a.process b.process && ltb a.count b.count) t)
  where
    both : T (eqb a.process b.process && ltb a.count b.count) → Before a b
    both w =
        inr (
          eqb→eq a.process b.process (and_l (eqb a.process b.process) (ltb a.count b.count) w),
          ltb→lt a.count b.count (and_r (eqb a.process b.process) (ltb a.count b.count) w),
        )

pub before_i : (a b : Key) → Before a b → T (key_before a b)
unfolding key_before
before_i a b (inl l) = or_l (ltb a.process b.process) (eqb a.process b.process && ltb a.count b.count) (lt→ltb a.process b.process l)
before_i a b (inr w) =
    or_r (ltb a.process b.process) (eqb a.process b.process && ltb a.count b.count)
    (and_i (eqb a.process b.process) (ltb a.count b.count) (true-T (eq-eqb a.process b.process w.0)) (lt→ltb a.count b.count w.1))

-- ---- A strict order
irreflexive : (a : Key) → Before a a → ⊥
irreflexive a (inl l) = omega arith
irreflexive a (inr w) = omega arith

transitive : (a b c : Key) → Before a b → Before b c → Before a c
transitive a b c (inl l) (inl k) = inl (omega arith)
transitive a b c (inl l) (inr k) = inl (omega arith)
transitive a b c (inr l) (inl k) = inl (omega arith)
transitive a b c (inr l) (inr k) = inr (omega arith, omega arith)

pub before_irreflexive : (a : Key) → T (key_before a a) → ⊥
before_irreflexive a t = irreflexive a (before_e a a t)

pub before_transitive : (a b c : Key) → T (key_before a b) → T (key_before b c) → T (key_before a c)
before_transitive a b c s t = before_i a c (transitive a b c (before_e a b s) (before_e b c t))

-- ... in which any two keys compare, or are the same
pub before-total : (a b : Key) → T (key_before a b) ⊎ ((a ≡ b) ⊎ T (key_before b a))
before-total a b = go (dec_lt a.process b.process) (dec_lt b.process a.process) (dec_lt a.count b.count) (dec_lt b.count a.count)
  where
    go : Dec (a.process < b.process) → Dec (b.process < a.process) → Dec (a.count < b.count) → Dec (b.count < a.count)
        → T (key_before a b) ⊎ ((a ≡ b) ⊎ T (key_before b a))
    go (yes l) d e f = inl (before_i a b (inl l))
    go (no l) (yes k) e f = inr (inr (before_i b a (inl k)))
    go (no l) (no k) (yes i) f = inl (before_i a b (inr (omega arith, i)))
    go (no l) (no k) (no i) (yes j) = inr (inr (before_i b a (inr (omega arith, j))))
    go (no l) (no k) (no i) (no j) =
        let p : a.process ≡ b.process = omega arith in
        let n : a.count ≡ b.count = omega arith in
        inr (inl (λ i. record { process = p i; count = n i }))

-- ---- The lowest process of an event of at most eight, with one that takes part
pub lowest-lt : (e : Event) → 0 < e.mask → e.mask < 2 ^ 8 → lowest e < 8
unfolding lowest
lowest-lt e p h = trailing_lt 8 e.mask p h

pub lowest-involved : (e : Event) → lowest e < 8 → involved e (lowest e) ≡ true
unfolding lowest involved
lowest-involved e l = bit-trailing 8 e.mask l

pub lowest_least : (e : Event) (q : ℕ) → q < lowest e → involved e q ≡ false
unfolding lowest involved
lowest_least e q l = bit_below_trailing 8 e.mask q l

-- A mask of 0 has none, and its key counts nothing.
pub lowest-none : (e : Event) → e.mask ≡ 0 → lowest e ≡ 8
unfolding lowest
lowest-none e z = rw z (trailing_of_zero 8)

-- ---- A key, put together from a process and a count
abbrev pub pair : ℕ → ℕ → Key
pair p n = record { process = p; count = n }

pub key_at : (e : Event) (p : ℕ) → p ≡ lowest e → pair p (at e.clock p) ≡ key_of e
unfolding key_of
key_at e p q = ap (λ (r : ℕ). pair r (at e.clock r)) q

-- past the end of the clock the count is 0
pub key_beyond : (e : Event) (p : ℕ) → length e.clock ≤ p → p ≡ lowest e → pair p 0 ≡ key_of e
key_beyond e p l q = ap (pair p) (sym (at_beyond e.clock p l)) ∙ key_at e p q
