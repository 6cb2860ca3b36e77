-- A shared call by the plain call and the number that this is turned back with: what turns the shared one back, and
-- what is known where nothing does. For all three calls.
use Prim.Native.Nat.{ℕ, ◌<◌}
use native.Mathlib.Omega.{arith}
use mathlib.Core.Path.{◌≡◌, refl, sym, ap, ◌∙◌}
use mathlib.Core.Bool.{Bool, true, false, cond, ◌||◌}
use mathlib.Core.List.{List}
use lib.Dec.{eqb, lit<}
use lib.ListN.{length}
use Rattle.std.proofs.Common.{Result, Ok, Err}
use Rattle.numbers.specs.declared.refusal.Refusal.{Refusal}
use Rattle.numbers.specs.declared.refusal.Refusal.TheVariants.{Grammar, Nesting, TooManyLines, Atom, Processes, Length, Mask, Clock, Labels, LineLimit, NoSuchLine, Taken, Conflict, Full, State, FalseClock, NoRoom, NotOpen, Named, TooLarge, ShortPage, Day, Busy, Shares}
use Rattle.numbers.specs.RefusalNumber as numbers
use Rattle.clocks.specs.stored.BoundedLaws.{or-false_e}
use Rattle.answers.specs.Turns.{passed}
use Rattle.pool.specs.Pool.{bad_pool_length, no_share}
use Rattle.pool.specs.PoolLaws.{length_right}
use Rattle.call_shared.specs.Shared.{Shared, pool_after}
use Rattle.call_shared.specs.SharedLaws.{Kind, turned, went, share_below}
use Rattle.call_shared.specs.SharedCode.{shared_fault}

-- No other refusal has the number of a wrong length.
pub only_length : (plain : Result (Unit {0}) Refusal) → numbers.refused plain ≡ 6 → plain ≡ Err Length
only_length (Ok _) e = absurd (omega arith)
only_length (Err Length) e = refl
only_length (Err Grammar) e = absurd (omega arith)
only_length (Err Nesting) e = absurd (omega arith)
only_length (Err TooManyLines) e = absurd (omega arith)
only_length (Err Atom) e = absurd (omega arith)
only_length (Err Processes) e = absurd (omega arith)
only_length (Err Mask) e = absurd (omega arith)
only_length (Err Clock) e = absurd (omega arith)
only_length (Err Labels) e = absurd (omega arith)
only_length (Err LineLimit) e = absurd (omega arith)
only_length (Err NoSuchLine) e = absurd (omega arith)
only_length (Err Taken) e = absurd (omega arith)
only_length (Err Conflict) e = absurd (omega arith)
only_length (Err Full) e = absurd (omega arith)
only_length (Err State) e = absurd (omega arith)
only_length (Err FalseClock) e = absurd (omega arith)
only_length (Err NoRoom) e = absurd (omega arith)
only_length (Err NotOpen) e = absurd (omega arith)
only_length (Err Named) e = absurd (omega arith)
only_length (Err TooLarge) e = absurd (omega arith)
only_length (Err ShortPage) e = absurd (omega arith)
only_length (Err Day) e = absurd (omega arith)
only_length (Err Busy) e = absurd (omega arith)
only_length (Err Shares) e = absurd (omega arith)

module _ {A : Type 0} (K : Kind A) (pool : List ℕ) (i : ℕ) where
  abbrev refused : ℕ → Shared A
  refused n = turned K pool i n

  abbrev done : A → Shared A
  done x = went K pool i x

  -- A shared call by the number that the plain call is turned back with, and this call.
  abbrev pub by_fault : ℕ → A → Shared A
  by_fault p x = cond (eqb p 6 || bad_pool_length (length pool)) (refused 6) (cond (no_share pool i) (refused 34) (done x))

  went_back : (n : ℕ) → done (K.back n) ≡ refused n
  unfolding pool_after
  went_back n = rw (K.refuses n)

  pub fault_turned : (p : ℕ) (x : A) → ((p ≡ 0 → ⊥) → x ≡ K.back p) → (n : ℕ) → n ≡ shared_fault p pool i → 0 < n
      → by_fault p x ≡ refused n
  unfolding shared_fault
  fault_turned p x plain n e some = go (eqb p 6 || bad_pool_length (length pool)) (no_share pool i) e
    where
      go : (a b : Bool) → n ≡ cond a 6 (cond b 34 p) → cond a (refused 6) (cond b (refused 34) (done x)) ≡ refused n
      go true b f = ap refused (sym f)
      go false true f = ap refused (sym f)
      go false false f = ap done (plain (λ z. omega arith)) ∙ went_back p ∙ ap refused (sym f)

  pub fault_passed : (p : ℕ) (x : A) → shared_fault p pool i ≡ 0
      → (p ≡ 0) × (length pool ≡ 32) × (i < 8) × (by_fault p x ≡ done x)
  unfolding shared_fault
  fault_passed p x h =
      let wrong = eqb p 6 || bad_pool_length (length pool) in
      let lengths = passed wrong 6 (cond (no_share pool i) 34 p) (lit< tt) h in
      let share = passed (no_share pool i) 34 p (lit< tt) lengths.1 in
      let long = (or-false_e (eqb p 6) (bad_pool_length (length pool)) lengths.0).1 in
      (share.1, length_right (length pool) long, share_below pool i share.0, rw (lengths.0, share.0))

  -- ---- The plain numbers: 6 and 34 of take and close, 6, 5 and 9 of open

  pub two_turned : (a c : Bool) (x : A) → (◌≡◌ {A = ℕ} (cond a 6 (cond c 34 0)) 0 → ⊥)
      → cond a (K.back 6) (cond c (K.back 34) x) ≡ K.back (cond a 6 (cond c 34 0))
  two_turned true c x h = refl
  two_turned false true x h = refl
  two_turned false false x h = absurd (h refl)

  -- The plain 34 and that of the number are one refusal.
  pub two_by : (a b c d : Bool) (x : A) → let y = cond a (K.back 6) (cond c (K.back 34) x) in
      cond (a || b) (refused 6) (cond (c || d) (refused 34) (done y))
      ≡ cond (eqb (cond a 6 (cond c 34 0)) 6 || b) (refused 6) (cond d (refused 34) (done y))
  two_by true b c d x = refl
  two_by false true true d x = refl
  two_by false true false d x = refl
  two_by false false true true x = refl
  two_by false false true false x = sym (went_back 34)
  two_by false false false d x = refl

  pub three_by : (a b c d e : Bool) (x : A)
      → cond (a || b) (refused 6) (cond d (refused 34) (done x))
      ≡ cond (eqb (cond a 6 (cond c 5 (cond e 9 0))) 6 || b) (refused 6) (cond d (refused 34) (done x))
  three_by true b c d e x = refl
  three_by false b true d e x = refl
  three_by false b false d true x = refl
  three_by false b false d false x = refl
