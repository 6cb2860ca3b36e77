-- Digits one by one: the step of the code's loop, and a number by the tests in the code's order.
use Prim.Native.Nat.{ℕ, ◌+◌, ◌-◌, ◌*◌, ◌≤◌, ◌<◌}
use native.Mathlib.Omega.{arith}
use mathlib.Core.Path.{◌≡◌, refl, sym, ap}
use mathlib.Core.Bool.{Bool, true, false, cond, ◌&&◌}
use mathlib.Core.List.{List, [], ◌∷◌}
use mathlib.Core.Logic.{inl, inr}
use lib.Dec.{ltb, leb, eqb}
use lib.ListN.{length, drop}
use borrow.Author.Tests.{ltb-true, ltb-false, leb-true, leb-false, lt-ltb, le-leb, lt-leb}
use Rattle.rules.specs.Text.{byte_at}
use Rattle.line_pieces.specs.Read.{At, Refused}
use Rattle.codec.specs.Decimal.{digits, value_from, value}
use Rattle.line_pieces.specs.Number.{number_of, number_at}
use Rattle.line_pieces.specs.Digits.{largest, grown, Says, DigitsRead}
use Rattle.line_pieces.specs.NumberLaws.{digits-first, value_from_grows}

-- Two comparisons with the same answer.
ltb-same : (a b c d : ℕ) → (a < b → c < d) → (c < d → a < b) → ltb a b ≡ ltb c d
ltb-same a b c d f g = go (ltb a b) refl
  where
    go : (t : Bool) → ltb a b ≡ t → t ≡ ltb c d
    go true e = sym (lt-ltb c d (f (ltb-true a b e)))
    go false e = go' (ltb c d) refl
      where
        go' : (t : Bool) → ltb c d ≡ t → false ≡ t
        go' true q = absurd (omega (arith, ltb-false a b e, g (ltb-true c d q)))
        go' false q = refl

pub says_next : (v c : ℕ) (ds : List ℕ) (w : ℕ) → Says v (c ∷ ds) w → Says (grown v c) ds w
unfolding value_from grown
says_next v c ds w h = go (leb v largest) refl h
  where
    go : (t : Bool) → leb v largest ≡ t → Says v (c ∷ ds) w → Says (cond t (10 * v + (c - 48)) v) ds w
    go true e (inl q) = inl q
    go true e (inr q) = absurd (omega (arith, leb-true v largest e, q.0))
    go false e (inl q) = let p = leb-false v largest e in inr (p, omega (arith, value_from_grows (10 * v + (c - 48)) ds))
    go false e (inr q) = inr q

-- Within the limits, judged by the number that the code keeps.
judged : (v w least most end i : ℕ) → Says v [] w → most ≤ largest
    → cond (leb least w && leb w most) (At end w) (Refused 10 i)
    ≡ cond (leb least v && leb v most) (At end v) (Refused 10 i)
unfolding value_from
judged v w least most end i (inl e) h = rw (← e)
judged v w least most end i (inr q) h =
    let a : leb w most ≡ false = lt-leb w most (omega (arith, q.1)) in
    let b : leb v most ≡ false = lt-leb v most (omega (arith, q.0)) in
    rw (a, b) (go (leb least w) (leb least v))
  where
    go : (a b : Bool) → cond (a && false) (At end w) (Refused 10 i) ≡ cond (b && false) (At end v) (Refused 10 i)
    go true true = refl
    go true false = refl
    go false true = refl
    go false false = refl

-- The tests in the code's order.
pub number_step : (s : List ℕ) (i end v least most : ℕ) → DigitsRead s i end v → most ≤ largest
    → number_at s i least most
    ≡ cond (leb end i) (Refused 1 i)
    (cond (eqb (byte_at s i) 48 && ltb (i + 1) end) (Refused 1 (i + 1))
    (cond (leb least v && leb v most) (At end v) (Refused 10 i)))
unfolding number_at number_of
number_step s i end v least most found h = go (digits (drop i s)) refl
  where
    go : (ds : List ℕ) → digits (drop i s) ≡ ds
        → number_of ds i least most
        ≡ cond (leb end i) (Refused 1 i)
        (cond (eqb (byte_at s i) 48 && ltb (i + 1) end) (Refused 1 (i + 1))
        (cond (leb least v && leb v most) (At end v) (Refused 10 i)))
    go [] e = rw (le-leb end i (omega (arith, found.ends, ap length e)))
    go (d ∷ ds) e =
        let end_is : end ≡ i + length (d ∷ ds) = rw e at found.ends in
        let first : d ≡ byte_at s i = digits-first s i d ds e in
        let some : leb end i ≡ false = lt-leb end i (omega arith) in
        let more : ltb (i + 1) end ≡ ltb 0 (length ds) =
        ltb-same (i + 1) end 0 (length ds) (λ p. omega arith) (λ p. omega arith) in
        rw (some, ← first, more, ← end_is, judged v (value (d ∷ ds)) least most end i (rw e at found.says) h)
