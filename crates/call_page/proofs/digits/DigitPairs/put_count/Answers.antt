use native.Mathlib.Omega.{arith}
use mathlib.Core.Path.{◌≡◌, ap, ◌∙◌}
use Prim.Native.Nat.{ℕ, ◌≤◌, ◌<◌, ◌-◌, ◌+◌, ◌/◌, ◌%◌}
use mathlib.Core.List.{List, [], ◌∷◌}
use lib.ListN.{set, replicate}
use lib.Seq.{sets}
use Rattle.codec.specs.Decimal.{numeral}
use Rattle.call_page.specs.Page.{aligned}
use Rattle.call_page.proofs.StoreSteps.{with_part, blanked}
use Rattle.call_page.proofs.CountSteps.{Laid, none_laid, pair_laid, last-pair, last_laid, column_stands}
use Rattle.call_page.proofs.digits.DigitPairs.put_count.Goals as goal
use Rattle.call_page.proofs.digits.DigitPairs.put_count.Goals.{At-loop-rest}

-- The page where the column is blank.
abbrev blank : At-loop-rest → List ℕ
blank h = with_part h.args.page.now h.args.at (h.args.at + 11 - h.args.at) h.fill.new.self

blanks : (h : At-loop-rest) → blank h ≡ sets h.args.page.now h.args.at (replicate 11 32)
blanks h = blanked h.args.page.now h.args.at (h.args.at + 11) 11 _ (omega arith) (omega arith) (h.fill.ensures.after (λ y e. e))

-- ---- Digits from the last up

-- Two digits more; the last two; the last one.
turn : (h : At-loop-rest) → let l = h.loop-rest in 100 ≤ l.rest
    → (3 ≤ l.i) × Laid (blank h) h.args.at h.args.count
    (sets l.page (h.args.at + (l.i - 2)) ((48 + l.rest % 100 / 10) ∷ (48 + l.rest % 100 % 10) ∷ []))
    (l.rest / 100) (l.i - 2)
turn h =
    pair_laid (blank h) h.args.at h.args.count (omega arith) h.loop-rest.page
    h.loop-rest.i h.loop-rest.rest h.loop-rest.invariant

pair : (h : At-loop-rest) → let l = h.loop-rest in 10 ≤ l.rest → l.rest < 100
    → (2 ≤ l.i)
    × (sets l.page (h.args.at + (l.i - 2)) ((48 + l.rest / 10) ∷ (48 + l.rest % 10) ∷ [])
    ≡ sets (blank h) h.args.at (aligned 11 (numeral h.args.count)))
pair h =
    last-pair (blank h) h.args.at h.args.count (omega arith) h.loop-rest.page
    h.loop-rest.i h.loop-rest.rest h.loop-rest.invariant

-- The column stands where the function began.
stands : (h : At-loop-rest) (page : List ℕ)
    → page ≡ sets (blank h) h.args.at (aligned 11 (numeral h.args.count))
    → page ≡ sets h.args.page.now h.args.at (aligned 11 (numeral h.args.count))
stands h page =
    column_stands (blank h) h.args.at h.args.count (omega arith)
    h.args.page.now page (blanks h)

-- ---- The goals

pub loop-rest-init : goal.loop-rest-init
loop-rest-init c =
    let a = c.args in
    let clear = blanked a.page.now a.at (a.at + 11) 11 _ (omega arith) (omega arith) (c.fill.ensures.after (λ y e. e)) in
    none_laid _ a.at a.count (omega arith) a.page.now clear

pub overflow_sub-i : goal.overflow_sub-i
overflow_sub-i c = omega (arith, (turn (goal.at.overflow_sub-i c).At-loop-rest c.loop-rest-test.true).0)

pub loop-rest-smaller : goal.loop-rest-smaller
loop-rest-smaller c = omega (arith, (turn (goal.at.loop-rest-smaller c).At-loop-rest c.loop-rest-test.true).0)

pub loop-rest-preserved : goal.loop-rest-preserved
loop-rest-preserved c =
    rw c.put.ensures (turn (goal.at.loop-rest-preserved c).At-loop-rest c.loop-rest-test.true).1

pub overflow_sub-at : goal.overflow_sub-at
overflow_sub-at c =
    omega (arith, (pair (goal.at.overflow_sub-at c).At-loop-rest c.if-rest-ge10.true (omega arith)).0)

pub returns-then-rest-ge10 : goal.returns-then-rest-ge10
returns-then-rest-ge10 c =
    let both = pair (goal.at.returns-then-rest-ge10 c).At-loop-rest c.if-rest-ge10.true (omega arith) in
    let place : c.args.at + c.loop-rest.i - 2 ≡ c.args.at + (c.loop-rest.i - 2) = omega (arith, both.0) in
    stands (goal.at.returns-then-rest-ge10 c).At-loop-rest _ (c.put-then-rest-ge10.ensures ∙ rw place both.1)

pub returns-else-rest-ge10 : goal.returns-else-rest-ge10
returns-else-rest-ge10 c =
    let l = c.loop-rest in
    let a = c.args in
    let h = (goal.at.returns-else-rest-ge10 c).At-loop-rest in
    let small : l.rest ≡ l.rest % 10 = omega arith in
    let place : a.at + l.i - 1 ≡ a.at + (l.i - 1) = omega (arith, l.invariant.some) in
    let last =
    last_laid (blank h) a.at a.count (omega arith) l.page l.i l.rest l.invariant
    (omega arith) in
    stands h _ (rw place (ap (λ (d : ℕ). set l.page (a.at + (l.i - 1)) (48 + d)) small ∙ last))
