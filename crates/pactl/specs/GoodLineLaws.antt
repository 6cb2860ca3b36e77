-- What a good line of a table is: of one of the six kinds, naming a process that is there or earlier lines.
use Prim.Native.Nat.{ℕ, zero, suc, ◌+◌, ◌<◌}
use Rattle.std.proofs.Common.{arith, sym, ◌∙◌, true≢false, ltb-true, eqb-true, ne_eqb}
use Rattle.std.specs.Prelude.{◌≡◌, true, false, ◌&&◌, List, [], ◌∷◌, leb, ltb, eqb, length, get_or}
use Rattle.std.proofs.lemmas.Bool.{lt-leb}
use Rattle.clocks.specs.stored.BoundedLaws.{and-true}
use Rattle.pactl.specs.declared.Line.{Line}
use Rattle.pactl.specs.Line.{line, proposition_line, not_line, and_line, ey_line, es_line, as_line}
use Rattle.pactl.specs.Table.{good_line, good_from, good_table}

-- Each line of a good table is good.
good_from_lem : (k i : ℕ) (ls : List Line) (j : ℕ) → good_from k i ls ≡ true → j < length ls
    → good_line k (i + j) (get_or ls j (line 0 0 0)) ≡ true
unfolding good_from
good_from_lem k i [] j g h = absurd (omega arith)
good_from_lem k i (l ∷ ls) zero g h =
    let e : i + 0 ≡ i = omega arith in rw e (and-true (good_line k i l) (good_from k (i + 1) ls) g).0
good_from_lem k i (l ∷ ls) (suc j) g h =
    let e : i + suc j ≡ i + 1 + j = omega arith in
    rw e (good_from_lem k (i + 1) ls j (and-true (good_line k i l) (good_from k (i + 1) ls) g).1 (omega arith))

pub good_at : (k : ℕ) (ls : List Line) (i : ℕ) → good_table k ls ≡ true → i < length ls
    → good_line k i (get_or ls i (line 0 0 0)) ≡ true
good_at k ls i g h = let e : 0 + i ≡ i = omega arith in rw e at (good_from_lem k 0 ls i g h)

-- ---- The kinds
no_kind_above : (k i kind a b : ℕ) → 5 < kind → good_line k i (line kind a b) ≡ false
unfolding good_line
no_kind_above k i kind a b h =
    rw (
      ne_eqb kind 0 (λ e. omega (arith, e)),
      ne_eqb kind 1 (λ e. omega (arith, e)),
      ne_eqb kind 3 (λ e. omega (arith, e)),
      lt-leb kind 5 h,
    )

-- a names an earlier line and b nothing; both name earlier lines
one-named : (i a b : ℕ) → ltb a i && eqb b 0 ≡ true → (a < i) × (b ≡ 0)
one-named i a b h = let p = and-true (ltb a i) (eqb b 0) h in (ltb-true a i p.0, eqb-true b 0 p.1)

two_named : (i a b : ℕ) → ltb a i && ltb b i ≡ true → (a < i) × (b < i)
two_named i a b h = let p = and-true (ltb a i) (ltb b i) h in (ltb-true a i p.0, ltb-true b i p.1)

-- What is true of a good line of each kind is true of every good line.
module _ (k i : ℕ) (P : Line → Type 0)
    (of_proposition : (a b : ℕ) → a < k → P (proposition_line a b))
    (of_not : (a : ℕ) → a < i → P (not_line a))
    (of_and : (a b : ℕ) → a < i → b < i → P (and_line a b))
    (of_ey : (a : ℕ) → a < i → P (ey_line a))
    (of_es : (a b : ℕ) → a < i → b < i → P (es_line a b))
    (of_as : (a b : ℕ) → a < i → b < i → P (as_line a b)) where
  of_kind : (kind a b : ℕ) → good_line k i (line kind a b) ≡ true → P (line kind a b)
  unfolding good_line
  of_kind zero a b h = of_proposition a b (ltb-true a k (and-true (ltb a k) (leb b 7) h).0)
  of_kind (suc zero) a b h = let n = one-named i a b h in rw n.1 (of_not a n.0)
  of_kind (suc (suc zero)) a b h = let n = two_named i a b h in of_and a b n.0 n.1
  of_kind (suc (suc (suc zero))) a b h = let n = one-named i a b h in rw n.1 (of_ey a n.0)
  of_kind (suc (suc (suc (suc zero)))) a b h = let n = two_named i a b h in of_es a b n.0 n.1
  of_kind (suc (suc (suc (suc (suc zero))))) a b h = let n = two_named i a b h in of_as a b n.0 n.1
  of_kind (suc (suc (suc (suc (suc (suc n)))))) a b h =
      absurd (true≢false (sym h ∙ no_kind_above k i (suc (suc (suc (suc (suc (suc n)))))) a b (omega arith)))

  pub by_kind : (l : Line) → good_line k i l ≡ true → P l
  by_kind l h = of_kind l.kind l.a l.b h

-- What a good line that is no proposition has in a and b are earlier lines, an unused b too.
pub good_earlier : (k i : ℕ) (l : Line) → good_line k i l ≡ true → eqb l.kind 0 ≡ false → (l.a < i) × (l.b < i)
good_earlier k i =
    by_kind k i (λ l. eqb l.kind 0 ≡ false → (l.a < i) × (l.b < i))
    (λ a b la e. absurd (true≢false e))
    (λ a la e. (la, omega (arith, la)))
    (λ a b la lb e. (la, lb))
    (λ a la e. (la, omega (arith, la)))
    (λ a b la lb e. (la, lb))
    (λ a b la lb e. (la, lb))
