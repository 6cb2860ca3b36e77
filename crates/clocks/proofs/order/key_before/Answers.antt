-- The derived order compares processes, and then counts.
use Rattle.std.specs.Prelude.{ℕ, ◌≡◌, ◌&&◌, ◌||◌, Some, ltb, eqb}
use Rattle.std.specs.Ordering.{is_lt, is_some_and, nat_cmp, partial_ordering_then}
use Rattle.std.proofs.Common.{arith, ◌∙◌}
use Rattle.std.proofs.lemmas.Bool.Decides.{nat_tests}
use Rattle.clocks.specs.Key.{key_before}
use Rattle.clocks.proofs.order.key_before.Goals as goal

derived : (p q m n : ℕ) → is_some_and is_lt (partial_ordering_then (Some (nat_cmp p q)) (Some (nat_cmp m n))) ≡ (ltb p q || (eqb p q && ltb m n))
derived p q m n = grind (arith, nat_tests)

pub returns : goal.returns
unfolding key_before
returns c = let a = c.args.a in let b = c.args.b in c.lt.ensures ∙ derived a.process b.process a.count b.count
