-- The tests lead as in `fresh_at`.
use native.Mathlib.Omega.{arith}
use mathlib.Core.Path.{◌≡◌, sym, ap, ◌∙◌, subst}
use Prim.Native.Nat.{ℕ}
use mathlib.Core.List.{List}
use borrow.Author.Tests.{lt-ltb, le-ltb}
use Rattle.frontiers.specs.WindowLaws.{place-within}
use lib.Dec.{T}
use Rattle.clocks.specs.Event.{apply}
use Rattle.clocks.specs.cuts.EventLaws.{true-T}
use Rattle.clocks.specs.Counts.{at, list_of}
use Rattle.clocks.specs.Tested.{ready}
use Rattle.frontiers.specs.Bytes.{frontier_at}
use Rattle.lookup.specs.Order.{before}
use Rattle.std.proofs.Common.{rules}
use Rattle.window_step.proofs.merge.fresh_first.Goals as goal

pub returns-then-n-j : goal.returns-then-n-j
returns-then-n-j c = let a = c.args in rw (le-ltb a.j a.n (search rules))

pub returns-then-n-i : goal.returns-then-n-i
returns-then-n-i c = let a = c.args in rw (lt-ltb a.j a.n (search rules), le-ltb a.i a.n (search rules))

pub counts_at-from-requires-clause-i_bound : goal.counts_at-from-requires-clause-i_bound
counts_at-from-requires-clause-i_bound c = omega arith

pub counts_at-from-requires-clause-w_in_bounds : goal.counts_at-from-requires-clause-w_in_bounds
counts_at-from-requires-clause-w_in_bounds c =
    let a = c.args in
    omega (arith, place-within a.j a.n a.w (search rules))

pub apply-there-requires : goal.apply-there-requires
apply-there-requires c =
    let a = c.args in
    subst (λ (counts : List ℕ). T (ready 8 a.e (at counts))) (sym c.counts_at-from.ensures) (true-T (c.requires.j_value (search rules)))

pub counts_at-here-requires-clause-i_bound : goal.counts_at-here-requires-clause-i_bound
counts_at-here-requires-clause-i_bound c = omega arith

pub counts_at-here-requires-clause-w_in_bounds : goal.counts_at-here-requires-clause-w_in_bounds
counts_at-here-requires-clause-w_in_bounds c =
    let a = c.args in
    omega (arith, place-within a.i a.n a.w (search rules))

pub returns : goal.returns
returns c =
    let a = c.args in
    let there : c.apply-there.result ≡ list_of 8 (apply a.e (at (frontier_at a.w a.window.now a.j).counts)) =
    c.apply-there.ensures ∙ ap (λ (counts : List ℕ). list_of 8 (apply a.e (at counts))) c.counts_at-from.ensures in
    rw (lt-ltb a.j a.n (search rules), lt-ltb a.i a.n (search rules))
    (c.counts_before.ensures ∙ ap (λ (x : List ℕ). before x c.counts_at-here.result) there ∙ ap (before (list_of 8 (apply a.e (at (frontier_at a.w a.window.now a.j).counts)))) c.counts_at-here.ensures)
