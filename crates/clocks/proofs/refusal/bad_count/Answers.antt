-- The test of count 0 chooses which of the two conditions can hold.
use mathlib.Core.Bool.{true, false}
use borrow.Author.Tests.{eq-eqb, ne_eqb}
use Rattle.clocks.specs.stored.RefusalLaws.{choice}
use Rattle.clocks.proofs.refusal.bad_count.Goals as goal

pub returns-then-count-eq0 : goal.returns-then-count-eq0
returns-then-count-eq0 c = rw (eq-eqb _ _ c.if-count-eq0.true) (choice true c.args.involved c.args.beyond)

pub returns-else-count-eq0 : goal.returns-else-count-eq0
returns-else-count-eq0 c = rw (ne_eqb _ _ c.if-count-eq0.false) (choice false c.args.involved c.args.beyond)
