-- Digits go over the blanks from the right, two at a time: the law `pair_laid` for a turn, then one or two are left.
use Rattle.call_page.proofs.CountSteps.{Laid}
use Rattle.call_page.proofs.digits.DigitPairs.put_count.Given as goal

abbrev pub invariant-loop-rest : goal.invariant-loop-rest
invariant-loop-rest l = Laid l.initial.page l.at l.count l.page l.rest l.i

abbrev pub decreases-loop-rest : goal.decreases-loop-rest
decreases-loop-rest l = l.i
