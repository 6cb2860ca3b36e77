-- The digits of one number more are laid.
use Rattle.std.proofs.Common.{ℕ, ◌+◌, ◌*◌, ◌/◌, ◌%◌, ◌<◌, List, set, arith}
use Rattle.std.proofs.lemmas.Grind.{common_steps}
use Rattle.call_page.proofs.digits.DigitPairs.new.Invariants.{LaidBelow}
use Rattle.call_page.proofs.digits.DigitPairs.new.Goals as goal

laid_more : (n : ℕ) (pairs : List ℕ) → n < 100 → LaidBelow n pairs
    → LaidBelow (n + 1) (set (set pairs (2 * n) (48 + n / 10)) (2 * n + 1) (48 + n % 10))
laid_more n pairs h laid = record {
  long = grind (arith, common_steps, laid.long);
  tens = λ m l. grind (arith, common_steps, laid.long, laid.tens m);
  ones = λ m l. grind (arith, common_steps, laid.long, laid.ones m);
}

pub loop-n-preserved : goal.loop-n-preserved
loop-n-preserved c = laid_more c.loop-n.n c.loop-n.digits c.loop-n-test.true c.loop-n.invariant
