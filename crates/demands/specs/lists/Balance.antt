-- The balance at the end of every list of calls.
use Rattle.std.proofs.Common.{arith}
use Rattle.std.specs.Prelude.{ℕ, ◌≡◌, length}
use Rattle.rules.specs.Formula.{Formula}
use Rattle.rules.specs.Line.{lines_at}
use Rattle.clocks.specs.Event.{Cut}
use Rattle.records.specs.Record.{pending_count}
use Rattle.demands.specs.Run.{Watch}
use Rattle.demands.specs.statements.Balance.{AnswersBalanced, AnswersBalance}
use Rattle.demands.specs.calls.WatchingLaws.{says_many}
use Rattle.demands.specs.lists.SoundRun.{Sound, every-list}

pub balanced_of : (w k : ℕ) (f : Formula) (start : Cut) (Z : Watch) → Sound w k f start Z → AnswersBalanced Z
balanced_of w k f start Z S =
    let many : pending_count Z.bytes ≡ length Z.ledger.pending =
    says_many w k (lines_at 0 f) start S.rule Z.ledger Z.bytes Z.window S.right in
    record {
      some_state = omega (arith, S.said.taken_said);
      balance =
          omega (arith, S.said.accepted_said, S.said.taken_said, S.said.falsified_said, many, S.balanced.total);
      accepted_said = S.said.accepted_said;
      taken_said = S.said.taken_said;
      falsified_said = S.said.falsified_said;
      pending_said = many;
      balanced = S.balanced;
    }

-- ---- Theorem
pub answers_balanced : AnswersBalance
answers_balanced = every-list _ balanced_of
