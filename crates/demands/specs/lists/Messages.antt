-- What an event may know of, at the end of every list of calls: the window tells it, and neighbours in the history may
-- be exchanged exactly if neither counts the other.
use Rattle.std.specs.Prelude.{ℕ, ◌≡◌, List, ◌↔◌, T, length}
use Rattle.std.proofs.Common.{ap, subst, ◌∙◌}
use Rattle.clocks.specs.declared.Event.{Event}
use Rattle.clocks.specs.Event.{Cut, Ready, lowered}
use Rattle.clocks.specs.History.{taken, Consistent}
use Rattle.clocks.specs.Valid.{WellFormed, History}
use Rattle.clocks.specs.validity.Exchange as exchange
use Rattle.frontiers.specs.Bytes.{frontiers}
use Rattle.records.specs.Record.{kept_count}
use Rattle.rules.specs.Formula.{Formula}
use Rattle.rules.specs.Line.{lines_at}
use Rattle.demands.specs.Run.{Watch}
use Rattle.demands.specs.Watching.{Watching}
use Rattle.demands.specs.World.{Valid}
use Rattle.demands.specs.EveryList.{lent_window, NamesOpen}
use Rattle.trial.specs.Trial.{valid_among}
use Rattle.demands.specs.statements.Messages.{kept_lent, MessagesExact, MessagesAreExact}
use Rattle.demands.specs.calls.AfterCall.{lengthened}
use Rattle.demands.specs.calls.ValidRule.{valid_rule}
use Rattle.demands.specs.calls.WatchingLaws.{says_frontiers, valid_in}
use Rattle.demands.specs.lists.SoundRun.{Sound, every-list}

-- the kept frontiers of a window lent longer are those of the history's kept cuts
clock_exact_of : (w k : ℕ) (f : Formula) (start : Cut) (Z : Watch) → Sound w k f start Z → (more : ℕ) (e : Event)
    → WellFormed k e → NamesOpen Z e → Ready e (taken Z.ledger.history)
    → T (valid_among (kept_lent w Z more) e) ↔ Consistent Z.ledger.history (lowered e)
clock_exact_of w k f start Z S more e formed o r =
    rw read (valid_in w k (lines_at 0 f) start S.rule Z.ledger Z.bytes (lent_window Z more) X e formed o r)
  where
    X : Watching w k (lines_at 0 f) start Z.ledger Z.bytes (lent_window Z more)
    X = lengthened w k (lines_at 0 f) start S.rule Z.ledger Z.bytes Z.window S.right more

    read : kept_lent w Z more ≡ X.kept
    read =
        ap (λ (s : List ℕ). frontiers w s (kept_count Z.bytes)) X.window_is
        ∙ says_frontiers w k (lines_at 0 f) start S.rule Z.ledger Z.bytes (lent_window Z more) X
        (length (lent_window Z more))

pub messages_exact_of : (w k : ℕ) (f : Formula) (start : Cut) (Z : Watch) → Sound w k f start Z
    → MessagesExact w k f start Z
messages_exact_of w k f start Z S = record {
  clock_exactly = clock_exact_of w k f start Z S;
  exchange_exactly =
      λ later earlier e g q a. exchange.exchange_exactly k Valid (valid_rule k) later e g earlier
      (subst (History k Valid) q S.right.right.by_rule) a;
}

-- ---- Theorem
pub messages_exact : MessagesAreExact
messages_exact = every-list _ messages_exact_of
