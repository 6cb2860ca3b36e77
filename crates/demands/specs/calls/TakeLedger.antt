-- The ledger after a take follows what its trial of the pending events decides.
use Rattle.std.specs.Prelude.{ℕ, ◌≡◌, refl, true, false, List, ◌∷◌}
use Rattle.frontiers.specs.declared.Frontier.{Frontier}
use Rattle.frontiers.specs.Bytes.{frontiers}
use Rattle.records.specs.Record.{kept_count, pending_at}
use Rattle.answers.specs.Answer.{state_of}
use Rattle.trial.specs.Trial.{Decision, undecided, false_clock, chosen}
use Rattle.call_take.specs.Take.{decided, take_within, allowed_of}
use Rattle.demands.specs.Ledger.{Ledger}
use Rattle.demands.specs.Run.{trial_of, stopped_at, taken_ledger}
use Rattle.demands.specs.Status.{remove_at}

-- The ledger after a decision.
unfoldable pub ledger_after : ℕ → List ℕ → Ledger → Decision → Ledger
ledger_after w s L (undecided seen) = L
ledger_after w s L (false_clock i) = record {
  history = L.history;
  pending = remove_at i L.pending;
  falsified = pending_at w s i ∷ L.falsified;
  closed = L.closed;
}
ledger_after w s L (chosen i) = record {
  history = pending_at w s i ∷ L.history;
  pending = remove_at i L.pending;
  falsified = L.falsified;
  closed = L.closed;
}

-- The trial is take_within's own.
pub within-trial : (w cap : ℕ) (s window : List ℕ)
    → take_within w (allowed_of w cap window) s window
    ≡ decided w s window (frontiers w window (kept_count s)) (trial_of w cap s window)
unfolding take_within trial_of
within-trial w cap s window = refl

pub ledger_follows : (w : ℕ) (s window : List ℕ) (fs : List Frontier) (L : Ledger) (d : Decision)
    → taken_ledger w s (stopped_at d) L (decided w s window fs d).answer ≡ ledger_after w s L d
unfolding taken_ledger stopped_at decided ledger_after state_of
ledger_follows w s window fs L (undecided true) = refl
ledger_follows w s window fs L (undecided false) = refl
ledger_follows w s window fs L (false_clock i) = refl
ledger_follows w s window fs L (chosen i) = refl
