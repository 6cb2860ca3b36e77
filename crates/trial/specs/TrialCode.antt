-- What the code of the trial keeps to: its choice of an event, and the marks that go with it.
use Rattle.std.specs.Prelude.{ℕ, ◌≡◌, List}
use Rattle.trial.specs.declared.Choice.{Choice}
use Rattle.trial.specs.declared.Choice.TheVariants.{Undecided, Falsified, Chosen}
use Rattle.frontiers.specs.declared.Frontier.{Frontier}
use Rattle.window.specs.Step.{kept_after}
use Rattle.window.specs.Marks.{Marked}
use Rattle.records.specs.Record.{pending_at}
use Rattle.trial.specs.Trial.{setting_in, Decision, undecided, false_clock, chosen}

-- A decision as the code has it: with an event to take comes how many frontiers are kept then.
unfoldable pub choice_for : ℕ → List ℕ → List Frontier → Decision → Choice
choice_for w s fs (undecided seen) = Undecided seen
choice_for w s fs (false_clock i) = Falsified i
choice_for w s fs (chosen i) = Chosen i (kept_after (setting_in w s (pending_at w s i)) fs)

-- The marks of a window's n frontiers are those of the event that a choice takes.
abbrev pub MarkedFor : ℕ → List ℕ → List ℕ → ℕ → List ℕ → Choice → Type 0
MarkedFor w s window n marks c = (i kept : ℕ) → c ≡ Chosen i kept
    → Marked (setting_in w s (pending_at w s i)) w window n marks
