-- Reported verdicts, and when they are true: as PaCTL, by source 000, has it for the formula whose text was opened,
-- over all consistent cuts of a history.
use Rattle.std.specs.Prelude.{ℕ, ◌≡◌, Bool}
use mathlib.Core.List.{List, Memᴰ}
use Rattle.clocks.specs.declared.Event.{Event}
use Rattle.pactl.specs.Truth.{holds}
use Rattle.rules.specs.Formula.{Formula, meaning}
use Rattle.clocks.specs.History.{Consistent}
use Rattle.clocks.specs.Event.{Cut}
use Rattle.clocks.specs.Counts.{list_of}
use Rattle.answers.specs.Answer.{Answer, state}
use Rattle.demands.specs.World.{model_after}

-- A reported verdict: the rule's truth in an answer of open or take, for the counts beside it.
pub record TrueVerdict (k : ℕ) (f : Formula) (start : Cut) (ts : List Event) (counts : List ℕ) (truth : Bool)
    : Type 0 where
  pub cut : Cut
  pub consistent : Consistent ts cut
  pub counts_are : counts ≡ list_of 8 cut
  pub truth_is : truth ≡ holds (model_after k f start ts) (meaning f) cut

-- So is every verdict in these answers.
abbrev pub Truthful : (k : ℕ) (f : Formula) (start : Cut) (ts : List Event) (answers : List Answer) → Type 0
Truthful k f start ts answers =
    (counts : List ℕ) (truth : Bool) (kept : ℕ) → Memᴰ (state counts truth kept) answers
    → TrueVerdict k f start ts counts truth
