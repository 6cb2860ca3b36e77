-- Every watch that calls and moves alone wrote, in either form (demand 2; 02 [6]): all that is stated of the watch at
-- the end of a list of calls is true of it; and the order of arrival makes no difference to it (demand 3). Proved in
-- forms/EveryWatch.
use Rattle.std.specs.Prelude.{ℕ, ◌<◌, ◌≡◌, List}
use Rattle.clocks.specs.Event.{Cut}
use Rattle.clocks.specs.Counts.{at}
use Rattle.rules.specs.Formula.{Formula}
use Rattle.rules.specs.Text.{text_of}
use Rattle.rules.specs.Reader.{read_rule, formed}
use Rattle.demands.specs.Run.{Call, Watch, run}
use Rattle.demands.specs.EveryList.{Accepts, EightBytes, AllPassed, at_end, EndsQuiet, SameAccepted, SameClosed}
use Rattle.demands.specs.Verdict.{Truthful}
use Rattle.demands.specs.Written.{Written, moved_to, OfEveryWatch}
use Rattle.demands.specs.statements.WindowExact.{WindowExact}
use Rattle.demands.specs.statements.Offer.{OfferExact}
use Rattle.demands.specs.statements.TakeAnswers.{TakeExact}
use Rattle.demands.specs.statements.Caps.{CapsAlike}
use Rattle.demands.specs.statements.Find.{FindExact}
use Rattle.demands.specs.statements.Page.{PageShows}
use Rattle.demands.specs.statements.Busiest.{BusiestKept}
use Rattle.demands.specs.statements.Close.{CloseExact, StaysDropped}
use Rattle.demands.specs.statements.Again.{AgainExact}
use Rattle.demands.specs.statements.Messages.{MessagesExact}
use Rattle.demands.specs.statements.Balance.{AnswersBalanced}
use Rattle.demands.specs.statements.Empties.{Empties}
use Rattle.demands.specs.statements.OrderIndependent.{Alike}
use Rattle.demands.specs.statements.Moves.{next_move, MoveAnswers}

pub record WatchExact (w k : ℕ) (f : Formula) (start : Cut) (Z : Watch) : Type 0 where
  -- demand 2, and the answers of every call
  pub window : WindowExact w k f start Z
  pub offers : OfferExact w k f start Z
  pub takes : TakeExact w k f start Z
  pub caps : CapsAlike w k f start Z
  pub finds : FindExact w k f start Z
  pub pages : PageShows w k f start Z
  pub busiest : BusiestKept w k f start Z
  pub closes : CloseExact w k f start Z
  pub dropped : StaysDropped w k f start Z
  pub agains : AgainExact w k f start Z
  pub messages : MessagesExact w k f start Z
  pub empties : Empties w k f start Z
  pub moves : (to : ℕ) (t target : List ℕ) → MoveAnswers w to Z t target
  -- every verdict reported on the way, in either form, is PaCTL's; the balance
  pub verdicts : Truthful k f start Z.ledger.history Z.answers
  pub balance : AnswersBalanced Z

abbrev pub EveryWatchIsExact : Type 0
EveryWatchIsExact = OfEveryWatch WatchExact

-- So at the end of a list of calls after a move that follows another list: a watch opened with counts of v bytes,
-- calls, a move to counts of w bytes that is accepted, and calls of that form.
abbrev pub ExactAfterAMove : Type 0
ExactAfterAMove =
    (v w : ℕ) → 0 < v → 0 < w → (text : List ℕ) (k : ℕ) (labels : List ℕ) → EightBytes labels
    → (s window : List ℕ) → Accepts v text k labels s window → (cs : List Call) → AllPassed v cs
    → (t target : List ℕ) → (next_move v w (at_end v text k labels s window cs) t target).number ≡ 0
    → (ds : List Call) → AllPassed w ds
    → (f : Formula) × (i : ℕ) × (read_rule text k ≡ formed i f) × (text_of f ≡ text)
    × WatchExact w k f (at labels)
    (run w ds
    (moved_to (next_move v w (at_end v text k labels s window cs) t target) (at_end v text k labels s window cs)))

-- Of two watches that come to one form: whatever moves stand among the calls of either, the same accepted
-- events, the same closed processes and "nothing ready" at both ends make them alike.
abbrev pub OrderIndependentWithMoves : Type 0
OrderIndependentWithMoves =
    (text : List ℕ) (k : ℕ) (labels : List ℕ) → EightBytes labels
    → (w : ℕ) (Y Z : Watch) → Written text k labels w Y → Written text k labels w Z
    → EndsQuiet Y → EndsQuiet Z → SameAccepted Y Z → SameClosed Y Z
    → (f : Formula) × (i : ℕ) × (read_rule text k ≡ formed i f) × (text_of f ≡ text) × Alike w k f (at labels) Y Z
