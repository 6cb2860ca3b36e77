-- What was taken before events knew of messages is taken alike (02 [2]): a list of calls that met no 35 by the earlier
-- rule for valid clocks ends as it did, in every byte and in every answer. Proved in lists/Earlier.
use Rattle.std.specs.Prelude.{ℕ, ◌<◌, ◌≡◌}
use mathlib.Core.List.{List, Memᴰ}
use Rattle.numbers.specs.Refusal.{false_clock_number}
use Rattle.answers.specs.Answer.{Answer, turned_back}
use Rattle.demands.specs.Run.{Call}
use Rattle.demands.specs.EveryList.{Accepts, EightBytes, AllPassed, at_end}
use Rattle.demands.specs.Earlier.{earlier_at_end}

-- None of these answers is 35.
abbrev pub NoFalseClock : (answers : List Answer) → Type 0
NoFalseClock answers = Memᴰ (turned_back false_clock_number 0) answers → ⊥

-- Record, window, ledger, accepted events and answers at the end are the same.
abbrev pub EarlierListsStand : Type 0
EarlierListsStand =
    (w : ℕ) → 0 < w → (text : List ℕ) (k : ℕ) (labels : List ℕ) → EightBytes labels
    → (s window : List ℕ) → Accepts w text k labels s window → (cs : List Call) → AllPassed w cs
    → NoFalseClock (earlier_at_end w text k labels s window cs).answers
    → earlier_at_end w text k labels s window cs ≡ at_end w text k labels s window cs
