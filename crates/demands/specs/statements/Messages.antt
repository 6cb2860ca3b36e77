-- What an event may know of (02 [2]): after every list of calls, take's test of a clock says whether what a ready event
-- knows of is a consistent cut of the taken events; and which two events of the history could have been taken the other
-- way round. Proved in lists/Messages.
use Rattle.std.specs.Prelude.{ℕ, ◌≡◌, List, ◌∷◌, ◌++◌, ◌↔◌, T}
use Rattle.clocks.specs.declared.Event.{Event}
use Rattle.clocks.specs.Event.{Cut, Ready, lowered}
use Rattle.clocks.specs.History.{taken, Consistent}
use Rattle.clocks.specs.Valid.{WellFormed, History}
use Rattle.clocks.specs.Apart.{Apart, NeitherCounts}
use Rattle.frontiers.specs.declared.Frontier.{Frontier}
use Rattle.frontiers.specs.Bytes.{frontiers}
use Rattle.records.specs.Record.{kept_count}
use Rattle.rules.specs.Formula.{Formula}
use Rattle.trial.specs.Trial.{valid_among}
use Rattle.demands.specs.Run.{Watch}
use Rattle.demands.specs.World.{Valid}
use Rattle.demands.specs.EveryList.{AfterEveryList, lent_window, NamesOpen}

-- The kept frontiers of the window that the next take is lent.
abbrev pub kept_lent : (w : ℕ) (Z : Watch) (more : ℕ) → List Frontier
kept_lent w Z more = frontiers w (lent_window Z more) (kept_count Z.bytes)

pub record MessagesExact (w k : ℕ) (f : Formula) (start : Cut) (Z : Watch) : Type 0 where
  -- a ready event of open processes, pending or not: its clock lowered by 1 at its processes is a kept frontier exactly
  -- if it is a consistent cut of the taken events
  pub clock_exactly : (more : ℕ) (e : Event) → WellFormed k e → NamesOpen Z e → Ready e (taken Z.ledger.history)
      → T (valid_among (kept_lent w Z more) e) ↔ Consistent Z.ledger.history (lowered e)
  -- two events without a common process, g taken right after e: with the two exchanged, and the later ones as they
  -- were, the taken events are a history too exactly if neither's clock counts the other
  pub exchange_exactly : (later earlier : List Event) (e g : Event)
      → Z.ledger.history ≡ later ++ (g ∷ e ∷ earlier) → Apart e g
      → History k Valid (later ++ (e ∷ g ∷ earlier)) ↔ NeitherCounts e g

abbrev pub MessagesAreExact : Type 0
MessagesAreExact = AfterEveryList MessagesExact
