-- The balance (01, The calls): every accepted event was taken, left with a false clock, or is pending; said of each
-- event, and of the answers that a caller sees. Proved in lists/Balance.
use Rattle.std.specs.Prelude.{ℕ, ◌+◌, ◌-◌, ◌≤◌, ◌≡◌, Bool, List, [], ◌∷◌, length}
use Rattle.clocks.specs.declared.Event.{Event}
use Rattle.clocks.specs.Event.{one}
use Rattle.records.specs.Record.{pending_count}
use Rattle.answers.specs.Answer.{Answer}
use Rattle.demands.specs.Ledger.{occurrences, Ledger, accounted}
use Rattle.answers.specs.Kinds.{is_held, is_state, is_false_clock}
use Rattle.demands.specs.Run.{Watch}
use Rattle.demands.specs.EveryList.{AfterEveryList}

-- ---- Counting answers

-- How many answers pass a test.
unfoldable pub how_many : (test : Answer → Bool) (answers : List Answer) → ℕ
how_many test [] = 0
how_many test (a ∷ answers) = one (test a) + how_many test answers

-- ---- The balance

pub record Balanced (L : Ledger) (accepted : List Event) : Type 0 where
  -- each event, by mask, clock and labels
  pub each : (e : Event) → accounted e L ≡ occurrences e accepted
  -- and in number
  pub total : length accepted ≡ length L.history + length L.falsified + length L.pending

pub record AnswersBalanced (Z : Watch) : Type 0 where
  -- accepted offers = states after the first, which is open's own, + answers 35 + the record's number of pending events
  pub some_state : 1 ≤ how_many is_state Z.answers
  pub balance : how_many is_held Z.answers
      ≡ (how_many is_state Z.answers - 1) + how_many is_false_clock Z.answers + pending_count Z.bytes
  -- the ledger lists as many events as the answers say
  pub accepted_said : how_many is_held Z.answers ≡ length Z.accepted
  pub taken_said : how_many is_state Z.answers ≡ length Z.ledger.history + 1
  pub falsified_said : how_many is_false_clock Z.answers ≡ length Z.ledger.falsified
  pub pending_said : pending_count Z.bytes ≡ length Z.ledger.pending
  -- and each event balances there
  pub balanced : Balanced Z.ledger Z.accepted

abbrev pub AnswersBalance : Type 0
AnswersBalance = AfterEveryList (λ w k f start Z. AnswersBalanced Z)
