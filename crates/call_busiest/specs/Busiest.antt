-- The busiest day (02 [8]): n events of single processes without messages, shared evenly, and how many frontiers they
-- keep.
use Rattle.std.specs.Prelude.{ℕ, zero, suc, ◌*◌, ◌^◌, Bool, cond, not, ◌||◌, List, [], ◌++◌, eqb, ltb, length, replicate}
use Rattle.clocks.specs.declared.Event.{Event}
use Rattle.clocks.specs.Counts.{list_of}
use Rattle.records.specs.Record.{event_length, events_bytes}
use Rattle.refusals.specs.Refusals.{bad_processes}
use Rattle.numbers.specs.Limit.{most_frontiers, most_day_events}
use Rattle.numbers.specs.Refusal.{day_number, busy_number, length_number}
use Rattle.answers.specs.Result.{Result, refused, gives}
use Rattle.call_busiest.specs.Sharing.{share, shares, sharing_keeps}

-- ---- The events

-- Process p's event number n: of p alone, knowing of no other process; no proposition holds after it.
unfoldable pub single : (p n : ℕ) → Event
single p n = record { mask = 2 ^ p; clock = list_of 8 (λ q. cond (eqb q p) n 0); labels = replicate 8 0 }

-- The first n of them, counts rising.
unfoldable pub singles : (p n : ℕ) → List Event
singles p n = list_of n (λ i. single p (suc i))

-- Those of the first k processes, process by process, of which p has f p.
unfoldable pub day : (f : ℕ → ℕ) (n : ℕ) → List Event
day f zero = []
day f (suc p) = day f p ++ singles p (f p)

abbrev pub busiest_day : (k n : ℕ) → List Event
busiest_day k n = day (share k n) k

-- ---- The call

-- 45: k is not 1 to 8, or n is above 65,535.
unfoldable pub bad_day : (k n : ℕ) → Bool
bad_day k n = bad_processes k || ltb most_day_events n

-- 46: the day keeps over 1,024 frontiers.
unfoldable pub too_busy : (k n : ℕ) → Bool
too_busy k n = ltb most_frontiers (sharing_keeps (shares k n))

-- 6: a list of so many bytes is not one of n events.
unfoldable pub bad_list_length : (w n bytes : ℕ) → Bool
bad_list_length w n bytes = not (eqb bytes (n * event_length w))

-- What the call answers, and leaves in the list.
pub record Listed : Type 0 where
  pub answer : Result
  pub events : List ℕ

-- Turned back by a number; and with the day's events in the list.
abbrev pub day_turned_back : (events : List ℕ) (m : ℕ) → Listed
day_turned_back events m = record { answer = refused m; events = events }

abbrev pub day_written : (w k n : ℕ) → Listed
day_written w k n = record { answer = gives (sharing_keeps (shares k n)); events = events_bytes w (busiest_day k n) }

unfoldable pub busiest_call : (w k n : ℕ) (events : List ℕ) → Listed
busiest_call w k n events =
    cond (bad_day k n) (day_turned_back events day_number)
    (cond (too_busy k n) (day_turned_back events busy_number)
    (cond (bad_list_length w n (length events)) (day_turned_back events length_number) (day_written w k n)))
