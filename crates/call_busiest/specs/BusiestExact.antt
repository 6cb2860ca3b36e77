-- What is true of every call for a busiest day, on all arguments (02 [8]): when it answers what, what it leaves, and
-- how a caller tells the answers apart. Proved in BusiestTheorem.
use Rattle.std.specs.Prelude.{ℕ, ◌*◌, ◌≤◌, ◌<◌, ◌≡◌, List, ◌⊎◌, ◌↔◌, ◌≢◌, length}
use Rattle.records.specs.Record.{event_length, events_bytes}
use Rattle.numbers.specs.Limit.{most_processes, most_frontiers, most_day_events}
use Rattle.numbers.specs.Refusal.{day_number, busy_number, length_number}
use Rattle.answers.specs.Result.{refused, gives}
use Rattle.answers.specs.Told.{Told}
use Rattle.call_busiest.specs.Sharing.{shares, sharing_keeps}
use Rattle.call_busiest.specs.Busiest.{busiest_day, Listed, busiest_call}

-- There is such a day: 1 to 8 processes, and up to 65,535 events.
pub record Day (k n : ℕ) : Type 0 where
  pub some_process : 1 ≤ k
  pub eight_processes : k ≤ most_processes
  pub few_events : n ≤ most_day_events

-- A call on a list of these bytes, and what it came to.
pub record Exact (w k n : ℕ) (events : List ℕ) (L : Listed) : Type 0 where
  -- the refusals in their order
  pub no_day : (L.answer ≡ refused day_number) ↔ ((k ≡ 0) ⊎ ((most_processes < k) ⊎ (most_day_events < n)))
  pub too_busy : (L.answer ≡ refused busy_number) ↔ (Day k n × (most_frontiers < sharing_keeps (shares k n)))
  pub wrong_length : (L.answer ≡ refused length_number)
      ↔ (Day k n × (sharing_keeps (shares k n) ≤ most_frontiers) × (length events ≢ n * event_length w))
  -- else the frontiers kept
  pub given : (m : ℕ)
      → (L.answer ≡ gives m)
      ↔ (Day k n × (sharing_keeps (shares k n) ≤ most_frontiers) × (length events ≡ n * event_length w)
      × (m ≡ sharing_keeps (shares k n)))
  -- refused, it writes nothing; accepted, every byte
  pub refused_leaves : (m : ℕ) → L.answer ≡ refused m → L.events ≡ events
  pub given_writes : (m : ℕ) → L.answer ≡ gives m → L.events ≡ events_bytes w (busiest_day k n)
  pub same_length : length L.events ≡ length events
  -- the word: refused by the number in it, or the value is the frontiers kept
  pub told : Told L.answer

abbrev pub BusiestIsExact : Type 0
BusiestIsExact = (w k n : ℕ) (events : List ℕ) → Exact w k n events (busiest_call w k n events)
