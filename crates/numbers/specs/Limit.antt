-- Limits (01, Clocks and cuts; The rule; The window; 02 [8], [10]).
use Rattle.std.specs.Prelude.{ℕ}

-- Frontiers of a window.
abbrev pub most_frontiers : ℕ
most_frontiers = 1024

-- Processes of a watch.
abbrev pub most_processes : ℕ
most_processes = 8

-- Events of a busiest day.
abbrev pub most_day_events : ℕ
most_day_events = 65535

-- Watches that share a pool.
abbrev pub most_members : ℕ
most_members = 8
