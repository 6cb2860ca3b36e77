-- Kinds of answers, as tests: what a list of calls and the program go by.
use Rattle.std.specs.Prelude.{Bool, true, false, eqb}
use Rattle.numbers.specs.Refusal.{false_clock_number}
use Rattle.answers.specs.Answer.{Answer, turned_back, state, nothing_ready, held, again, found, absent, process_closed}

-- Turned back by a number.
abbrev pub is_turned_back : (a : Answer) → Bool
is_turned_back (turned_back n i) = true
is_turned_back (state c t k) = false
is_turned_back nothing_ready = false
is_turned_back (held n) = false
is_turned_back again = false
is_turned_back (found i) = false
is_turned_back absent = false
is_turned_back (process_closed n) = false

-- An offer was accepted.
abbrev pub is_held : (a : Answer) → Bool
is_held (turned_back n i) = false
is_held (state c t k) = false
is_held nothing_ready = false
is_held (held n) = true
is_held again = false
is_held (found i) = false
is_held absent = false
is_held (process_closed n) = false

-- Opened, or an event was taken.
abbrev pub is_state : (a : Answer) → Bool
is_state (turned_back n i) = false
is_state (state c t k) = true
is_state nothing_ready = false
is_state (held n) = false
is_state again = false
is_state (found i) = false
is_state absent = false
is_state (process_closed n) = false

-- Turned back by 35: an event left with a false clock.
abbrev pub is_false_clock : (a : Answer) → Bool
is_false_clock (turned_back n i) = eqb n false_clock_number
is_false_clock (state c t k) = false
is_false_clock nothing_ready = false
is_false_clock (held n) = false
is_false_clock again = false
is_false_clock (found i) = false
is_false_clock absent = false
is_false_clock (process_closed n) = false

-- A process was closed.
abbrev pub is_closed : (a : Answer) → Bool
is_closed (turned_back n i) = false
is_closed (state c t k) = false
is_closed nothing_ready = false
is_closed (held n) = false
is_closed again = false
is_closed (found i) = false
is_closed absent = false
is_closed (process_closed n) = true
