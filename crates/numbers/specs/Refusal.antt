-- The refusals' numbers (01, Turned back; 02 [5]: 41, 42; [6]: 43; [7]: 44; [8]: 45, 46; [10]: 49). Each one's
-- condition is a definition, named beside it.
use Rattle.std.specs.Prelude.{ℕ}

-- ---- From the input

-- rules Fault: Fault1 (a rule), lines Grammar (a line): a byte that no text has there, or an early end.
abbrev pub grammar_number : ℕ
grammar_number = 1

-- rules Fault: Fault2, a 33rd nested bracket.
abbrev pub nesting_number : ℕ
nesting_number = 2

-- rules Fault: Fault3, over 64 lines.
abbrev pub many_lines_number : ℕ
many_lines_number = 3

-- rules Fault: Fault4, a process or a proposition that is not there.
abbrev pub atom_number : ℕ
atom_number = 4

-- refusals Refusals: bad_processes, a number of processes that is not 1 to 8.
abbrev pub processes_number : ℕ
processes_number = 5

-- refusals Refusals: bad_record_length, bad_window_length, a lent buffer of a wrong length.
abbrev pub length_number : ℕ
length_number = 6

-- clocks Refusal: bad_mask.
abbrev pub mask_number : ℕ
mask_number = 7

-- clocks Refusal: bad_clock.
abbrev pub clock_number : ℕ
clock_number = 8

-- clocks Refusal: bad_labels, and bad_start at open.
abbrev pub labels_number : ℕ
labels_number = 9

-- lines Fault: a number, a list or a line beyond its limit.
abbrev pub line_limit_number : ℕ
line_limit_number = 10

-- call_find Find: a line that the table has not.
abbrev pub no_line_number : ℕ
no_line_number = 11

-- ---- From the state

-- refusals Refusals: already_taken.
abbrev pub taken_number : ℕ
taken_number = 31

-- refusals Refusals: conflicting.
abbrev pub conflict_number : ℕ
conflict_number = 32

-- call_offer Offer: 32 events are pending.
abbrev pub full_number : ℕ
full_number = 33

-- refusals Refusals: bad_state.
abbrev pub state_number : ℕ
state_number = 34

-- call_take Take: the event decided on has a false clock.
abbrev pub false_clock_number : ℕ
false_clock_number = 35

-- call_take Take: an event is ready, and none fits.
abbrev pub no_room_number : ℕ
no_room_number = 36

-- refusals Refusals: not_open.
abbrev pub not_open_number : ℕ
not_open_number = 41

-- refusals Refusals: named_by at close, names_closed at offer.
abbrev pub named_number : ℕ
named_number = 42

-- call_move Move: overflows.
abbrev pub too_large_number : ℕ
too_large_number = 43

-- call_page Page: short_page.
abbrev pub short_page_number : ℕ
short_page_number = 44

-- call_busiest Busiest: bad_day.
abbrev pub day_number : ℕ
day_number = 45

-- call_busiest Busiest: too_busy.
abbrev pub busy_number : ℕ
busy_number = 46

-- call_shares Shares: bad_shares.
abbrev pub shares_number : ℕ
shares_number = 49
