-- The refusals by their numbers, as the calls answer them.
use Rattle.std.specs.Prelude.{ℕ, Result, Ok, Err}
use Rattle.numbers.specs.declared.refusal.Refusal.{Refusal}
use Rattle.numbers.specs.declared.refusal.Refusal.TheVariants.{Grammar, Nesting, TooManyLines, Atom, Processes, Length, Mask, Clock, Labels, LineLimit, NoSuchLine, Taken, Conflict, Full, State, FalseClock, NoRoom, NotOpen, Named, TooLarge, ShortPage, Day, Busy, Shares}
use Rattle.numbers.specs.Refusal as by_name

-- The number that the scope gives a refusal.
abbrev pub number_of : Refusal → ℕ
number_of Grammar = by_name.grammar_number
number_of Nesting = by_name.nesting_number
number_of TooManyLines = by_name.many_lines_number
number_of Atom = by_name.atom_number
number_of Processes = by_name.processes_number
number_of Length = by_name.length_number
number_of Mask = by_name.mask_number
number_of Clock = by_name.clock_number
number_of Labels = by_name.labels_number
number_of LineLimit = by_name.line_limit_number
number_of NoSuchLine = by_name.no_line_number
number_of Taken = by_name.taken_number
number_of Conflict = by_name.conflict_number
number_of Full = by_name.full_number
number_of State = by_name.state_number
number_of FalseClock = by_name.false_clock_number
number_of NoRoom = by_name.no_room_number
number_of NotOpen = by_name.not_open_number
number_of Named = by_name.named_number
number_of TooLarge = by_name.too_large_number
number_of ShortPage = by_name.short_page_number
number_of Day = by_name.day_number
number_of Busy = by_name.busy_number
number_of Shares = by_name.shares_number

-- The number that a test turns a call back with; 0 where it passes.
abbrev pub refused : {A : Type 0} → Result A Refusal → ℕ
refused (Ok _) = 0
refused (Err refusal) = number_of refusal
