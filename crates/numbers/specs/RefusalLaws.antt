-- No refusal's number is 0: what a call answers tells whether it was turned back.
use Rattle.std.specs.Prelude.{◌<◌}
use Rattle.std.proofs.Common.{lit<}
use Rattle.numbers.specs.declared.refusal.Refusal.{Refusal}
use Rattle.numbers.specs.declared.refusal.Refusal.TheVariants.{Grammar, Nesting, TooManyLines, Atom, Processes, Length, Mask, Clock, Labels, LineLimit, NoSuchLine, Taken, Conflict, Full, State, FalseClock, NoRoom, NotOpen, Named, TooLarge, ShortPage, Day, Busy, Shares}
use Rattle.numbers.specs.RefusalNumber.{number_of}

pub some_number : (refusal : Refusal) → 0 < number_of refusal
some_number Grammar = lit< tt
some_number Nesting = lit< tt
some_number TooManyLines = lit< tt
some_number Atom = lit< tt
some_number Processes = lit< tt
some_number Length = lit< tt
some_number Mask = lit< tt
some_number Clock = lit< tt
some_number Labels = lit< tt
some_number LineLimit = lit< tt
some_number NoSuchLine = lit< tt
some_number Taken = lit< tt
some_number Conflict = lit< tt
some_number Full = lit< tt
some_number State = lit< tt
some_number FalseClock = lit< tt
some_number NoRoom = lit< tt
some_number NotOpen = lit< tt
some_number Named = lit< tt
some_number TooLarge = lit< tt
some_number ShortPage = lit< tt
some_number Day = lit< tt
some_number Busy = lit< tt
some_number Shares = lit< tt
