-- A reading as the code gives it, and the limit on a line's bytes for what a line is read to.
use Rattle.std.specs.Prelude.{ℕ, cond, ◌&&◌, List, ltb, length, Result, Ok, Err}
use Rattle.numbers.specs.declared.fault.Fault.{Fault}
use Rattle.numbers.specs.declared.refusal.Refusal.TheVariants.{LineLimit}
use Rattle.numbers.specs.RefusalNumber.{number_of}
use Rattle.line_pieces.specs.declared.Here.{Here}
use Rattle.line_pieces.specs.Read.{Read, At, Refused}
use Rattle.line_pieces.specs.Reading.{line_limit}

-- ---- A reading

abbrev pub here_of : Here → Read
here_of here = At here.place here.value

abbrev pub fault_of : Fault → Read
fault_of fault = Refused (number_of fault.refusal) fault.place

abbrev pub read_of : Result Here Fault → Read
read_of (Ok here) = here_of here
read_of (Err fault) = fault_of fault

-- ---- A whole line

abbrev pub over_limit : Fault
over_limit = record { refusal = LineLimit; place = line_limit }

-- A line over the limit has its fault there, after the faults that stand up to there.
unfoldable pub within_limit : {A : Type 0} (s : List ℕ) → Result A Fault → Result A Fault
within_limit s (Ok value) = cond (ltb line_limit (length s)) (Err over_limit) (Ok value)
within_limit s (Err fault) =
    cond (ltb line_limit (length s) && ltb line_limit fault.place) (Err over_limit) (Err fault)
