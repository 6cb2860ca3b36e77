-- A list of numbers as the code keeps it.
use Rattle.std.specs.Prelude.{ℕ, Bool, true, false, List, Result, Ok, Err}
use Rattle.line_pieces.specs.declared.Numbers.{Numbers}
use Rattle.line_pieces.specs.declared.BadList.{BadList}
use Rattle.line_pieces.specs.declared.list.Order.{Order}
use Rattle.line_pieces.specs.declared.list.Order.TheVariants.{Ascending, Any}
use Rattle.line_pieces.specs.Read.{Read}
use Rattle.line_pieces.specs.ReadingCode.{here_of, fault_of}
use Rattle.line_pieces.specs.NumberList.{ListRead, eight_values}

-- The first eight numbers of a list, and the reading behind them: where it stands, or its fault.
pub record ListKept : Type 0 where
  pub values : List ℕ
  pub read : Read

abbrev pub numbers_read : (l : ListRead) → ListKept
numbers_read l = record { values = eight_values l.numbers; read = l.read }

abbrev pub numbers_of : Result Numbers BadList → ListKept
numbers_of (Ok list) = record { values = list.values; read = here_of list.here }
numbers_of (Err bad) = record { values = bad.values; read = fault_of bad.fault }

-- Whether each number is above the one before it.
abbrev pub ascending : Order → Bool
ascending Ascending = true
ascending Any = false
