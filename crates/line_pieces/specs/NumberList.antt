-- A list of numbers in a program's line, single spaces between them (01, Examples: the program; Turned back, from the
-- input: 10).
use Rattle.std.specs.Prelude.{ℕ, zero, suc, ◌+◌, Bool, false, cond, ◌&&◌, List, [], ◌∷◌, ◌++◌, eqb, leb, length}
use Rattle.clocks.specs.Counts.{at, list_of}
use Rattle.rules.specs.Text.{byte_at}
use Rattle.line_pieces.specs.Read.{Read, At, Refused}
use Rattle.line_pieces.specs.Number.{number_at}

-- A list read: its numbers, and a reading that stands behind the last of them and keeps how many there are.
pub record ListRead : Type 0 where
  pub numbers : List ℕ
  pub read : Read

abbrev pub list_read : (ns : List ℕ) (r : Read) → ListRead
list_read ns r = record { numbers = ns; read = r }

-- Behind a number: behind a space a further one goes on, with what it may be at least; else the list is read.
unfoldable pub after_number : (s : List ℕ) (ascending : Bool) (further : ℕ → List ℕ → ℕ → ListRead) (ns : List ℕ)
    → (r : Read) → ListRead
after_number s ascending further ns (At i v) =
    cond (eqb (byte_at s i) 32) (further (cond ascending (v + 1) 0) (ns ++ v ∷ []) (i + 1))
    (list_read (ns ++ v ∷ []) (At i (length ns + 1)))
after_number s ascending further ns (Refused n i) = list_read ns (Refused n i)

-- The numbers from a place on, where one is due, behind the numbers ns; none is above `most` and the next is not
-- below `least`. The first argument is how many there may be: a text has no more than it has bytes.
unfoldable pub numbers_at : (n : ℕ) (s : List ℕ) (ascending : Bool) (most least : ℕ) (ns : List ℕ) (i : ℕ) → ListRead
numbers_at zero s ascending most least ns i = list_read ns (Refused 1 i)
numbers_at (suc left) s ascending most least ns i =
    after_number s ascending (numbers_at left s ascending most) ns (number_at s i least most)

-- All the numbers from a place on.
abbrev pub all_numbers_at : (s : List ℕ) (ascending : Bool) (most i : ℕ) → ListRead
all_numbers_at s ascending most i = numbers_at (length s + 1) s ascending most 0 [] i

-- A list behind its opening bracket: it may be empty.
unfoldable pub then_list : (s : List ℕ) (ascending : Bool) (most : ℕ) (r : Read) → ListRead
then_list s ascending most (At i v) = cond (eqb (byte_at s i) 41) (list_read [] (At i 0)) (all_numbers_at s ascending most i)
then_list s ascending most (Refused n i) = list_read [] (Refused n i)

-- A list behind a line's word, with a space before its first number.
unfoldable pub then_spaced_list : (s : List ℕ) (most : ℕ) (r : Read) → ListRead
then_spaced_list s most (At i v) = cond (eqb (byte_at s i) 32) (all_numbers_at s false most (i + 1)) (list_read [] (At i 0))
then_spaced_list s most (Refused n i) = list_read [] (Refused n i)

-- The closing bracket of a list: 10 if its numbers are not `least` to `most` many.
unfoldable pub then_close : (s : List ℕ) (least most : ℕ) (r : Read) → Read
then_close s least most (At i n) =
    cond (eqb (byte_at s i) 41) (cond (leb least n && leb n most) (At (i + 1) n) (Refused 10 i)) (Refused 1 i)
then_close s least most (Refused n i) = Refused n i

-- A list's first eight numbers, 0 where it has fewer: the others are counted only.
abbrev pub eight_values : (ns : List ℕ) → List ℕ
eight_values ns = list_of 8 (at ns)
