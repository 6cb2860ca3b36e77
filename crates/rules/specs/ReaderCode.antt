-- What the functions of the reader answer, in the words of the reader's definition.
use Rattle.std.specs.Prelude.{ℕ, ◌+◌, ◌≡◌, List, Option, None, Some, Result, Ok, Err}
use Rattle.numbers.specs.declared.fault.Fault.{Fault}
use Rattle.numbers.specs.declared.refusal.Refusal.TheVariants.{Grammar}
use Rattle.numbers.specs.RefusalNumber.{number_of}
use Rattle.rules.specs.declared.words.NoWord.{NoWord as NoWordThere}
use Rattle.rules.specs.declared.forms.Reached.{Reached}
use Rattle.rules.specs.declared.words.Word.{Word}
use Rattle.rules.specs.declared.words.Word.TheVariants.{At, Constant as Alone, Unary as WithOne, Binary as WithTwo}
use Rattle.rules.specs.Line.{line_count}
use Rattle.rules.specs.Reader.{Reading, formed, faulty}
use Rattle.rules.specs.Text.{byte_at}
use Rattle.rules.specs.WordRead.{WordRead, AtWord, ConstantWord, UnaryWord, BinaryWord, NoWord}

-- The byte that is there, or 256 for none.
abbrev pub byte_of : (byte : Option ℕ) → ℕ
byte_of None = 256
byte_of (Some byte) = byte

-- A byte that was expected at a place: it is there, or a fault of the grammar.
abbrev pub Expected : (s : List ℕ) (i b : ℕ) (answer : Result Unit Fault) → Type 0
Expected s i b (Ok _) = byte_at s i ≡ b
Expected s i b (Err fault) = (byte_at s i ≡ b → ⊥) × (fault ≡ record { refusal = Grammar; place = i })

-- A digit below a bound, or the number of its fault.
pub data DigitRead : Type 0 where
  Digit : (value : ℕ) → DigitRead
  NoDigit : (number : ℕ) → DigitRead

-- The code's answer at place i is this digit or fault.
abbrev pub DigitDone : (i : ℕ) (digit : DigitRead) (answer : Result ℕ Fault) → Type 0
DigitDone i digit (Ok value) = digit ≡ Digit value
DigitDone i digit (Err fault) = (digit ≡ NoDigit (number_of fault.refusal)) × (fault.place ≡ i)

-- A word read, with the place after it.
abbrev pub word_then : (word : Word) (place : ℕ) → WordRead
word_then At place = AtWord place
word_then (Alone word) place = ConstantWord word place
word_then (WithOne word) place = UnaryWord word place
word_then (WithTwo word) place = BinaryWord word place

abbrev pub word_read : (answer : Result (Word × ℕ) NoWordThere) → WordRead
word_read (Ok found) = word_then found.0 found.1
word_read (Err missing) = NoWord missing.place

-- A form read: the place after it, the lines laid down so far, and those of the forms closed so far. Or the fault met.
pub data Read : Type 0 where
  Form : (place laid closed : ℕ) → Read
  Refused : (number place : ℕ) → Read

abbrev pub form_read : (answer : Result Reached Fault) → Read
form_read (Ok reached) = Form reached.place reached.laid reached.closed
form_read (Err fault) = Refused (number_of fault.refusal) fault.place

-- A reading in the numbers that the code answers with, where `laid` lines were laid down and `closed` closed before the
-- form.
unfoldable pub read_of : ℕ → ℕ → Reading → Read
read_of laid closed (formed i f) = Form i (laid + line_count f) (closed + line_count f)
read_of laid closed (faulty n i) = Refused n i
