-- What reading a rule answers.
use Rattle.std.specs.Prelude.{ℕ, Result, Ok, Err}
use Rattle.numbers.specs.declared.fault.Fault.{Fault}
use Rattle.numbers.specs.RefusalNumber.{number_of}

-- The number of a rule's lines; or the fault met, by its number, with its place.
pub data RuleRead : Type 0 where
  Accepted : (lines : ℕ) → RuleRead
  Refused : (number place : ℕ) → RuleRead

-- The code's answer in these words.
abbrev pub rule_read : (answer : Result ℕ Fault) → RuleRead
rule_read (Ok lines) = Accepted lines
rule_read (Err fault) = Refused (number_of fault.refusal) fault.place
