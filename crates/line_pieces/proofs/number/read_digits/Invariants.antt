-- What is read so far and the digits to come make up all the digits, and say the number. Each turn is `digits_next`
-- and `says_next`.
use Rattle.std.proofs.Common.{◌+◌, ◌≤◌, ◌≡◌, max, length, drop}
use Rattle.codec.specs.Decimal.{digits, value}
use Rattle.line_pieces.specs.Digits.{Says}
use Rattle.line_pieces.proofs.number.read_digits.Given as goal

abbrev pub invariant-loop-end : goal.invariant-loop-end
invariant-loop-end l = record {
  within : l.end ≤ max l.start (length l.line);
  ends : l.start + length (digits (drop l.start l.line)) ≡ l.end + length (digits (drop l.end l.line));
  says : Says l.value (digits (drop l.end l.line)) (value (digits (drop l.start l.line)));
}
