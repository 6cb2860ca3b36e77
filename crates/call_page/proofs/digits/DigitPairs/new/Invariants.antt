-- Below n the table is laid.
use Rattle.std.proofs.Common.{◌≡◌, ℕ, ◌+◌, ◌*◌, ◌/◌, ◌%◌, ◌<◌, List, length, get_or}
use Rattle.call_page.proofs.digits.DigitPairs.new.Given as goal

pub record LaidBelow (n : ℕ) (pairs : List ℕ) : Type 0 where
  pub long : length pairs ≡ 200
  pub tens : (m : ℕ) → m < n → get_or pairs (2 * m) 0 ≡ 48 + m / 10
  pub ones : (m : ℕ) → m < n → get_or pairs (2 * m + 1) 0 ≡ 48 + m % 10

abbrev pub invariant-loop-n : goal.invariant-loop-n
invariant-loop-n l = LaidBelow l.n l.digits
