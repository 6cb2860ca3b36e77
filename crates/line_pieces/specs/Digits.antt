-- Digits read one by one, as the code keeps what they say.
use Rattle.std.specs.Prelude.{ℕ, ◌+◌, ◌-◌, ◌*◌, ◌<◌, ◌≡◌, cond, List, [], ◌⊎◌, leb, length, drop}
use Rattle.codec.specs.Decimal.{digits, value_from, value}

-- The largest number that the code tells apart from larger ones.
abbrev pub largest : ℕ
largest = 4294967295

-- A digit more, where the number is not above the largest already.
unfoldable pub grown : ℕ → ℕ → ℕ
grown v c = cond (leb v largest) (10 * v + (c - 48)) v

-- A number that the code keeps, with digits to come, stands for a number: they say it together, or both are above the
-- largest.
abbrev pub Says : ℕ → List ℕ → ℕ → Type 0
Says v ds w = (value_from v ds ≡ w) ⊎ ((largest < v) × (largest < w))

-- The code's answer on the digits from place i on.
pub record DigitsRead (s : List ℕ) (i end v : ℕ) : Type 0 where
  pub ends : end ≡ i + length (digits (drop i s))
  pub says : Says v [] (value (digits (drop i s)))
