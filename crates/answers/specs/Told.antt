-- How a caller tells a call's two answers apart by the reply word: where all refusals' numbers are 1 to 255 and all
-- values below 65,536. Proved in ToldLaws.
use Rattle.std.specs.Prelude.{ℕ, ◌/◌, ◌%◌, ◌<◌, ◌≡◌, ◌↔◌}
use Rattle.answers.specs.Result.{Result, refused, gives, result_word}

pub record Told (a : Result) : Type 0 where
  -- refused exactly if the word's number is not 0: it is that number
  pub refused_exactly : (n : ℕ) → (a ≡ refused n) ↔ ((0 < n) × (result_word a % 256 ≡ n))
  -- else its value is the one given
  pub gives_exactly : (n : ℕ) → (a ≡ gives n) ↔ ((result_word a % 256 ≡ 0) × (result_word a / 65536 % 65536 ≡ n))
