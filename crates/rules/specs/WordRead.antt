-- What reading a word gives.
use Rattle.std.specs.Prelude.{ℕ}
use Rattle.rules.specs.declared.Constant.{Constant}
use Rattle.rules.specs.declared.Unary.{Unary}
use Rattle.rules.specs.declared.Binary.{Binary}

-- The word at a place, with the place after it; or the first byte that no word has there.
pub data WordRead : Type 0 where
  AtWord : (place : ℕ) → WordRead
  ConstantWord : (word : Constant) (place : ℕ) → WordRead
  UnaryWord : (word : Unary) (place : ℕ) → WordRead
  BinaryWord : (word : Binary) (place : ℕ) → WordRead
  NoWord : (place : ℕ) → WordRead
