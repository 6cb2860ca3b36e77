-- Splitting at line feeds (01, Examples: the program): line feeds belong to no line.
use Rattle.std.specs.Prelude.{ℕ, ◌+◌, ◌≤◌, ◌≡◌, Bool, true, false, cond, List, [], ◌∷◌, ◌++◌, eqb, length, take}
use Rattle.answers.specs.Answer.{flag}
use Rattle.program.specs.declared.Scan.{Scan}

-- The bytes before the first line feed; all, where there is none.
unfoldable pub up_to_feed : (xs : List ℕ) → List ℕ
up_to_feed [] = []
up_to_feed (b ∷ s) = cond (eqb b 10) [] (b ∷ up_to_feed s)

-- Whether there is a line feed.
unfoldable pub has_feed : (xs : List ℕ) → Bool
has_feed [] = false
has_feed (b ∷ s) = cond (eqb b 10) true (has_feed s)

-- What is found in bytes that were read, where the line has `kept` bytes so far: the bytes up to the line feed and that
-- one are used, and go behind the line's, as many as there is room for.
pub record Scanned (bytes line : List ℕ) (kept : ℕ) (after : List ℕ) (r : Scan) : Type 0 where
  pub ended : r.feed ≡ has_feed bytes
  pub passed : r.used ≡ length (up_to_feed bytes) + flag (has_feed bytes)
  pub inside : (r.used ≤ length bytes) × (r.kept ≤ length after)
  pub laid : take r.kept after ≡ take (length line) (take kept line ++ up_to_feed bytes)
