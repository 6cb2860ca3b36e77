-- What the code of find keeps to: the reply from a frontier on, and the values of four frontiers at once.
use Rattle.std.specs.Prelude.{ℕ, ◌+◌, ◌<◌, ◌≡◌, true, List, drop, length, map, slice_index}
use Rattle.std.specs.Int.Bits.{bit_or}
use Rattle.codec.specs.Bit.{bit}
use Rattle.frontiers.specs.declared.Frontier.{Frontier}
use Rattle.call_find.specs.Find.{find_from}
use Rattle.answers.specs.Answer.{reply_word}

-- The values of frontier i.
abbrev pub values_at : List Frontier → ℕ → ℕ
values_at laid i = slice_index (map (λ f. f.values) laid) i

-- The reply for the frontiers from number i on.
abbrev pub reply_from : ℕ → List Frontier → ℕ → ℕ
reply_from line laid i = reply_word (find_from line i (drop i laid))

-- The line holds at frontier i, and no frontier before it decides.
abbrev pub IsFirst : ℕ → List Frontier → ℕ → Type 0
IsFirst line laid i =
    (i < length laid) × (bit (values_at laid i) line ≡ true) × (reply_from line laid 0 ≡ reply_from line laid i)

-- The bits that any of four frontiers has in its values, from number i on.
abbrev pub four_values : List Frontier → ℕ → ℕ
four_values laid i =
    bit_or
    (bit_or (values_at laid i) (values_at laid (i + 1)))
    (bit_or (values_at laid (i + 2)) (values_at laid (i + 3)))
