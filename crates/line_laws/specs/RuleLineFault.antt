-- The faults of a rule's line, apart from any reader: its head, its length, the rule's own faults, its last byte, in
-- turn (01, Examples: the program; Turned back, from the input: 1 to 4 and 10).
use Rattle.std.specs.Prelude.{ℕ, zero, suc, ◌-◌, ◌<◌, ◌≡◌, List, length, take}
use Rattle.numbers.specs.Refusal.{grammar_number, line_limit_number}
use Rattle.codec.specs.Ascii.{ascii}
use Rattle.rules.specs.Text.{byte_at}
use Rattle.rules.specs.Fault.{StandsAt, FirstFault}
use Rattle.line_pieces.specs.Reading.{line_limit}
use Rattle.lines.specs.Lines.{rule_text}

-- A line begins with these bytes up to before place i, and has another one or its end there.
pub record Departs (bytes s : List ℕ) (i : ℕ) : Type 0 where
  pub within : i < length bytes
  pub before : StandsAt s 0 (take i bytes)
  pub other : byte_at s i ≡ byte_at bytes i → ⊥

-- The line, with k processes, has fault n at place i, in its turn. First its head; then its length; then the rule's
-- own first fault, which is that of the bytes behind the head and before the last byte, its place counted from the
-- rule's first byte; then the last byte.
unfoldable pub RuleFault : (turn n : ℕ) (s : List ℕ) (k i : ℕ) → Type 0
RuleFault zero n s k i = (n ≡ grammar_number) × Departs (ascii "(rule ") s i
RuleFault (suc zero) n s k i = (n ≡ line_limit_number) × ((i ≡ line_limit) × (line_limit < length s))
RuleFault (suc (suc zero)) n s k i = FirstFault n (rule_text s) k i
RuleFault (suc (suc (suc zero))) n s k i = (n ≡ grammar_number) × ((i ≡ length s - 1) × (byte_at s i ≡ 41 → ⊥))
RuleFault (suc (suc (suc (suc turn)))) n s k i = ⊥

-- The fault that answers is the one whose turn comes first.
pub record RuleFirstFault (n : ℕ) (s : List ℕ) (k i : ℕ) : Type 0 where
  pub turn : ℕ
  pub here : RuleFault turn n s k i
  pub none_before : (t m j : ℕ) → t < turn → RuleFault t m s k j → ⊥
