-- The rule's text, kept from its line on: what is copied is what the line has between its word and its last byte.
use Prim.Native.Nat.{ℕ, ◌+◌, ◌-◌, ◌≤◌}
use native.Mathlib.Omega.{arith}
use mathlib.Core.Path.{◌≡◌}
use mathlib.Core.Bool.{Bool, true, false, cond}
use mathlib.Core.List.{List}
use lib.Dec.{eqb}
use lib.ListN.{length, take, drop, length-drop}
use lib.Seq.{length-take-le}
use Rattle.codec.specs.Ascii.{ascii}
use Rattle.rules.specs.Text.{byte_at}
use Rattle.rules.specs.Reader.{Reading, formed, faulty, read_rule}
use Rattle.line_pieces.specs.Read.{Read, At, Refused}
use Rattle.lines.specs.RuleLine.{RuleLine, Rule, Refused as RuleRefused}
use Rattle.line_pieces.specs.Reading.{limited, head_read}
use Rattle.lines.specs.Lines.{rule_text, rule_closed, rule_of, rule_line}

-- The part of a line that is the rule's fits where the line does.
pub part-fits : (line : List ℕ) (start end n : ℕ) → start ≤ end → end ≤ length line → length line ≤ n → 0 + length (take (end - start) (drop start line)) ≤ n
part-fits line start end n h l m =
    let short : end - start ≤ length (drop start line) = rw (length-drop start line) (omega arith) in
    omega (arith, length-take-le (end - start) (drop start line) short)

-- What stands where the reader says that the rule stands is the rule's text.
abbrev pub Lies : List ℕ → RuleLine → Type 0
Lies s (Rule start end) = take (end - start) (drop start s) ≡ rule_text s
Lies s (RuleRefused n i) = Unit {0}

closing : (s : List ℕ) (b : Bool) (n i : ℕ) → Lies s (cond b (Rule 6 (length s - 1)) (RuleRefused n i))
unfolding rule_text
closing s true n i = let e : length s - 1 - 6 ≡ length s - 7 = omega arith in rw e
closing s false n i = tt

closed_lies : (s : List ℕ) (r : Reading) → Lies s (rule_closed s r)
unfolding rule_closed
closed_lies s (formed i f) = closing s (eqb (byte_at s (length s - 1)) 41) 1 (length s - 1)
closed_lies s (faulty n i) = tt

of_lies : (s : List ℕ) (k : ℕ) (r : Read) → Lies s (rule_of s k r)
unfolding rule_of
of_lies s k (At i v) = closed_lies s (read_rule (rule_text s) k)
of_lies s k (Refused n i) = tt

pub rule_lies : (s : List ℕ) (k : ℕ) → Lies s (rule_line s k)
unfolding rule_line
rule_lies s k = of_lies s k (limited s (head_read s (ascii "(rule ")))
