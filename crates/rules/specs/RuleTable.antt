-- What reading a rule answers and leaves: the number of lines and the table, or the fault and the table as it was (01,
-- Turned back, from the input: 1 to 4, and 6 for a table of a wrong length).
use Rattle.std.specs.Prelude.{ℕ, ◌-◌, ◌*◌, cond, List, ◌++◌, eqb, length, replicate}
use Rattle.rules.specs.RuleRead.{RuleRead, Accepted, Refused}
use Rattle.rules.specs.Formula.{Formula}
use Rattle.rules.specs.Line.{line_count, lines_at}
use Rattle.pactl.specs.Table.{table_bytes}
use Rattle.rules.specs.Reader.{Reading, formed, faulty, read_rule}

-- The 192 bytes of a form's table: its lines, then zeros.
unfoldable pub table_of : (f : Formula) → List ℕ
table_of f = table_bytes (lines_at 0 f) ++ replicate (192 - 3 * line_count f) 0

-- The answer of a reading: a form's number of lines, or a fault.
unfoldable pub answer_of : (r : Reading) → RuleRead
answer_of (formed i f) = Accepted (line_count f)
answer_of (faulty n i) = Refused n i

-- The table after a reading: the form's, or as it was.
unfoldable pub table_after : (r : Reading) (old : List ℕ) → List ℕ
table_after (formed i f) old = table_of f
table_after (faulty n i) old = old

-- What `read_rule` answers and leaves, lent a table of any length.
unfoldable pub rule_answer : (text : List ℕ) (k : ℕ) (old : List ℕ) → RuleRead
rule_answer text k old = cond (eqb (length old) 192) (answer_of (read_rule text k)) (Refused 6 0)

unfoldable pub rule_table : (text : List ℕ) (k : ℕ) (old : List ℕ) → List ℕ
rule_table text k old = cond (eqb (length old) 192) (table_after (read_rule text k) old) old
