-- The program's lines (01, Examples: the program): what each gives, or its fault by 1 or 10.
use Rattle.std.specs.Prelude.{ℕ, ◌+◌, ◌-◌, ◌*◌, ◌≤◌, true, false, cond, List, eqb, length, take, drop}
use Rattle.clocks.specs.Counts.{at}
use Rattle.codec.specs.Ascii.{ascii}
use Rattle.rules.specs.Text.{byte_at}
use Rattle.rules.specs.Reader.{Reading, formed, faulty, read_rule}
use Rattle.line_pieces.specs.Read.{Read, At, Refused}
use Rattle.lines.specs.WatchLine.{WatchLine, Watch, Refused as WatchRefused}
use Rattle.lines.specs.StartLine.{StartLine, Start, Refused as StartRefused}
use Rattle.lines.specs.DidLine.{DidLine, Did, Refused as DidRefused}
use Rattle.lines.specs.RuleLine.{RuleLine, Rule, Refused as RuleRefused}
use Rattle.line_pieces.specs.Reading.{value_read, then_byte, then_bytes, head_read, then_number, then_end, limited, then_last}
use Rattle.line_pieces.specs.NumberList.{then_list, then_spaced_list, then_close, eight_values}
use Rattle.lines.specs.Words.{packed_word, placed}

-- The limits on numbers (01, Turned back, from the input: 10): k, the number of processes; clock counts, which have 32
-- bits (02 [6]); labels; a process's own number; and frontiers in a window.
abbrev pub k_limit : ℕ
k_limit = 65535

abbrev pub count_limit : ℕ
count_limit = 4294967295

abbrev pub label_limit : ℕ
label_limit = 255

abbrev pub process_limit : ℕ
process_limit = 7

abbrev pub room_limit : ℕ
room_limit = 1024

-- (watch k room)
unfoldable pub watch_of : (k : ℕ) (r : Read) → WatchLine
watch_of k (At i room) = Watch k room
watch_of k (Refused n i) = WatchRefused n i

unfoldable pub watch_line : (s : List ℕ) → WatchLine
watch_line s =
    let k = then_number s 0 k_limit (head_read s (ascii "(watch ")) in
    let room = then_number s 1 room_limit (then_byte s 32 k) in
    watch_of (value_read k) (then_last s room)

-- (start l ..), with a label byte for each of k processes.
unfoldable pub start_of : (labels : List ℕ) (r : Read) → StartLine
start_of labels (At i n) = Start (packed_word 256 labels)
start_of labels (Refused n i) = StartRefused n i

unfoldable pub start_line : (s : List ℕ) (k : ℕ) → StartLine
start_line s k =
    let labels = then_spaced_list s label_limit (head_read s (ascii "(start")) in
    start_of (eight_values labels.numbers) (limited s (then_end s (then_close s k k labels.read)))

-- Word i of the four that hold a clock: two counts, the lower process in the lower half.
abbrev pub clock_word : (counts : List ℕ) (i : ℕ) → ℕ
clock_word counts i = packed_word (count_limit + 1) (take 2 (drop (2 * i) (eight_values counts)))

-- (did (p ..) (c ..) (l ..)): some processes, ascending; a count for each of k processes; a label byte for each of
-- those that take part.
unfoldable pub did_of : (n : ℕ) (processes counts labels : List ℕ) (r : Read) → DidLine
did_of n processes counts labels (At i v) =
    Did (packed_word 2 (placed n (at processes) (λ j. 1)))
    (clock_word counts 0) (clock_word counts 1) (clock_word counts 2) (clock_word counts 3)
    (packed_word 256 (placed n (at processes) (at labels)))
did_of n processes counts labels (Refused m i) = DidRefused m i

unfoldable pub did_line : (s : List ℕ) (k : ℕ) → DidLine
did_line s k =
    let processes = then_list s true process_limit (head_read s (ascii "(did (")) in
    let first = then_close s 1 8 processes.read in
    let counts = then_list s false count_limit (then_bytes s (ascii " (") first) in
    let second = then_close s k k counts.read in
    let labels = then_list s false label_limit (then_bytes s (ascii " (") second) in
    let third = then_close s (value_read first) (value_read first) labels.read in
    did_of (value_read first) processes.numbers counts.numbers labels.numbers (then_last s third)

-- (rule form): the form runs from behind the space to before the line's last byte, and is read with k processes.
unfoldable pub rule_text : (s : List ℕ) → List ℕ
rule_text s = take (length s - 7) (drop 6 s)

-- Behind the rule's own faults: a last byte that is no closing bracket is 1.
unfoldable pub rule_closed : (s : List ℕ) (r : Reading) → RuleLine
rule_closed s (formed i f) =
    cond (eqb (byte_at s (length s - 1)) 41) (Rule 6 (length s - 1)) (RuleRefused 1 (length s - 1))
rule_closed s (faulty n i) = RuleRefused n i

unfoldable pub rule_of : (s : List ℕ) (k : ℕ) (r : Read) → RuleLine
rule_of s k (At i v) = rule_closed s (read_rule (rule_text s) k)
rule_of s k (Refused n i) = RuleRefused n i

unfoldable pub rule_line : (s : List ℕ) (k : ℕ) → RuleLine
rule_line s k = rule_of s k (limited s (head_read s (ascii "(rule ")))

-- The rule stands within a line of so many bytes.
abbrev pub RuleWithin : (n : ℕ) (r : RuleLine) → Type 0
RuleWithin n (Rule start end) = (start ≤ end) × (end ≤ n)
RuleWithin n (RuleRefused m i) = Unit {0}
