-- What a line of the program says, apart from any reader: the numbers that stand in its text; and the words that
-- offer what it says (01, Examples: the program; Clocks and cuts: an event's mask, clock and labels).
use Rattle.std.specs.Prelude.{ℕ, ◌+◌, ◌-◌, ◌≤◌, ◌<◌, ◌≡◌, ◌↔◌, Bool, true, false, cond, List, [], ◌∷◌, ◌++◌, map, length}
use Rattle.codec.specs.Bit.{bit}
use Rattle.clocks.specs.Counts.{at}
use Rattle.rules.specs.Formula.{Formula}
use Rattle.codec.specs.Ascii.{ascii}
use Rattle.rules.specs.Text.{text_of, Grammatical, WithinLimits}
use Rattle.call_words.specs.Words.{unpack_counts, unpack_labels}
use Rattle.codec.specs.Decimal.{value}
use Rattle.line_pieces.specs.Reading.{line_limit}
use Rattle.line_pieces.specs.NumberList.{eight_values}
use Rattle.lines.specs.WatchLine.{Watch}
use Rattle.lines.specs.StartLine.{Start}
use Rattle.lines.specs.DidLine.{Did}
use Rattle.lines.specs.RuleLine.{Rule}
use Rattle.lines.specs.Lines.{rule_text, rule_line, k_limit, count_limit, label_limit, process_limit, room_limit, watch_line, start_line, did_line}
use Rattle.line_laws.specs.Grammar.{Numeral, Numerals, spaced, between}

-- Numbers that a list may have: none is above `most`, the first is not below `least`, and in an ascending list each
-- is above the one before.
unfoldable pub InLimits : (ascending : Bool) (least most : ℕ) (xs : List ℕ) → Type 0
InLimits ascending least most [] = Unit {0}
InLimits ascending least most (v ∷ vs) =
    (least ≤ v) × ((v ≤ most) × InLimits ascending (cond ascending (v + 1) 0) most vs)

-- (watch k room), with the numbers in decimal.
pub record WatchSays (s : List ℕ) (k room : ℕ) : Type 0 where
  pub k_digits : List ℕ
  pub room_digits : List ℕ
  pub numerals : Numeral k_digits × Numeral room_digits
  pub text : s ≡ ascii "(watch " ++ (k_digits ++ 32 ∷ (room_digits ++ 41 ∷ []))
  pub values : (value k_digits ≡ k) × (value room_digits ≡ room)
  pub limits : (k ≤ k_limit) × ((1 ≤ room) × (room ≤ room_limit))
  pub short : length s ≤ line_limit

-- (start l ..), with a label byte for each of k processes.
pub record StartSays (s : List ℕ) (k : ℕ) (ls : List ℕ) : Type 0 where
  pub label_digits : List (List ℕ)
  pub numerals : Numerals label_digits
  pub text : s ≡ ascii "(start" ++ (spaced label_digits ++ 41 ∷ [])
  pub values : map value label_digits ≡ ls
  pub limits : InLimits false 0 label_limit ls
  pub many : length ls ≡ k
  pub short : length s ≤ line_limit

-- (did (p ..) (c ..) (l ..)), from the digits of its numbers.
abbrev pub did_text : (processes counts labels : List (List ℕ)) → List ℕ
did_text processes counts labels =
    ascii "(did (" ++ (between processes
    ++ (ascii ") (" ++ (between counts
    ++ (ascii ") (" ++ (between labels ++ ascii "))")))))

-- Such a line: the processes ps, ascending; a count for each of k processes; a label byte for each process of ps.
pub record DidSays (s : List ℕ) (k : ℕ) (ps cs ls : List ℕ) : Type 0 where
  pub process_digits : List (List ℕ)
  pub count_digits : List (List ℕ)
  pub label_digits : List (List ℕ)
  pub numerals : Numerals process_digits × (Numerals count_digits × Numerals label_digits)
  pub text : s ≡ did_text process_digits count_digits label_digits
  pub values : (map value process_digits ≡ ps) × ((map value count_digits ≡ cs) × (map value label_digits ≡ ls))
  pub limits : InLimits true 0 process_limit ps × (InLimits false 0 count_limit cs × InLimits false 0 label_limit ls)
  pub some : 1 ≤ length ps
  pub counts_many : length cs ≡ k
  pub labels_many : length ls ≡ length ps
  pub short : length s ≤ line_limit

-- A process is one of ps.
abbrev pub Named : (p : ℕ) (ps : List ℕ) → Type 0
Named p ps = (j : ℕ) × ((j < length ps) × (at ps j ≡ p))

-- The words offer the event of the processes ps with the counts cs and the labels ls: what the call reads from the
-- words are these numbers.
pub record Offers (mask c01 c23 c45 c67 labels : ℕ) (ps cs ls : List ℕ) : Type 0 where
  pub take_part : (p : ℕ) → (bit mask p ≡ true) ↔ Named p ps
  pub counts : unpack_counts 4 (c01 ∷ c23 ∷ c45 ∷ c67 ∷ []) ≡ eight_values cs
  pub labelled : (j : ℕ) → j < length ps → at (unpack_labels labels) (at ps j) ≡ at ls j
  pub unlabelled : (p : ℕ) → (Named p ps → ⊥) → at (unpack_labels labels) p ≡ 0

-- (rule form), where the form is one of the grammar and within the limits for k processes.
pub record RuleSays (s : List ℕ) (k : ℕ) (f : Formula) : Type 0 where
  pub text : s ≡ ascii "(rule " ++ (text_of f ++ 41 ∷ [])
  pub grammatical : Grammatical f
  pub limits : WithinLimits k f
  pub short : length s ≤ line_limit

-- The statements (proved in LinesSay and RuleLineSays)

-- A line is read to a watch exactly if it says that watch.
abbrev pub WatchIsAsSaid : Type 0
WatchIsAsSaid = (s : List ℕ) (k room : ℕ) → (watch_line s ≡ Watch k room) ↔ WatchSays s k room

-- The start labels that the call reads are those that the line says; and a line that says some is read.
abbrev pub StartIsAsSaid : Type 0
StartIsAsSaid =
    (s : List ℕ) (k labels : ℕ) → start_line s k ≡ Start labels
    → (ls : List ℕ) × (StartSays s k ls × (unpack_labels labels ≡ eight_values ls))

abbrev pub StartSaidIsRead : Type 0
StartSaidIsRead =
    (s : List ℕ) (k : ℕ) (ls : List ℕ) → StartSays s k ls
    → (labels : ℕ) × ((start_line s k ≡ Start labels) × (unpack_labels labels ≡ eight_values ls))

-- The event that is offered is the one that the line says; and a line that says an event is read, and offers it.
abbrev pub EventIsAsSaid : Type 0
EventIsAsSaid =
    (s : List ℕ) (k mask c01 c23 c45 c67 labels : ℕ) → did_line s k ≡ Did mask c01 c23 c45 c67 labels
    → (ps cs ls : List ℕ) × (DidSays s k ps cs ls × Offers mask c01 c23 c45 c67 labels ps cs ls)

abbrev pub EventSaidIsRead : Type 0
EventSaidIsRead =
    (s : List ℕ) (k : ℕ) (ps cs ls : List ℕ) → DidSays s k ps cs ls
    → (mask c01 c23 c45 c67 labels : ℕ)
    × ((did_line s k ≡ Did mask c01 c23 c45 c67 labels) × Offers mask c01 c23 c45 c67 labels ps cs ls)

-- A rule's line is accepted exactly if it says a form; the rule is handed over from behind the head to before the
-- last byte, and these bytes are the form's text.
abbrev pub RuleIsAsSaid : Type 0
RuleIsAsSaid =
    (s : List ℕ) (k start end : ℕ)
    → (rule_line s k ≡ Rule start end) ↔ ((start ≡ 6) × ((end ≡ length s - 1) × ((f : Formula) × RuleSays s k f)))

abbrev pub RuleBytesAreTheForm : Type 0
RuleBytesAreTheForm = (s : List ℕ) (k : ℕ) (f : Formula) → RuleSays s k f → rule_text s ≡ text_of f
