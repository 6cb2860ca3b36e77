-- The line with the start labels, from the parts that the code reads.
use Rattle.std.proofs.Common.{ℕ, ◌≡◌, List, Result, Ok, Err}
use Rattle.numbers.specs.declared.fault.Fault.{Fault}
use Rattle.codec.specs.Ascii.{ascii}
use Rattle.line_pieces.specs.Read.{Read, At, Refused}
use Rattle.line_pieces.specs.Reading.{head_read, then_end}
use Rattle.line_pieces.specs.NumberList.{then_spaced_list, then_close, eight_values}
use Rattle.line_pieces.specs.NumberListCode.{ListKept, numbers_read}
use Rattle.line_pieces.specs.ReadingCode.{within_limit}
use Rattle.lines.proofs.LineSteps.{Agrees, line_limited}
use Rattle.lines.specs.Lines.{label_limit, start_of, start_line}
use Rattle.lines.specs.LinesCode.{start_line_of, start_pieces}

-- The line's pieces, each of what is read before it.
pub start_made : (s : List ℕ) (k : ℕ) {word bracket whole : Read} {list : ListKept} → word ≡ head_read s (ascii "(start")
    → list ≡ numbers_read (then_spaced_list s label_limit word) → bracket ≡ then_close s k k list.read → whole ≡ then_end s bracket
    → start_of (eight_values (then_spaced_list s label_limit word).numbers) whole ≡ start_pieces s k
unfolding start_pieces
start_made s k w l b e = rw (e, b, l, w)

-- The limit on the line's bytes.
agrees : (labels : List ℕ) (whole : Read) (answer : Result ℕ Fault) → start_line_of answer ≡ start_of labels whole
    → Agrees whole answer
unfolding start_of
agrees labels (At i v) (Ok w) h = tt
agrees labels (At i v) (Err f) h = cc
agrees labels (Refused n i) (Ok w) h = cc
agrees labels (Refused n i) (Err f) h = (cc, cc)

pub start_whole : (s : List ℕ) (k : ℕ) (answer : Result ℕ Fault) → start_line_of answer ≡ start_pieces s k
    → start_line_of (within_limit s answer) ≡ start_line s k
unfolding start_of start_pieces start_line
start_whole s k answer h =
    line_limited start_line_of (start_of _) (λ n i f p q. rw (p, q)) s _ answer (agrees _ _ answer h) h
