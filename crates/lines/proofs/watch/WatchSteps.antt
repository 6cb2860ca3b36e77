-- The line that opens, from the parts that the code reads.
use Rattle.std.proofs.Common.{ℕ, ◌≡◌, List, Result, Ok, Err}
use Rattle.numbers.specs.declared.fault.Fault.{Fault}
use Rattle.codec.specs.Ascii.{ascii}
use Rattle.line_pieces.specs.Read.{Read, At, Refused}
use Rattle.line_pieces.specs.Reading.{value_read, head_read, then_byte, then_number, then_end, then_last}
use Rattle.line_pieces.specs.ReadingCode.{within_limit}
use Rattle.lines.proofs.LineSteps.{Agrees, line_limited}
use Rattle.lines.specs.declared.watch.Watch.{Watch}
use Rattle.lines.specs.Lines.{k_limit, room_limit, watch_of, watch_line}
use Rattle.lines.specs.LinesCode.{watch_line_of, watch_pieces}

-- The line's pieces, each of what is read before it.
pub watch_made : (s : List ℕ) {word k space room bracket whole : Read} → word ≡ head_read s (ascii "(watch ")
    → k ≡ then_number s 0 k_limit word → space ≡ then_byte s 32 k → room ≡ then_number s 1 room_limit space
    → bracket ≡ then_byte s 41 room → whole ≡ then_end s bracket
    → watch_of (value_read k) whole ≡ watch_pieces s
unfolding watch_pieces
watch_made s w k p r b e = rw (e, b, r, p, k, w)

-- The limit on the line's bytes.
agrees : (k : ℕ) (whole : Read) (answer : Result Watch Fault) → watch_line_of answer ≡ watch_of k whole
    → Agrees whole answer
unfolding watch_of
agrees k (At i v) (Ok w) h = tt
agrees k (At i v) (Err f) h = cc
agrees k (Refused n i) (Ok w) h = cc
agrees k (Refused n i) (Err f) h = (cc, cc)

pub watch_whole : (s : List ℕ) (answer : Result Watch Fault) → watch_line_of answer ≡ watch_pieces s
    → watch_line_of (within_limit s answer) ≡ watch_line s
unfolding watch_of watch_pieces watch_line then_last
watch_whole s answer h =
    line_limited watch_line_of (watch_of _) (λ n i f p q. rw (p, q)) s _ answer (agrees _ _ answer h) h
