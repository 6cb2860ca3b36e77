-- Each line of the program is read as its pieces are.
use Rattle.std.specs.Prelude.{ℕ, ◌≡◌, refl, true, List}
use Rattle.std.proofs.Common.{arith}
use Rattle.codec.specs.Ascii.{ascii}
use Rattle.line_pieces.specs.Reading.{value_read, then_bytes, head_read, then_number, limited, then_last}
use Rattle.line_pieces.specs.NumberList.{then_list, then_spaced_list, then_close, eight_values}
use Rattle.lines.specs.Lines.{k_limit, label_limit, process_limit, watch_of, watch_line, start_of, start_line, did_of, did_line}
use Rattle.line_laws.specs.Grammar.{watch_pieces, start_pieces, did_pieces}
use Rattle.line_laws.specs.pieces.ReadPieces.{read_piece, read_pieces}
use Rattle.line_laws.specs.pieces.PieceTextRead.{AllEnded}
use Rattle.line_laws.specs.faults.GrammarTheorem.{line_read}

-- The pieces' own bytes are bytes, and no number runs on into the byte behind it.
pub watch_ended : AllEnded watch_pieces
unfolding watch_pieces AllEnded
watch_ended = search (arith)

pub start_ended : (k : ℕ) → AllEnded (start_pieces k)
unfolding start_pieces AllEnded
start_ended k = search (arith)

pub did_ended : (k n : ℕ) → AllEnded (did_pieces k n)
unfolding did_pieces AllEnded
did_ended k n = search (arith)

pub watch_read_lem : (s : List ℕ)
    → watch_line s ≡ watch_of (value_read (then_number s 0 k_limit (head_read s (ascii "(watch "))))
    (limited s (line_read s watch_pieces))
unfolding watch_pieces watch_line then_last then_bytes line_read read_piece read_pieces
watch_read_lem s = refl

pub start_read_lem : (s : List ℕ) (k : ℕ)
    → start_line s k ≡ start_of (eight_values (then_spaced_list s label_limit (head_read s (ascii "(start"))).numbers)
    (limited s (line_read s (start_pieces k)))
unfolding start_pieces start_line then_bytes line_read read_piece read_pieces
start_read_lem s k = refl

-- The processes that a line names, counted, where their list is read.
unfoldable pub named : List ℕ → ℕ
named s = value_read (then_close s 1 8 (then_list s true process_limit (head_read s (ascii "(did ("))).read)

pub did_read : (s : List ℕ) (k : ℕ)
    → (ps cs ls : List ℕ) × (did_line s k ≡ did_of (named s) ps cs ls (limited s (line_read s (did_pieces k (named s)))))
unfolding did_pieces did_line then_last then_bytes line_read read_piece read_pieces named
did_read s k = (_, _, _, refl)
