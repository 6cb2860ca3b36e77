-- An event's line, from the parts that the code reads.
use Rattle.std.proofs.Common.{ℕ, ◌+◌, ◌-◌, ◌≤◌, ◌<◌, ◌≡◌, refl, sym, true, false, List, length, take, drop, Result, Ok, Err, arith}
use lib.ListN.{replicate, get_or-replicate}
use Rattle.numbers.specs.declared.fault.Fault.{Fault}
use Rattle.clocks.specs.Counts.{at}
use Rattle.clocks.specs.stored.CountsLaws.{length-list_of, list_of-at, at-list_of}
use Rattle.codec.specs.Ascii.{ascii}
use Rattle.line_pieces.specs.Read.{Read, At, Refused}
use Rattle.line_pieces.specs.Reading.{value_read, then_byte, then_bytes, head_read, then_end, then_last}
use Rattle.line_pieces.specs.NumberList.{then_list, then_close, eight_values}
use Rattle.line_pieces.specs.NumberListCode.{ListKept, numbers_read}
use Rattle.line_pieces.specs.ReadingCode.{within_limit}
use Rattle.lines.proofs.LineSteps.{Agrees, line_limited}
use Rattle.lines.specs.declared.did.Did.{Did as DidRead}
use Rattle.lines.specs.DidLine.{Did}
use Rattle.lines.specs.Words.{packed_word, placed}
use Rattle.lines.proofs.words.WordSteps.{placed_same}
use Rattle.lines.specs.Lines.{count_limit, label_limit, process_limit, did_of, did_line}
use Rattle.lines.specs.LinesCode.{did_line_of, did_pieces}

-- Of each list the first eight numbers are enough, and where the line ends decides nothing.
pub did_eight : (n : ℕ) (processes counts labels : List ℕ) (i v : ℕ) → n ≤ 8
    → did_of n (eight_values processes) (eight_values counts) (eight_values labels) (At 0 0)
    ≡ did_of n processes counts labels (At i v)
unfolding did_of
did_eight n processes counts labels i v h =
    let same : (l : List ℕ) (j : ℕ) → j < n → at (eight_values l) j ≡ at l j =
    λ l j p. at-list_of 8 (at l) j (omega arith) in
    rw (
      list_of-at 8 (eight_values counts) (length-list_of 8 (at counts)),
      placed_same n (at (eight_values processes)) (at processes) (λ j. 1) (λ j. 1) (same processes) (λ j p. refl),
      placed_same n (at (eight_values processes)) (at processes) (at (eight_values labels)) (at labels) (same processes)
          (same labels),
    )

-- The words as the code makes them, each of what is made before.
pub words_made : (n : ℕ) (processes counts labels marks placed' : List ℕ) (mask c01 c23 c45 c67 word' : ℕ)
    → length counts ≡ 8
    → marks ≡ placed n (at processes) (at (replicate 8 1)) → mask ≡ packed_word 2 marks
    → c01 ≡ packed_word (count_limit + 1) (take (2 - 0) (drop 0 counts))
    → c23 ≡ packed_word (count_limit + 1) (take (4 - 2) (drop 2 counts))
    → c45 ≡ packed_word (count_limit + 1) (take (6 - 4) (drop 4 counts))
    → c67 ≡ packed_word (count_limit + 1) (take (8 - 6) (drop 6 counts))
    → placed' ≡ placed n (at processes) (at labels) → word' ≡ packed_word 256 placed'
    → n ≤ 8 → Did mask c01 c23 c45 c67 word' ≡ did_of n processes counts labels (At 0 0)
unfolding did_of
words_made n processes counts labels marks placed' mask c01 c23 c45 c67 word' l m e e₀ e₁ e₂ e₃ p w h =
    let ones : placed n (at processes) (λ j. 1) ≡ placed n (at processes) (at (replicate 8 1)) =
    placed_same n (at processes) (at processes) (λ j. 1) (at (replicate 8 1)) (λ j p. refl)
    (λ j p. sym (get_or-replicate 8 j 1 0 (omega arith)))
    in
    rw (ones, list_of-at 8 counts l, e, e₀, e₁, e₂, e₃, w, m, p)

-- The line's pieces, each of what is read before it.
pub did_made : (s : List ℕ) (k : ℕ)
    {word first second third fourth last bracket whole : Read} {processes counts labels : ListKept}
    → word ≡ head_read s (ascii "(did (")
    → processes ≡ numbers_read (then_list s true process_limit word)
    → first ≡ then_close s 1 8 processes.read
    → second ≡ then_bytes s (ascii " (") first
    → counts ≡ numbers_read (then_list s false count_limit second)
    → third ≡ then_close s k k counts.read
    → fourth ≡ then_bytes s (ascii " (") third
    → labels ≡ numbers_read (then_list s false label_limit fourth)
    → last ≡ then_close s (value_read first) (value_read first) labels.read
    → bracket ≡ then_byte s 41 last
    → whole ≡ then_end s bracket
    → did_of (value_read first) (then_list s true process_limit word).numbers
    (then_list s false count_limit second).numbers (then_list s false label_limit fourth).numbers whole
    ≡ did_pieces s k
unfolding did_pieces
did_made s k w p f e c t g l a b h = rw (h, b, a, l, g, t, c, e, f, p, w)

-- The limit on the line's bytes.
agrees : (n : ℕ) (processes counts labels : List ℕ) (whole : Read) (answer : Result DidRead Fault)
    → did_line_of answer ≡ did_of n processes counts labels whole → Agrees whole answer
unfolding did_of
agrees n processes counts labels (At i v) (Ok w) h = tt
agrees n processes counts labels (At i v) (Err f) h = cc
agrees n processes counts labels (Refused m i) (Ok w) h = cc
agrees n processes counts labels (Refused m i) (Err f) h = (cc, cc)

pub did_whole : (s : List ℕ) (k : ℕ) (answer : Result DidRead Fault) → did_line_of answer ≡ did_pieces s k
    → did_line_of (within_limit s answer) ≡ did_line s k
unfolding did_of did_pieces did_line then_last
did_whole s k answer h =
    line_limited did_line_of (did_of _ _ _ _) (λ n i f p q. rw (p, q)) s _ answer (agrees _ _ _ _ _ answer h) h
