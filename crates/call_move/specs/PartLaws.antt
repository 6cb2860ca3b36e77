-- Parts one behind the other, and how long they are.
use Rattle.std.specs.Prelude.{ℕ, zero, suc, ◌+◌, ◌*◌, ◌≤◌, ◌≡◌, refl, ◌||◌, List, [], ◌∷◌, ◌++◌, length, drop}
use Rattle.std.proofs.Common.{arith, zero-mul, suc-mul, sym, ap, ◌∙◌, append_assoc, append-nil, length-append, length-drop, drop-drop, length-take-le}
use Rattle.std.proofs.Math.Bool.{or_assoc}
use Rattle.clocks.specs.stored.CountsLaws.{length-list_of}
use Rattle.frontiers.specs.Bytes.{frontier_length}
use Rattle.frontiers.specs.BytesLaws.{length-count_bytes}
use Rattle.records.specs.Record.{record_length, event_length}
use Rattle.call_move.specs.Parts.{Part, plain, counts, many_of, event_parts, record_parts, frontier_parts, window_parts}
use Rattle.call_move.specs.PartLengths.{part_length, length_of}
use Rattle.call_move.specs.Move.{counts_from, moved, some_too_large}

-- ---- Lengths

pub length_of-append : (w : ℕ) (ps qs : List Part) → length_of w (ps ++ qs) ≡ length_of w ps + length_of w qs
unfolding length_of
length_of-append w [] qs = omega arith
length_of-append w (p ∷ ps) qs = rw (length_of-append w ps qs) (omega arith)

pub length_of-repeated : (w n : ℕ) (ps : List Part) → length_of w (many_of n ps) ≡ n * length_of w ps
unfolding length_of many_of
length_of-repeated w zero ps = sym (zero-mul (length_of w ps))
length_of-repeated w (suc n) ps =
    rw (length_of-append w ps (many_of n ps), length_of-repeated w n ps, suc-mul) (omega arith)

pub length-event_parts : (w : ℕ) → length_of w event_parts ≡ event_length w
unfolding length_of part_length
length-event_parts w = omega arith

pub length-record_parts : (w : ℕ) → length_of w record_parts ≡ record_length w
unfolding length_of part_length
length-record_parts w = rw (length_of-repeated w 32 event_parts, length-event_parts w) (omega arith)

pub length-frontier_parts : (w : ℕ) → length_of w frontier_parts ≡ frontier_length w
unfolding length_of part_length frontier_length
length-frontier_parts w = omega arith

pub length-window_parts : (w n : ℕ) → length_of w (window_parts n) ≡ n * frontier_length w
length-window_parts w n = rw (length_of-repeated w n frontier_parts, length-frontier_parts w)

-- ---- One more at the end

pub repeated_more : (n : ℕ) (ps : List Part) → many_of (n + 1) ps ≡ many_of n ps ++ ps
unfolding many_of
repeated_more n ps = rw (one_more n) (go n)
  where
    one_more : (m : ℕ) → m + 1 ≡ suc m
    one_more m = omega arith

    go : (m : ℕ) → many_of (suc m) ps ≡ many_of m ps ++ ps
    go zero = append-nil ps
    go (suc m) = ap (λ (l : List Part). ps ++ l) (go m) ∙ sym (append_assoc ps (many_of m ps) ps)

-- ---- Parts apart

pub moved-append : (v w : ℕ) (ps qs : List Part) (s : List ℕ)
    → moved v w (ps ++ qs) s ≡ moved v w ps s ++ moved v w qs (drop (length_of v ps) s)
unfolding moved length_of part_length
moved-append v w [] qs s = refl
moved-append v w (plain n ∷ ps) qs s =
    rw (moved-append v w ps qs (drop n s), drop-drop (length_of v ps) n s, append_assoc)
moved-append v w (counts n ∷ ps) qs s =
    rw (moved-append v w ps qs (drop (n * v) s), drop-drop (length_of v ps) (n * v) s, append_assoc)

pub some_too_large-append : (v w : ℕ) (ps qs : List Part) (s : List ℕ)
    → some_too_large v w (ps ++ qs) s ≡ (some_too_large v w ps s || some_too_large v w qs (drop (length_of v ps) s))
unfolding some_too_large length_of part_length
some_too_large-append v w [] qs s = refl
some_too_large-append v w (plain n ∷ ps) qs s =
    rw (some_too_large-append v w ps qs (drop n s), drop-drop (length_of v ps) n s)
some_too_large-append v w (counts n ∷ ps) qs s =
    rw (some_too_large-append v w ps qs (drop (n * v) s), drop-drop (length_of v ps) (n * v) s, or_assoc)

-- ---- The length of what is moved

pub length-counts_from : (v n : ℕ) (s : List ℕ) → length (counts_from v n s) ≡ n
unfolding counts_from
length-counts_from v n s = length-list_of n _

pub length_moved : (v w : ℕ) (ps : List Part) (s : List ℕ) → length_of v ps ≤ length s
    → length (moved v w ps s) ≡ length_of w ps
unfolding moved length_of part_length
length_moved v w [] s h = refl
length_moved v w (plain n ∷ ps) s h =
    rw (
      length-append,
      length-take-le n s (omega arith),
      length_moved v w ps (drop n s) (rw (length-drop n s) (omega arith)),
    )
length_moved v w (counts n ∷ ps) s h =
    rw (
      length-append,
      length-count_bytes w (counts_from v n s),
      length-counts_from v n s,
      length_moved v w ps (drop (n * v) s) (rw (length-drop (n * v) s) (omega arith)),
    )
