-- One turn of the loops over counts: one more count is looked at, or written.
use Prim.Native.Nat.{ℕ, zero, suc, ◌+◌, ◌*◌, ◌^◌, ◌<◌}
use native.Mathlib.Omega.{arith}
use native.Mathlib.Nat.{add-zero, add-suc, zero-add, suc-add, zero-mul, suc-mul, add-mul, mul_assoc, mul_comm}
use mathlib.Core.Path.{◌≡◌, refl, sym, ap, ap₂, ◌∙◌}
use mathlib.Core.Bool.{Bool, false, ◌||◌, or_comm, or_assoc}
use mathlib.Core.List.{List, ◌∷◌, ◌++◌}
use lib.ListN.{length, drop}
use lib.Seq.{sets, drop-drop}
use lib.Dec.{eqb, ltb}
use borrow.Author.Tests.{lt-leb}
use Rattle.codec.specs.Little.{number}
use Rattle.codec.specs.SetsLaws.{sets-append}
use Rattle.codec.specs.PutLaws.{number-drop}
use Rattle.clocks.specs.Bounded.{any_below}
use Rattle.clocks.specs.Counts.{at, list_of}
use Rattle.clocks.specs.stored.CountsLaws.{at-list_of, list_of-same}
use Rattle.clocks.specs.stored.BoundedTurns.{any_none, any-false_i, any-false_e}
use Rattle.frontiers.specs.Bytes.{count_bytes}
use Rattle.frontiers.specs.BytesLaws.{length-count_bytes, count_bytes-append}
use Rattle.call_move.specs.PartLaws.{length-counts_from}
use Rattle.call_move.specs.CountLaws.{fits_e, counts_below}
use Rattle.codec.specs.LittleLaws.{pow_256_pos}
use Rattle.call_move.specs.Move.{counts_from, too_large}
use Rattle.call_move.specs.MoveCode.{any_too_large}

-- ---- One count

pub two_hold : (w c : ℕ) → w ≡ 2 → ltb 65535 c ≡ too_large w c
unfolding too_large
two_hold w c e = rw e

pub four_hold : (w c : ℕ) → w ≡ 4 → c < 4294967296 → eqb w 2 ≡ too_large w c
unfolding too_large
four_hold w c e l = rw e (sym (lt-leb 4294967296 c l))

-- ---- Looked at

pub looked_none : (v w : ℕ) (s : List ℕ) → false ≡ any_too_large v w 0 s
unfolding any_too_large
looked_none v w s = sym (any_none _)

-- A test of the first m numbers and of the n behind them.
any-add : (m n : ℕ) (t : ℕ → Bool) → any_below (m + n) t ≡ (any_below n (λ j. t (m + j)) || any_below m t)
unfolding any_below
any-add m zero t = rw add-zero
any-add m (suc n) t = rw (add-suc, any-add m n t, or_assoc)

any_same : (n : ℕ) (t u : ℕ → Bool) → ((i : ℕ) → i < n → t i ≡ u i) → any_below n t ≡ any_below n u
unfolding any_below
any_same zero t u h = refl
any_same (suc n) t u h = rw (h n (omega arith), any_same n t u (λ i l. h i (omega arith)))

-- A count of the eight behind 8 i others, by its place among all.
behind : (v i : ℕ) (s : List ℕ) (place j : ℕ)
    → number (drop (place + i * (8 * v)) s) (j * v) v ≡ number (drop place s) ((8 * i + j) * v) v
behind v i s place j =
    let here : place + i * (8 * v) + j * v ≡ place + (8 * i + j) * v =
    omega (arith, add-mul (8 * i) j v, mul_assoc 8 i v, mul_assoc i 8 v, mul_comm i 8) in
    number-drop s (place + i * (8 * v)) (j * v) v ∙ rw here (sym (number-drop s place ((8 * i + j) * v) v))

-- The eight counts from a place on, as they are read.
pub eight_read : (v : ℕ) (s : List ℕ) (place : ℕ)
    → list_of 8 (λ p. number s (place + p * v) v) ≡ counts_from v 8 (drop place s)
unfolding counts_from
eight_read v s place =
    list_of-same 8 (λ p. number s (place + p * v) v) (λ p. number (drop place s) (p * v) v)
    (λ p l. sym (number-drop s place (p * v) v))

-- Eight more are looked at.
looked_more : (v w i : ℕ) (s : List ℕ) (place : ℕ)
    → (any_below 8 (λ j. too_large w (at (list_of 8 (λ p. number s (place + i * (8 * v) + p * v) v)) j))
    || any_too_large v w (8 * i) (drop place s))
    ≡ any_too_large v w (8 * (i + 1)) (drop place s)
unfolding any_too_large
looked_more v w i s place =
    let all : ℕ → Bool = λ j. too_large w (number (drop place s) (j * v) v) in
    let far : 8 * (i + 1) ≡ 8 * i + 8 = omega arith in
    let eight : any_below 8 (λ j. too_large w (at (list_of 8 (λ p. number s (place + i * (8 * v) + p * v) v)) j))
    ≡ any_below 8 (λ j. all (8 * i + j)) =
    any_same 8 (λ j. too_large w (at (list_of 8 (λ p. number s (place + i * (8 * v) + p * v) v)) j))
    (λ j. all (8 * i + j))
    (λ j l. ap (too_large w) (at-list_of 8 (λ p. number s (place + i * (8 * v) + p * v) v) j l
    ∙ sym (number-drop s (place + i * (8 * v)) (j * v) v) ∙ behind v i s place j)) in
    ap (λ (b : Bool). b || any_below (8 * i) all) eight ∙ sym (any-add (8 * i) 8 all)
    ∙ ap (λ (n : ℕ). any_below n all) (sym far)

-- So in one turn: the counts were read at their place, and one of them is too large or not.
pub looked_turn : (v w i : ℕ) (s : List ℕ) (place next : ℕ) (read : List ℕ) (here some : Bool)
    → next ≡ place + i * (8 * v) → read ≡ list_of 8 (λ p. number s (next + p * v) v)
    → here ≡ any_below 8 (λ j. too_large w (at read j)) → some ≡ any_too_large v w (8 * i) (drop place s)
    → (some || here) ≡ any_too_large v w (8 * (i + 1)) (drop place s)
looked_turn v w i s place next read here some e f g h =
    or_comm some here
    ∙ ap₂ (λ (a b : Bool). a || b) g h
    ∙ ap (λ (l : List ℕ). any_below 8 (λ j. too_large w (at l j)) || any_too_large v w (8 * i) (drop place s))
    (f ∙ ap (λ (n : ℕ). list_of 8 (λ p. number s (n + p * v) v)) e)
    ∙ looked_more v w i s place

-- Where none of 8 n is too large, none of the eight behind 8 i is.
pub eight_fit : (v w n : ℕ) (s : List ℕ) (place : ℕ) → any_too_large v w (8 * n) (drop place s) ≡ false → (i : ℕ) → i < n
    → any_too_large v w 8 (drop (place + i * (8 * v)) s) ≡ false
unfolding any_too_large
eight_fit v w n s place none i l =
    any-false_i 8 (λ j. too_large w (number (drop (place + i * (8 * v)) s) (j * v) v))
    (λ j k.
    ap (too_large w) (behind v i s place j)
    ∙ any-false_e (8 * n) (λ m. too_large w (number (drop place s) (m * v) v)) none (8 * i + j) (omega arith))

-- Eight counts that fit, as they are read.
pub read_fit : (v w : ℕ) (s : List ℕ) (place : ℕ) → any_too_large v w 8 (drop place s) ≡ false → (p : ℕ)
    → at (list_of 8 (λ q. number s (place + q * v) v)) p < 256 ^ w
unfolding any_too_large
read_fit v w s place none p =
    rw (eight_read v s place)
    (counts_below v 8 (256 ^ w) (drop place s) (pow_256_pos w)
    (λ i l.
    fits_e w (number (drop place s) (i * v) v)
    (any-false_e 8 (λ m. too_large w (number (drop place s) (m * v) v)) none i l)) p)

-- ---- Written

pub written_none : (v w : ℕ) (s t : List ℕ) (to : ℕ) → t ≡ sets t to (count_bytes w (counts_from v (8 * 0) s))
unfolding counts_from count_bytes list_of
written_none v w s t to = refl

-- Some counts, and those behind them.
counts-first : (v n : ℕ) (s : List ℕ) → counts_from v (suc n) s ≡ number s 0 v ∷ counts_from v n (drop v s)
unfolding counts_from list_of
counts-first v n s =
    let next : list_of n (λ i. number s (suc i * v) v) ≡ list_of n (λ i. number (drop v s) (i * v) v) =
    list_of-same n (λ i. number s (suc i * v) v) (λ i. number (drop v s) (i * v) v)
    (λ i l. let far : suc i * v ≡ v + i * v = omega (arith, suc-mul i v) in rw far (sym (number-drop s v (i * v) v))) in
    rw (zero-mul, next)

counts-none : (v : ℕ) (s rest : List ℕ) → rest ≡ counts_from v 0 s ++ rest
unfolding counts_from list_of
counts-none v s rest = refl

counts-add : (v m n : ℕ) (s : List ℕ) → counts_from v (m + n) s ≡ counts_from v m s ++ counts_from v n (drop (m * v) s)
counts-add v zero n s = rw (zero-add, zero-mul) (counts-none v s (counts_from v n s))
counts-add v (suc m) n s =
    let far : suc m * v ≡ v + m * v = omega (arith, suc-mul m v) in
    rw (
      suc-add,
      counts-first v (m + n) s,
      counts-first v m s,
      counts-add v m n (drop v s),
      drop-drop (m * v) v s,
      far,
    )

-- Eight more are written.
pub written_more : (v w i : ℕ) (s : List ℕ) (place : ℕ) (t : List ℕ) (to : ℕ)
    → sets (sets t to (count_bytes w (counts_from v (8 * i) (drop place s)))) (to + i * (8 * w))
    (count_bytes w (counts_from v 8 (drop (place + i * (8 * v)) s)))
    ≡ sets t to (count_bytes w (counts_from v (8 * (i + 1)) (drop place s)))
written_more v w i s place t to =
    let d = drop place s in
    let front = count_bytes w (counts_from v (8 * i) d) in
    let next = count_bytes w (counts_from v 8 (drop (8 * i * v) d)) in
    let far : 8 * (i + 1) ≡ 8 * i + 8 = omega arith in
    let here : place + i * (8 * v) ≡ place + 8 * i * v =
    omega (arith, mul_assoc 8 i v, mul_assoc i 8 v, mul_comm i 8) in
    let there : to + i * (8 * w) ≡ to + 8 * i * w = omega (arith, mul_assoc 8 i w, mul_assoc i 8 w, mul_comm i 8) in
    let long : length front ≡ 8 * i * w =
    length-count_bytes w (counts_from v (8 * i) d) ∙ ap (λ (n : ℕ). n * w) (length-counts_from v (8 * i) d) in
    let seam : sets (sets t to front) (to + 8 * i * w) next ≡ sets t to (front ++ next) =
    rw long at (sets-append t to front next) in
    rw (
      here,
      there,
      ← drop-drop (8 * i * v) place s,
      far,
      counts-add v (8 * i) 8 d,
      count_bytes-append w (counts_from v (8 * i) d) (counts_from v 8 (drop (8 * i * v) d)),
    )
    seam
