-- Counts that fit, read with one width and written with another.
use Rattle.std.specs.Prelude.{ℕ, ◌+◌, ◌*◌, ◌^◌, ◌≤◌, ◌<◌, ◌≡◌, refl, false, List, [], ◌∷◌, ◌++◌, length, take, drop}
use Rattle.std.proofs.Common.{arith, zero-add, lt_of_lt_of_le, sym, ap, ◌∙◌, lit<, leb-false}
use Rattle.std.proofs.Math.Decide.{dec_lt}
use Rattle.std.proofs.Math.Nat.{pow-le-pow_right}
use Rattle.std.proofs.lemmas.Bool.{lt-leb}
use Rattle.codec.specs.Little.{number, Bytes}
use Rattle.codec.specs.LittleLaws.{Bytes-drop}
use Rattle.codec.specs.PutLaws.{number_lt}
use Rattle.clocks.specs.Counts.{at}
use Rattle.clocks.specs.stored.CountsLaws.{filled, at-list_of, at_beyond, list_of-same}
use Rattle.clocks.specs.stored.BoundedTurns.{any-false_i, any-false_e}
use Rattle.clocks.specs.stored.BoundedLaws.{or-false_e}
use Rattle.frontiers.specs.Bytes.{count_bytes}
use Rattle.frontiers.specs.BytesLaws.{number-count_bytes, count_bytes_numbers}
use Rattle.call_move.specs.Parts.{Part, plain, counts}
use Rattle.call_move.specs.PartLaws.{length-counts_from}
use Rattle.call_move.specs.Move.{counts_from, too_large, some_too_large}

-- ---- Too large

pub fits_e : (w c : ℕ) → too_large w c ≡ false → c < 256 ^ w
unfolding too_large
fits_e w c h = leb-false (256 ^ w) c h

pub fits_i : (w c : ℕ) → c < 256 ^ w → too_large w c ≡ false
unfolding too_large
fits_i w c h = lt-leb (256 ^ w) c h

-- The first n counts of v bytes fit w bytes.
abbrev pub Fit : ℕ → ℕ → ℕ → List ℕ → Type 0
Fit v w n s = (i : ℕ) → i < n → number s (i * v) v < 256 ^ w

-- What is known where no count of the parts is too large: of the first part, and of the others.
pub counts_fit : (v w n : ℕ) (ps : List Part) (s : List ℕ) → some_too_large v w (counts n ∷ ps) s ≡ false
    → Fit v w n s × (some_too_large v w ps (drop (n * v) s) ≡ false)
unfolding some_too_large
counts_fit v w n ps s h =
    let both = or-false_e _ _ h in
    let each = any-false_e n (λ j. too_large w (number s (j * v) v)) both.0 in
    ((λ i l. fits_e w (number s (i * v) v) (each i l)), both.1)

pub fit_counts : (v w n : ℕ) (ps : List Part) (s : List ℕ) → Fit v w n s → some_too_large v w ps (drop (n * v) s) ≡ false
    → some_too_large v w (counts n ∷ ps) s ≡ false
unfolding some_too_large
fit_counts v w n ps s f h =
    rw (any-false_i n (λ j. too_large w (number s (j * v) v)) (λ i l. fits_i w (number s (i * v) v) (f i l)), h)

-- Counts of v bytes fit where there are as many bytes or more.
pub none_too_large : (v w : ℕ) → v ≤ w → (ps : List Part) (s : List ℕ) → Bytes s → some_too_large v w ps s ≡ false
unfolding some_too_large
none_too_large v w l [] s b = refl
none_too_large v w l (plain n ∷ ps) s b = none_too_large v w l ps (drop n s) (Bytes-drop n s b)
none_too_large v w l (counts n ∷ ps) s b =
    fit_counts v w n ps s (λ i k. lt_of_lt_of_le (number_lt s (i * v) v b) (pow-le-pow_right (lit< tt) l))
    (none_too_large v w l ps (drop (n * v) s) (Bytes-drop (n * v) s b))

-- ---- Read and written

-- Counts that fit are read back from their bytes, whatever stands behind,
pub counts_read : (w n : ℕ) (cs rest : List ℕ) → length cs ≡ n → ((p : ℕ) → at cs p < 256 ^ w)
    → counts_from w n (count_bytes w cs ++ rest) ≡ cs
unfolding counts_from
counts_read w n cs rest long fit =
    sym (filled n (λ i. number (count_bytes w cs ++ rest) (i * w) w) 0 cs long
    (λ i l. sym (number-count_bytes w cs rest fit i (rw long l))))

-- and bytes from the counts that are read there.
pub counts-written : (v n : ℕ) (s : List ℕ) → Bytes s → n * v ≤ length s
    → count_bytes v (counts_from v n s) ≡ take (n * v) s
unfolding counts_from
counts-written v n s b h =
    ap (count_bytes v)
    (list_of-same n (λ i. number s (i * v) v) (λ i. number s (0 + i * v) v) (λ i l. rw zero-add))
    ∙ count_bytes_numbers v s b n 0 (rw zero-add h)

pub at-counts_from : (v n : ℕ) (s : List ℕ) (i : ℕ) → i < n → at (counts_from v n s) i ≡ number s (i * v) v
unfolding counts_from
at-counts_from v n s i l = at-list_of n (λ j. number s (j * v) v) i l

pub counts_below : (v n m : ℕ) (s : List ℕ) → 0 < m → ((i : ℕ) → i < n → number s (i * v) v < m)
    → (p : ℕ) → at (counts_from v n s) p < m
counts_below v n m s pos h p = go (dec_lt p n)
  where
    go : Dec (p < n) → at (counts_from v n s) p < m
    go (yes l) = rw (at-counts_from v n s p l) (h p l)
    go (no l) = rw (at_beyond (counts_from v n s) p (rw (length-counts_from v n s) (omega arith))) pos
