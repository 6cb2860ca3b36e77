-- Lists side by side: what stands behind a list of known length is read and stored there alone.
use Rattle.std.specs.Prelude.{ℕ, zero, suc, ◌+◌, ◌*◌, ◌^◌, ◌≤◌, ◌<◌, ◌≡◌, refl, List, [], ◌∷◌, ◌++◌, length, get_or, drop, replicate}
use Rattle.std.proofs.Common.{arith, sym, ap, ◌∙◌, append_assoc, lit<, length-append, take_at, drop_at, get_or-append-add}
use Rattle.std.proofs.lemmas.List.{length-replicate, replicate-append-replicate}
use Rattle.std.proofs.lemmas.List.Edits.{sets, sets-eq}
use Rattle.std.proofs.Math.Seq.{drop-append-add}
use Rattle.codec.specs.Little.{bytes_of, number, Bytes}
use Rattle.codec.specs.LittleLaws.{Bytes-bytes_of}
use Rattle.codec.specs.SetsLaws.{sets-tail, sets_front}
use Rattle.frontiers.specs.BytesLaws.{number-count_bytes}
use Rattle.frontiers.specs.Bytes.{count_bytes}
use Rattle.clocks.specs.Counts.{at, list_of}
use Rattle.clocks.specs.stored.CountsLaws.{filled}

module _ {A : Type 0} (a b : List A) (n : ℕ) (long : length a ≡ n) where
  pub get_d_behind : (i : ℕ) (d : A) → get_or (a ++ b) (n + i) d ≡ get_or b i d
  get_d_behind i d = rw (← long) (get_or-append-add a b i d)

  pub drop_behind : (i : ℕ) → drop (n + i) (a ++ b) ≡ drop i b
  drop_behind i = rw (← long) (drop-append-add a b i)

  pub sets_behind : (i : ℕ) (xs : List A) → sets (a ++ b) (n + i) xs ≡ a ++ sets b i xs
  sets_behind i xs = sym (rw (take_at a b n long, drop_at a b n long) at (sets-tail (a ++ b) n i xs))

pub number_behind : (a b : List ℕ) (n : ℕ) → length a ≡ n → (i k : ℕ) → number (a ++ b) (n + i) k ≡ number b i k
unfolding number
number_behind a b n long i k = rw (drop_behind a b n long i)

module _ {A : Type 0} (a b c : List A) (n : ℕ) (long : length a ≡ n) where
  -- A whole list in the middle, stored anew.
  pub sets_over : (xs : List A) → length xs ≡ length b → sets (a ++ (b ++ c)) n xs ≡ a ++ (xs ++ c)
  sets_over xs e = rw (
    sets-eq xs (a ++ (b ++ c)) n fits,
    take_at a (b ++ c) n long,
    drop_behind a (b ++ c) n long (length xs),
    drop_at b c (length xs) (sym e),
    append_assoc,
  )
    where
      fits : n + length xs ≤ length (a ++ (b ++ c))
      fits = simp length-append (omega arith)

  -- A part of it, stored anew.
  pub sets_inside : (i : ℕ) (xs : List A) → i + length xs ≤ length b
      → sets (a ++ (b ++ c)) (n + i) xs ≡ a ++ (sets b i xs ++ c)
  sets_inside i xs h =
      rw (sets_behind a (b ++ c) n long i xs)
      (ap (λ (l : List A). a ++ l)
      (sym (rw (take_at b c (length b) refl, drop_at b c (length b) refl) at (sets_front (b ++ c) (length b) i xs h))))

-- Counts come back from their bytes, wherever they stand.
pub numbers_count_bytes : (w : ℕ) (cs a c : List ℕ) (n k : ℕ) → length a ≡ n → length cs ≡ k
    → ((p : ℕ) → at cs p < 256 ^ w)
    → list_of k (λ p. number (a ++ (count_bytes w cs ++ c)) (n + p * w) w) ≡ cs
numbers_count_bytes w cs a c n k long e fit =
    sym (filled k (λ p. number (a ++ (count_bytes w cs ++ c)) (n + p * w) w) 0 cs e
    (λ p l. sym (number_behind a (count_bytes w cs ++ c) n long (p * w) w ∙ number-count_bytes w cs c fit p (rw e l))))

-- So many zeros.
abbrev pub zeros : ℕ → List ℕ
zeros n = replicate n 0

-- ---- Bytes

pub Bytes-append : (xs ys : List ℕ) → Bytes xs → Bytes ys → Bytes (xs ++ ys)
Bytes-append [] ys g h i = h i
Bytes-append (x ∷ xs) ys g h zero = g 0
Bytes-append (x ∷ xs) ys g h (suc i) = Bytes-append xs ys (λ j. g (suc j)) h i

pub Bytes_cons : (x : ℕ) (xs : List ℕ) → x < 256 → Bytes xs → Bytes (x ∷ xs)
Bytes_cons x xs l h zero = l
Bytes_cons x xs l h (suc i) = h i

pub Bytes-zeros : (n : ℕ) → Bytes (zeros n)
Bytes-zeros zero i = lit< tt
Bytes-zeros (suc n) zero = lit< tt
Bytes-zeros (suc n) (suc i) = Bytes-zeros n i

pub Bytes-count_bytes : (w : ℕ) (cs : List ℕ) → Bytes (count_bytes w cs)
unfolding count_bytes
Bytes-count_bytes w [] i = lit< tt
Bytes-count_bytes w (c ∷ cs) i =
    Bytes-append (bytes_of w c) (count_bytes w cs) (Bytes-bytes_of w c) (Bytes-count_bytes w cs) i

-- ---- Zeros

pub zeros-add : (m n : ℕ) → zeros m ++ zeros n ≡ zeros (m + n)
zeros-add m n = replicate-append-replicate m n 0

pub drop-zeros : (m n : ℕ) → drop m (zeros (m + n)) ≡ zeros n
drop-zeros m n = rw (← zeros-add m n) (drop_at (zeros m) (zeros n) m (length-replicate m 0))
