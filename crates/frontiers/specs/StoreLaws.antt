-- What one turn of a loop adds that reads or stores counts or bytes one by one.
use Rattle.std.specs.Prelude.{ℕ, ◌+◌, ◌*◌, ◌≤◌, ◌<◌, ◌-◌, ◌≡◌, List, [], ◌∷◌, ◌++◌, length, get_or, take, drop, set}
use Rattle.std.proofs.Common.{arith, add-one, zero-add, suc-mul, add-zero, sym, ap, ◌∙◌, append-nil, length-drop, length-append, drop_of_length-le, ext_get_or, length-take-le, take-suc, get_or-take, get_or-drop, take_all}
use Rattle.std.proofs.lemmas.List.Edits.{sets, sets-eq}
use Rattle.codec.specs.Little.{bytes_of, put}
use Rattle.codec.specs.SetsLaws.{sets-append, sets-tail}
use Rattle.frontiers.specs.BytesLaws.{length-count_bytes, count_bytes-append, count_bytes-one}
use Rattle.frontiers.specs.Bytes.{count_bytes, frontier_bytes}
use Rattle.frontiers.specs.declared.Frontier.{Frontier}
use lib.Seq.{paste}

-- ---- Places of counts

pub count_next : (p w : ℕ) → (p + 1) * w ≡ p * w + w
count_next p w = rw add-one (suc-mul p w)

-- ---- Runs of stores

-- A copy of n elements over what stands from a on.
pub pasted : (s : List ℕ) (a n : ℕ) (t : List ℕ) → n ≤ length t → a + n ≤ length s → paste s a t n ≡ sets s a (take n t)
pasted s a n t h k =
    let long : length (take n t) ≡ n = length-take-le n t h in
    sym (rw long at (sets-eq (take n t) s a (rw long k)))

-- The next element, stored behind the first p.
pub sets_more : (s : List ℕ) (a : ℕ) (bs : List ℕ) (p : ℕ) → p < length bs
    → set (sets s a (take p bs)) (a + p) (get_or bs p 0) ≡ sets s a (take (p + 1) bs)
sets_more s a bs p l =
    let long : length (take p bs) ≡ p = length-take-le p bs (omega arith) in
    let seam : sets (sets s a (take p bs)) (a + p) (get_or bs p 0 ∷ []) ≡ sets s a (take p bs ++ (get_or bs p 0 ∷ [])) =
    rw long at (sets-append s a (take p bs) (get_or bs p 0 ∷ [])) in
    rw (add-one, take-suc bs p 0 l) seam

-- The next count, stored behind the first p.
pub counts_more : (w : ℕ) (s cs : List ℕ) (p : ℕ) → p < length cs
    → put (sets s 0 (count_bytes w (take p cs))) (p * w) w (get_or cs p 0) ≡ sets s 0 (count_bytes w (take (p + 1) cs))
unfolding put
counts_more w s cs p l =
    let front : List ℕ = count_bytes w (take p cs) in
    let long : 0 + length front ≡ p * w =
    zero-add (length front) ∙ length-count_bytes w (take p cs) ∙ ap (λ (n : ℕ). n * w) (length-take-le p cs (omega arith)) in
    let seam : sets (sets s 0 front) (p * w) (bytes_of w (get_or cs p 0)) ≡ sets s 0 (front ++ bytes_of w (get_or cs p 0)) =
    rw long at (sets-append s 0 front (bytes_of w (get_or cs p 0))) in
    rw (add-one, take-suc cs p 0 l, count_bytes-append w (take p cs) (get_or cs p 0 ∷ []), count_bytes-one w (get_or cs p 0)) seam

-- The four parts of a frontier, stored one behind the other.
pub stored_four : (w : ℕ) (s : List ℕ) (f : Frontier) → length f.counts ≡ 8 → length f.labels ≡ 8 → length f.masks ≡ 8
    → put (sets (sets (sets s 0 (count_bytes w f.counts)) (8 * w) f.labels) (8 * w + 8) f.masks) (8 * w + 16) 8 f.values ≡ sets s 0 (frontier_bytes w f)
unfolding put frontier_bytes
stored_four w s f c l m =
    rw (behind (count_bytes w f.counts) f.labels (8 * w) counts_end, behind (count_bytes w f.counts ++ f.labels) f.masks (8 * w + 8) labels_end, behind (count_bytes w f.counts ++ f.labels ++ f.masks) (bytes_of 8 f.values) (8 * w + 16) masks_end)
  where
    behind : (front back : List ℕ) (n : ℕ) → length front ≡ n → sets (sets s 0 front) n back ≡ sets s 0 (front ++ back)
    behind front back n e = rw (zero-add (length front) ∙ e) at (sets-append s 0 front back)

    counts_end : length (count_bytes w f.counts) ≡ 8 * w
    counts_end = length-count_bytes w f.counts ∙ ap (λ (n : ℕ). n * w) c

    labels_end : length (count_bytes w f.counts ++ f.labels) ≡ 8 * w + 8
    labels_end = rw (length-append, counts_end, l)

    masks_end : length (count_bytes w f.counts ++ f.labels ++ f.masks) ≡ 8 * w + 16
    masks_end = rw (length-append, labels_end, m) (omega arith)

-- What is stored at the start of a tail that was lent is stored at the tail's place.
pub lent_tail : (s : List ℕ) (a : ℕ) (bs : List ℕ)
    → take a s ++ (sets (take (length s - a) (drop a s)) 0 bs ++ drop (length s - a) (drop a s)) ≡ sets s a bs
lent_tail s a bs =
    let long : length (drop a s) ≤ length s - a = simp length-drop (omega arith) in
    rw (take_all (length s - a) (drop a s) long, drop_of_length-le (drop a s) long, append-nil, sets-tail s a 0 bs, add-zero)

-- ---- Parts that are read

-- A list with the elements of a part is that part.
pub part_filled : (s : List ℕ) (a n : ℕ) (l : List ℕ) → a + n ≤ length s → length l ≡ n
    → ((q : ℕ) → q < n → get_or l q 0 ≡ get_or s (a + q) 0) → l ≡ take n (drop a s)
part_filled s a n l h e f =
    let long : length (take n (drop a s)) ≡ n = length-take-le n (drop a s) (simp length-drop (omega arith)) in
    ext_get_or 0 l (take n (drop a s)) (e ∙ sym long)
    (λ q m. let m' : q < n = omega arith in f q m' ∙ sym (get_or-take n (drop a s) q 0 m' ∙ get_or-drop a s q 0))
