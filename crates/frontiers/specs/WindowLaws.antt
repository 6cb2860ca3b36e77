-- Windows and their frontiers go back and forth: laws of `frontiers`, `framed` and `window_bytes`, over the width.
use Rattle.std.specs.Prelude.{ℕ, zero, suc, ◌+◌, ◌-◌, ◌*◌, ◌≤◌, ◌<◌, ◌≡◌, refl, List, [], ◌∷◌, ◌++◌, map, get_or, take, replicate, drop}
use Rattle.std.proofs.Common.{arith, add-one, zero-mul, suc-mul, mul_comm, le_of_suc-le-suc, le_refl, sym, ◌∙◌, ap, append_assoc, append-nil, length-append, drop_at, take-add}
use Rattle.std.proofs.Math.Nat.{mul-sub}
use mathlib.Core.List.Memᴰ
use Rattle.std.proofs.Math.ListN.{length, get_or-map}
use Rattle.std.proofs.lemmas.List.{length-replicate, replicate-append-replicate}
use Rattle.std.proofs.lemmas.List.Edits.{sets, sets-eq}
use Rattle.std.proofs.Math.Seq.{drop-append-add, length-take-le}
use Rattle.codec.specs.Little.{Bytes, number}
use Rattle.clocks.specs.Counts.{list_of}
use Rattle.codec.specs.SetsLaws.{take-sets, part-sets, sets-append}
use Rattle.clocks.specs.stored.CountsLaws.{length-list_of, get_d_list_of, filled, list_of-same}
use Rattle.frontiers.specs.declared.Frontier.{Frontier}
use Rattle.frontiers.specs.Shaped.{Shaped, AllShaped}
use Rattle.frontiers.specs.BytesLaws.{count-within, length-frontier_bytes, frontier_from-drop, frontier_from_bytes, frontier_from-alike, frontier_bytes_from, shaped_from}
use Rattle.frontiers.specs.Bytes.{frontier_length, frontier_bytes, frontier_at, frontiers, framed, window_bytes, replaced, frontier_from}
use Rattle.frontiers.specs.ListLaws.{member_place, list_of_more, part-alike}

-- ---- The bytes of frontiers one behind the other

pub length-framed : (w : ℕ) (fs : List Frontier) → AllShaped w fs → length (framed w fs) ≡ length fs * frontier_length w
unfolding framed
length-framed w [] h = sym (zero-mul (frontier_length w))
length-framed w (f ∷ fs) h =
    rw (length-append, length-frontier_bytes w f (h f (Memᴰ.head refl)), length-framed w fs (λ g m. h g (Memᴰ.tail m)), suc-mul)
    (omega arith)

pub framed-append : (w : ℕ) (fs gs : List Frontier) → framed w (fs ++ gs) ≡ framed w fs ++ framed w gs
unfolding framed
framed-append w [] gs = refl
framed-append w (f ∷ fs) gs = rw (framed-append w fs gs, append_assoc)

framed_more : (w : ℕ) (fs : List Frontier) (f : Frontier) → framed w (fs ++ (f ∷ [])) ≡ framed w fs ++ frontier_bytes w f
unfolding framed
framed_more w fs f = framed-append w fs (f ∷ []) ∙ ap (λ (l : List ℕ). framed w fs ++ l) (one w f)
  where
    one : (w : ℕ) (f : Frontier) → framed w (f ∷ []) ≡ frontier_bytes w f
    one w f = append-nil (frontier_bytes w f)

-- A frontier is read from its place among them, whatever stands behind.
pub frontier_at-framed : (w : ℕ) (fs : List Frontier) → AllShaped w fs → (rest : List ℕ) (i : ℕ) (d : Frontier) → i < length fs
    → frontier_at w (framed w fs ++ rest) i ≡ get_or fs i d
unfolding framed frontier_at
frontier_at-framed w [] h rest i d l = absurd (omega arith)
frontier_at-framed w (f ∷ fs) h rest zero d l =
    rw (zero-mul, append_assoc) (frontier_from_bytes w f (h f (Memᴰ.head refl)) [] (framed w fs ++ rest))
frontier_at-framed w (f ∷ fs) h rest (suc i) d l =
    let far : suc i * frontier_length w ≡ frontier_length w + i * frontier_length w = omega (arith, suc-mul i (frontier_length w)) in
    rw (far, append_assoc, ← frontier_from-drop w (frontier_bytes w f ++ (framed w fs ++ rest)) (frontier_length w) (i * frontier_length w), drop_at (frontier_bytes w f) (framed w fs ++ rest) (frontier_length w) (length-frontier_bytes w f (h f (Memᴰ.head refl))))
    (frontier_at-framed w fs (λ g m. h g (Memᴰ.tail m)) rest i d (le_of_suc-le-suc l))

pub frontiers-framed : (w : ℕ) (fs : List Frontier) → AllShaped w fs → (rest : List ℕ) → frontiers w (framed w fs ++ rest) (length fs) ≡ fs
unfolding frontiers
frontiers-framed w fs h rest =
    sym (filled (length fs) (frontier_at w (framed w fs ++ rest)) none fs refl (λ i l. sym (frontier_at-framed w fs h rest i none l)))
  where
    none : Frontier
    none = record { counts = []; labels = []; masks = []; values = 0 }

-- ---- Windows

module _ (w total : ℕ) (fs : List Frontier) (h : AllShaped w fs) where
  pub length-window_bytes : length fs * frontier_length w ≤ total → length (window_bytes w total fs) ≡ total
  unfolding window_bytes
  length-window_bytes l = rw (length-append, length-framed w fs h, length-replicate) (omega arith)

  pub frontier_at-window_bytes : (i : ℕ) (d : Frontier) → i < length fs → frontier_at w (window_bytes w total fs) i ≡ get_or fs i d
  unfolding window_bytes
  frontier_at-window_bytes i d l = frontier_at-framed w fs h _ i d l

  pub frontiers-window_bytes : frontiers w (window_bytes w total fs) (length fs) ≡ fs
  unfolding window_bytes
  frontiers-window_bytes = frontiers-framed w fs h _

-- ---- Bytes that are windows

-- Frontier i ends within the first n.
pub place-within : (i n w : ℕ) → i < n → i * frontier_length w + frontier_length w ≤ n * frontier_length w
place-within i n w l = count-within i n (frontier_length w) l

pub frontiers_more : (w : ℕ) (s : List ℕ) (n : ℕ) → frontiers w s (suc n) ≡ frontiers w s n ++ (frontier_at w s n ∷ [])
unfolding frontiers
frontiers_more w s n = list_of_more n (frontier_at w s)

pub length-frontiers : (w : ℕ) (s : List ℕ) (n : ℕ) → length (frontiers w s n) ≡ n
unfolding frontiers
length-frontiers w s n = length-list_of n (frontier_at w s)

pub get_d_frontiers : (w : ℕ) (s : List ℕ) (n i : ℕ) (d : Frontier) → i < n → get_or (frontiers w s n) i d ≡ frontier_at w s i
unfolding frontiers
get_d_frontiers w s n i d l = get_d_list_of n (frontier_at w s) i d l

-- The counts of a frontier in a window, by places.
pub length-counts-at : (w : ℕ) (s : List ℕ) (i : ℕ) → length (frontier_at w s i).counts ≡ 8
unfolding frontier_at frontier_from
length-counts-at w s i = length-list_of 8 (λ p. number s (i * frontier_length w + p * w) w)

pub count_at : (w : ℕ) (s : List ℕ) (i p : ℕ) → p < 8 → get_or (frontier_at w s i).counts p 0 ≡ number s (i * frontier_length w + p * w) w
unfolding frontier_at frontier_from
count_at w s i p l = get_d_list_of 8 (λ q. number s (i * frontier_length w + q * w) w) p 0 l

-- The frontiers of any bytes are of proper shape,
pub shaped_frontiers : (w : ℕ) (s : List ℕ) (n : ℕ) → Bytes s → n * frontier_length w ≤ length s → AllShaped w (frontiers w s n)
unfolding frontier_at
shaped_frontiers w s n b h f m =
    let r = member_place (frontiers w s n) f f m in
    let l : r.0 < n = rw (length-frontiers w s n) at r.1 in
    let e : frontier_at w s r.0 ≡ f = sym (get_d_frontiers w s n r.0 f l) ∙ r.2 in
    rw (← e) (shaped_from w s (r.0 * frontier_length w) b (omega (arith, place-within r.0 n w l)))

-- and have those bytes.
frontier_bytes-at : (w : ℕ) (s : List ℕ) (i : ℕ) → Bytes s → i * frontier_length w + frontier_length w ≤ length s
    → frontier_bytes w (frontier_at w s i) ≡ take (frontier_length w) (drop (i * frontier_length w) s)
unfolding frontier_at
frontier_bytes-at w s i b h = frontier_bytes_from w s (i * frontier_length w) b h

pub framed-frontiers : (w : ℕ) (s : List ℕ) (n : ℕ) → Bytes s → n * frontier_length w ≤ length s
    → framed w (frontiers w s n) ≡ take (n * frontier_length w) s
unfolding framed frontiers list_of
framed-frontiers w s zero b h = rw zero-mul
framed-frontiers w s (suc n) b h =
    let far : suc n * frontier_length w ≡ n * frontier_length w + frontier_length w = suc-mul n (frontier_length w) in
    let last : frontier_bytes w (frontier_at w s n) ≡ take (frontier_length w) (drop (n * frontier_length w) s) = frontier_bytes-at w s n b (omega arith) in
    let front : framed w (frontiers w s n) ≡ take (n * frontier_length w) s = framed-frontiers w s n b (omega arith) in
    let whole : take (suc n * frontier_length w) s ≡ take (n * frontier_length w) s ++ take (frontier_length w) (drop (n * frontier_length w) s) =
    rw far (take-add (n * frontier_length w) (frontier_length w) s) in
    ap (framed w) (frontiers_more w s n) ∙ framed_more w (frontiers w s n) (frontier_at w s n) ∙ rw (front, last) (sym whole)

-- The first n frontiers depend on their own bytes only.
pub frontiers-alike : (w : ℕ) (s t : List ℕ) (n : ℕ) → take (n * frontier_length w) s ≡ take (n * frontier_length w) t → frontiers w s n ≡ frontiers w t n
unfolding frontiers frontier_at
frontiers-alike w s t n e =
    list_of-same n (frontier_at w s) (frontier_at w t)
    (λ i l. frontier_from-alike w s (i * frontier_length w) t (i * frontier_length w)
    (λ o k m. part-alike s t (n * frontier_length w) (i * frontier_length w + o) k (omega (arith, place-within i n w l)) e))

-- ---- One more frontier, stored behind the first n

module _ (w : ℕ) (s : List ℕ) (n : ℕ) (f : Frontier) (h : Shaped w f) (room : n * frontier_length w + frontier_length w ≤ length s) where
  pub frontier_at_stored : frontier_at w (sets s (n * frontier_length w) (frontier_bytes w f)) n ≡ f
  unfolding frontier_at
  frontier_at_stored =
      let long : length (frontier_bytes w f) ≡ frontier_length w = length-frontier_bytes w f h in
      let start : length (take (n * frontier_length w) s) ≡ n * frontier_length w = length-take-le (n * frontier_length w) s (omega arith) in
      rw (sets-eq (frontier_bytes w f) s (n * frontier_length w) (omega arith), append_assoc)
      (rw start at (frontier_from_bytes w f h (take (n * frontier_length w) s) (drop (n * frontier_length w + length (frontier_bytes w f)) s)))

  pub frontiers_stored : frontiers w (sets s (n * frontier_length w) (frontier_bytes w f)) (n + 1) ≡ frontiers w s n ++ (f ∷ [])
  frontiers_stored =
      rw (add-one, frontiers_more w _ n, frontier_at_stored, frontiers-alike w (sets s (n * frontier_length w) (frontier_bytes w f)) s n (take-sets (n * frontier_length w) s (n * frontier_length w) (frontier_bytes w f) (le_refl _)))

-- ---- Frontiers replaced

-- What is left of n frontiers behind m others lies within the window.
pub left_within : (F m n total : ℕ) → m * F ≤ total → n * F ≤ total → m * F + (n - m) * F ≤ total
left_within F m n total h k = rw (mul_comm (n - m) F, mul-sub F n m, mul_comm F n, mul_comm F m) (omega arith)

-- The bytes of m frontiers copied, and what is left of the old ones cleared.
pub copied_replaced : (w : ℕ) (s bs : List ℕ) (n m far left : ℕ) → Bytes bs → m * frontier_length w ≤ length bs → far ≡ m * frontier_length w → left ≡ (n - m) * frontier_length w
    → sets (sets s 0 (take far bs)) far (replicate left 0) ≡ replaced w s n (frontiers w bs m)
unfolding replaced
copied_replaced w s bs n m far left b h e l = rw (framed-frontiers w bs m b h, length-frontiers w bs m, e, l)

-- They are read back.
pub read_back : (w : ℕ) (s bs : List ℕ) (n m : ℕ) → Bytes bs → m * frontier_length w ≤ length bs → m * frontier_length w ≤ length s
    → frontiers w (replaced w s n (frontiers w bs m)) m ≡ frontiers w bs m
unfolding replaced
read_back w s bs n m b h k =
    let far : ℕ = m * frontier_length w in
    let long : length (take far bs) ≡ far = length-take-le far bs h in
    let front : take far (sets s 0 (take far bs)) ≡ take far bs = rw long at (part-sets s 0 (take far bs) (omega arith)) in
    rw (framed-frontiers w bs m b h, length-frontiers w bs m)
    (frontiers-alike w (sets (sets s 0 (take far bs)) far (replicate ((n - m) * frontier_length w) 0)) bs m
    (take-sets far (sets s 0 (take far bs)) far (replicate ((n - m) * frontier_length w) 0) (le_refl far) ∙ front))

-- ---- A window's frontiers replaced

abbrev zeros : ℕ → List ℕ
zeros n = replicate n 0

-- Zeros less some are zeros.
drop-zeros : (d n : ℕ) → d ≤ n → drop d (zeros n) ≡ zeros (n - d)
drop-zeros d n l =
    let whole : n ≡ d + (n - d) = omega arith in
    ap (λ (m : ℕ). drop d (zeros m)) whole
    ∙ ap (drop d) (sym (replicate-append-replicate d (n - d) 0))
    ∙ drop_at (zeros d) (zeros (n - d)) d (length-replicate d 0)

-- Bytes stored over others and zeros, and zeros over what is left of those.
over_zeros : (olds news : List ℕ) (total : ℕ) → length olds ≤ total → length news ≤ total
    → sets (sets (olds ++ zeros (total - length olds)) 0 news) (length news) (zeros (length olds - length news)) ≡ news ++ zeros (total - length news)
over_zeros olds news total h k =
    let left : ℕ = length olds - length news in
    let more : ℕ = length news - length olds in
    let rest : List ℕ = zeros (total - length olds) in
    let stored : List ℕ = news ++ zeros left in
    let long : length stored ≡ length olds + more = rw (length-append, length-replicate) (omega arith) in
    let whole : length (olds ++ rest) ≡ total = rw (length-append, length-replicate) (omega arith) in
    let start : length news ≡ 0 + length news = omega arith in
    let once : sets (sets (olds ++ rest) 0 news) (length news) (zeros left) ≡ sets (olds ++ rest) 0 stored =
    ap (λ (n : ℕ). sets (sets (olds ++ rest) 0 news) n (zeros left)) start ∙ sets-append (olds ++ rest) 0 news (zeros left) in
    let far : 0 + length stored ≡ length olds + more = omega arith in
    let zeros_left : left + (total - length olds - more) ≡ total - length news = omega arith in
    let behind : drop (0 + length stored) (olds ++ rest) ≡ zeros (total - length olds - more) =
    ap (λ (n : ℕ). drop n (olds ++ rest)) far ∙ drop-append-add olds rest more ∙ drop-zeros more (total - length olds) (omega arith) in
    once
    ∙ sets-eq stored (olds ++ rest) 0 (omega arith)
    ∙ ap (λ (l : List ℕ). stored ++ l) behind
    ∙ append_assoc news (zeros left) (zeros (total - length olds - more))
    ∙ ap (λ (l : List ℕ). news ++ l) (replicate-append-replicate left (total - length olds - more) 0 ∙ ap zeros zeros_left)

-- Where the bytes behind the old frontiers are 0, those behind the new ones are.
pub replaced-window_bytes : (w total : ℕ) (fs gs : List Frontier) → AllShaped w fs → AllShaped w gs
    → length fs * frontier_length w ≤ total → length gs * frontier_length w ≤ total → replaced w (window_bytes w total fs) (length fs) gs ≡ window_bytes w total gs
unfolding replaced window_bytes
replaced-window_bytes w total fs gs f g h k =
    let F : ℕ = frontier_length w in
    let a : length (framed w fs) ≡ length fs * F = length-framed w fs f in
    let b : length (framed w gs) ≡ length gs * F = length-framed w gs g in
    let left : (length fs - length gs) * F ≡ length fs * F - length gs * F = rw (mul_comm (length fs - length gs) F, mul-sub F (length fs) (length gs), mul_comm F (length fs), mul_comm F (length gs)) in
    rw (left, ← a, ← b) (over_zeros (framed w fs) (framed w gs) total (omega arith) (omega arith))

-- ---- What is read of the first n, by places

pub counts_listed : (w : ℕ) (s : List ℕ) (n i : ℕ) → i < n
    → get_or (map (λ (f : Frontier). f.counts) (frontiers w s n)) i [] ≡ (frontier_at w s i).counts
counts_listed w s n i l =
    get_or-map (λ (f : Frontier). f.counts) (frontiers w s n) i none ∙ ap (λ (f : Frontier). f.counts) (get_d_frontiers w s n i none l)
  where
    none : Frontier
    none = record { counts = []; labels = []; masks = []; values = 0 }

pub values_listed : (w : ℕ) (s : List ℕ) (n i : ℕ) → i < n
    → get_or (map (λ (f : Frontier). f.values) (frontiers w s n)) i 0 ≡ (frontier_at w s i).values
values_listed w s n i l =
    get_or-map (λ (f : Frontier). f.values) (frontiers w s n) i none ∙ ap (λ (f : Frontier). f.values) (get_d_frontiers w s n i none l)
  where
    none : Frontier
    none = record { counts = []; labels = []; masks = []; values = 0 }
