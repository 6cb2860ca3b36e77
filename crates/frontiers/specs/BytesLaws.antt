-- Frontiers and their bytes go back and forth: laws of `frontier_bytes`, `frontier_from`, `frontiers`, `framed` and
-- `window_bytes`, over the width.
use Rattle.std.specs.Prelude.{ℕ, zero, suc, ◌+◌, ◌*◌, ◌^◌, ◌≤◌, ◌<◌, List, [], ◌∷◌, ◌++◌, ◌≡◌, refl, length, take, drop, replicate}
use Rattle.std.proofs.Common.{suc-mul, mul-le-mul_right, zero-mul, le_of_suc-le-suc, zero-add, add_assoc, add-zero, arith, append_assoc, append-nil, sym, ap, ◌∙◌, length-append, length-drop, take_at, drop_at, take-take, drop-drop, take-add, length-take-le}
use Rattle.std.proofs.Math.Decide.{dec_lt}
use Rattle.std.proofs.lemmas.List.{replicate-append-replicate}
use Rattle.std.proofs.Math.Seq.{drop-append_seam}
use Rattle.codec.specs.Little.{bytes_of, number, Bytes, value_of}
use Rattle.codec.specs.LittleLaws.{length-bytes_of, value_of-bytes_of, Bytes-drop, Bytes-take, pow_256_pos}
use Rattle.codec.specs.SetsLaws.{take-drop}
use Rattle.clocks.specs.Counts.{at, list_of}
use Rattle.codec.specs.PutLaws.{bytes_of-number, number-drop, number_lt}
use Rattle.clocks.specs.stored.CountsLaws.{list_of-same, length-list_of, at-list_of, at_beyond, filled}
use Rattle.frontiers.specs.Bytes.{count_bytes, frontier_length, frontier_bytes, frontier_from}
use Rattle.frontiers.specs.declared.Frontier.{Frontier}
use Rattle.frontiers.specs.Shaped.{Shaped}

-- ---- Parts of a list

-- A part of a part that was taken out is that part of the whole.
part-part : (s : List ℕ) (a k b n : ℕ) → b + n ≤ k → take n (drop b (take k (drop a s))) ≡ take n (drop (a + b) s)
part-part s a k b n h =
    rw (← drop-drop b a s, take-drop n b (take k (drop a s)), take-take (b + n) k (drop a s) h, take-drop n b (drop a s))

-- The count of process p ends within the counts.
pub count-within : (p n w : ℕ) → p < n → p * w + w ≤ n * w
count-within p n w l = omega (arith, mul-le-mul_right w l, suc-mul p w)

-- ---- Counts

pub length-count_bytes : (w : ℕ) (cs : List ℕ) → length (count_bytes w cs) ≡ length cs * w
unfolding count_bytes
length-count_bytes w [] = sym (zero-mul w)
length-count_bytes w (c ∷ cs) =
    rw (length-append, length-bytes_of w c, length-count_bytes w cs, suc-mul) (omega arith)

pub count_bytes-append : (w : ℕ) (cs ds : List ℕ) → count_bytes w (cs ++ ds) ≡ count_bytes w cs ++ count_bytes w ds
unfolding count_bytes
count_bytes-append w [] ds = refl
count_bytes-append w (c ∷ cs) ds = rw (count_bytes-append w cs ds, append_assoc)

pub count_bytes-one : (w c : ℕ) → count_bytes w (c ∷ []) ≡ bytes_of w c
unfolding count_bytes
count_bytes-one w c = append-nil (bytes_of w c)

-- The bytes of zeros are zeros.
pub bytes_of_zero : (w : ℕ) → bytes_of w 0 ≡ replicate w 0
unfolding bytes_of
bytes_of_zero zero = refl
bytes_of_zero (suc w) = ap (λ (l : List ℕ). 0 ∷ l) (bytes_of_zero w)

pub count_bytes-zeros : (w n : ℕ) → count_bytes w (list_of n (λ p. 0)) ≡ replicate (n * w) 0
unfolding count_bytes list_of
count_bytes-zeros w zero = rw zero-mul
count_bytes-zeros w (suc n) =
    let far : suc n * w ≡ w + n * w = omega (arith, suc-mul n w) in
    rw (far, bytes_of_zero w, count_bytes-zeros w n) (replicate-append-replicate w (n * w) 0)

-- A count is read from its place among the bytes of counts.
pub number-count_bytes : (w : ℕ) (cs rest : List ℕ) → ((p : ℕ) → at cs p < 256 ^ w) → (p : ℕ) → p < length cs
    → number (count_bytes w cs ++ rest) (p * w) w ≡ at cs p
unfolding count_bytes number
number-count_bytes w [] rest h p l = absurd (omega arith)
number-count_bytes w (c ∷ cs) rest h zero l =
    rw (zero-mul, append_assoc, take_at (bytes_of w c) (count_bytes w cs ++ rest) w (length-bytes_of w c)) (value_of-bytes_of w c (h 0))
number-count_bytes w (c ∷ cs) rest h (suc p) l =
    let far : suc p * w ≡ w + p * w = omega (arith, suc-mul p w) in
    let tail : drop w (bytes_of w c ++ (count_bytes w cs ++ rest)) ≡ count_bytes w cs ++ rest = drop_at (bytes_of w c) _ w (length-bytes_of w c) in
    rw (far, append_assoc, ← number-drop (bytes_of w c ++ (count_bytes w cs ++ rest)) w (p * w) w, tail)
    (number-count_bytes w cs rest (λ q. h (suc q)) p (le_of_suc-le-suc l))

-- The bytes of the counts that are read are those that are there.
pub count_bytes_numbers : (w : ℕ) (s : List ℕ) → Bytes s → (n a : ℕ) → a + n * w ≤ length s
    → count_bytes w (list_of n (λ p. number s (a + p * w) w)) ≡ take (n * w) (drop a s)
unfolding count_bytes list_of
count_bytes_numbers w s b zero a h = rw zero-mul
count_bytes_numbers w s b (suc n) a h =
    let far : suc n * w ≡ w + n * w = omega (arith, suc-mul n w) in
    let first : a + 0 * w ≡ a = omega (arith, zero-mul w) in
    let next : list_of n (λ p. number s (a + suc p * w) w) ≡ list_of n (λ p. number s (a + w + p * w) w) =
    list_of-same n _ _ (λ p l. ap (λ (x : ℕ). number s x w) (omega (arith, suc-mul p w))) in
    rw (first, far, take-add w (n * w) (drop a s), drop-drop w a s, next, count_bytes_numbers w s b n (a + w) (omega arith), bytes_of-number s a w b (omega arith))

-- ---- One frontier

-- The length of a frontier's bytes, from the lengths of its parts.
pub length_eights : (w : ℕ) (f : Frontier) → length f.counts ≡ 8 → length f.labels ≡ 8 → length f.masks ≡ 8
    → length (frontier_bytes w f) ≡ frontier_length w
unfolding frontier_bytes frontier_length
length_eights w f c l m = simp (length-append, length-count_bytes, length-bytes_of, c, l, m) (omega arith)

pub length-frontier_bytes : (w : ℕ) (f : Frontier) → Shaped w f → length (frontier_bytes w f) ≡ frontier_length w
length-frontier_bytes w f h = length_eights w f h.eight_counts h.eight_labels h.eight_masks

-- Frontiers with the same parts are the same.
frontier_same : (f g : Frontier) → f.counts ≡ g.counts → f.labels ≡ g.labels → f.masks ≡ g.masks → f.values ≡ g.values → f ≡ g
frontier_same f g c l m v =
    let whole : (k : Frontier) → k ≡ record { counts = k.counts; labels = k.labels; masks = k.masks; values = k.values } = λ k. refl in
    whole f ∙ rw (c, l, m, v) (sym (whole g))

-- Where the bytes are the same, so is the frontier.
pub frontier_from-alike : (w : ℕ) (s : List ℕ) (a : ℕ) (t : List ℕ) (b : ℕ)
    → ((o n : ℕ) → o + n ≤ frontier_length w → take n (drop (a + o) s) ≡ take n (drop (b + o) t)) → frontier_from w s a ≡ frontier_from w t b
unfolding frontier_from frontier_length number
frontier_from-alike w s a t b h =
    frontier_same (frontier_from w s a) (frontier_from w t b)
    (list_of-same 8 (λ p. number s (a + p * w) w) (λ p. number t (b + p * w) w) (λ p l. ap value_of (h (p * w) w (omega (arith, count-within p 8 w l)))))
    (h (8 * w) 8 (omega arith))
    (rw (add_assoc a (8 * w) 8, add_assoc b (8 * w) 8) (h (8 * w + 8) 8 (omega arith)))
    (rw (add_assoc a (8 * w) 16, add_assoc b (8 * w) 16) (ap value_of (h (8 * w + 16) 8 (omega arith))))

-- A frontier read in the tail of a list is the one at that place of the whole;
pub frontier_from-drop : (w : ℕ) (s : List ℕ) (a b : ℕ) → frontier_from w (drop a s) b ≡ frontier_from w s (a + b)
frontier_from-drop w s a b = frontier_from-alike w (drop a s) b s (a + b) (λ o n l. rw (drop-drop (b + o) a s, add_assoc a b o))

-- it is read from its own bytes only.
pub frontier_from-part : (w : ℕ) (s : List ℕ) (a : ℕ) → frontier_from w (take (frontier_length w) (drop a s)) 0 ≡ frontier_from w s a
frontier_from-part w s a =
    frontier_from-alike w (take (frontier_length w) (drop a s)) 0 s a
    (λ o n l. rw zero-add (part-part s a (frontier_length w) o n l))

-- A frontier comes back from its bytes, whatever stands behind them;
frontier_from_front : (w : ℕ) (f : Frontier) → Shaped w f → (rest : List ℕ) → frontier_from w (frontier_bytes w f ++ rest) 0 ≡ f
unfolding frontier_from frontier_bytes number
frontier_from_front w f h rest =
    rw whole
    (frontier_same (frontier_from w s 0) f
    (sym (filled 8 (λ p. number s (0 + p * w) w) 0 f.counts h.eight_counts
    (λ p l. rw zero-add (sym (number-count_bytes w f.counts behind h.counts_fit p (rw h.eight_counts l))))))
    (rw (zero-add, after-counts) (take_at f.labels _ 8 h.eight_labels))
    (rw (zero-add, ← drop-drop 8 (8 * w) s, after-counts, after_labels) (take_at f.masks _ 8 h.eight_masks))
    (rw (zero-add, sixteen, ← drop-drop 8 (8 * w + 8) s, ← drop-drop 8 (8 * w) s, after-counts, after_labels, after_masks, take_at (bytes_of 8 f.values) rest 8 (length-bytes_of 8 f.values))
    (value_of-bytes_of 8 f.values h.values_fit)))
  where
    behind : List ℕ
    behind = f.labels ++ (f.masks ++ (bytes_of 8 f.values ++ rest))

    s : List ℕ
    s = count_bytes w f.counts ++ behind

    whole : frontier_bytes w f ++ rest ≡ s
    whole = simp append_assoc

    sixteen : 8 * w + 16 ≡ 8 * w + 8 + 8
    sixteen = omega arith

    after-counts : drop (8 * w) s ≡ behind
    after-counts = drop_at (count_bytes w f.counts) behind (8 * w) (length-count_bytes w f.counts ∙ ap (λ (n : ℕ). n * w) h.eight_counts)

    after_labels : drop 8 behind ≡ f.masks ++ (bytes_of 8 f.values ++ rest)
    after_labels = drop_at f.labels _ 8 h.eight_labels

    after_masks : drop 8 (f.masks ++ (bytes_of 8 f.values ++ rest)) ≡ bytes_of 8 f.values ++ rest
    after_masks = drop_at f.masks _ 8 h.eight_masks

-- and wherever they stand.
pub frontier_from_bytes : (w : ℕ) (f : Frontier) → Shaped w f → (before after : List ℕ)
    → frontier_from w (before ++ (frontier_bytes w f ++ after)) (length before) ≡ f
frontier_from_bytes w f h before after =
    rw (← add-zero (length before), ← frontier_from-drop w (before ++ (frontier_bytes w f ++ after)) (length before) 0, drop-append_seam before (frontier_bytes w f ++ after))
    (frontier_from_front w f h after)

-- Bytes come back from the frontier that they are,
pub frontier_bytes_from : (w : ℕ) (s : List ℕ) (a : ℕ) → Bytes s → a + frontier_length w ≤ length s
    → frontier_bytes w (frontier_from w s a) ≡ take (frontier_length w) (drop a s)
unfolding frontier_from frontier_bytes frontier_length
frontier_bytes_from w s a b h =
    rw (count_bytes_numbers w s b 8 a (omega arith), bytes_of-number s (a + 8 * w + 16) 8 b (omega arith))
    (sym (join_four s a (8 * w)))
  where
    join_four : (s : List ℕ) (a n : ℕ) → take (n + 24) (drop a s) ≡ take n (drop a s) ++ take 8 (drop (a + n) s) ++ take 8 (drop (a + n + 8) s) ++ take 8 (drop (a + n + 16) s)
    join_four s a n =
        rw (take-add n 24 (drop a s), take-add 16 8 (drop n (drop a s)), take-add 8 8 (drop n (drop a s)), drop-drop n a s, drop-drop 8 (a + n) s, drop-drop 16 (a + n) s)
        (simp append_assoc)

-- and it is of proper shape.
pub shaped_from : (w : ℕ) (s : List ℕ) (a : ℕ) → Bytes s → a + frontier_length w ≤ length s → Shaped w (frontier_from w s a)
unfolding frontier_from frontier_length
shaped_from w s a b h = record {
  eight_counts = length-list_of 8 (λ p. number s (a + p * w) w);
  counts_fit = λ p. fit p (dec_lt p 8);
  eight_labels = length-take-le 8 (drop (a + 8 * w) s) (simp length-drop (omega arith));
  labels_fit = Bytes-take 8 (drop (a + 8 * w) s) (Bytes-drop (a + 8 * w) s b);
  eight_masks = length-take-le 8 (drop (a + 8 * w + 8) s) (simp length-drop (omega arith));
  masks_fit = Bytes-take 8 (drop (a + 8 * w + 8) s) (Bytes-drop (a + 8 * w + 8) s b);
  values_fit = number_lt s (a + 8 * w + 16) 8 b;
}
  where
    counts : List ℕ
    counts = list_of 8 (λ p. number s (a + p * w) w)

    fit : (p : ℕ) → Dec (p < 8) → at counts p < 256 ^ w
    fit p (yes l) = rw (at-list_of 8 (λ p. number s (a + p * w) w) p l) (number_lt s (a + p * w) w b)
    fit p (no l) = rw (at_beyond counts p (rw (length-list_of 8 (λ p. number s (a + p * w) w)) (omega arith))) (pow_256_pos w)
