-- Words and places: the code's steps.
use Prim.Native.Nat.{ℕ, zero, suc, ◌+◌, ◌*◌, ◌%◌, ◌^◌, ◌≤◌, ◌<◌}
use native.Mathlib.Nat.{mod-lt, mul-suc, mul-le-mul_left, pow-zero, pow-succ', pow-le-pow_right}
use native.Mathlib.Omega.{arith}
use native.Mathlib.Numerals.{add-one}
use mathlib.Core.Path.{◌≡◌, refl, ◌∙◌}
use mathlib.Core.List.{List, [], ◌∷◌}
use Rattle.std.proofs.Common.{map, reverse, ◌++◌, Bor}
use Rattle.std.proofs.lemmas.List.{length-map, length-reverse, map-append, reverse-append}
use lib.ListN.{length, length-set, set}
use Rattle.lines.specs.Words.{packed_word, placed}

-- ---- Numbers in a word

-- A number more, below a word that is below a power of the base.
one_more : (base n w v : ℕ) → 0 < base → w < base ^ n → v % base + base * w < base ^ suc n
one_more base n w v h l =
    let m : base * suc w ≤ base * base ^ n = mul-le-mul_left base l in
    rw (pow-succ' base n) (omega (arith, mod-lt v h, m, mul-suc base w))

word_below : (base : ℕ) → 0 < base → (vs : List ℕ) → packed_word base vs < base ^ length vs
unfolding packed_word
word_below base h [] = rw (pow-zero base) (omega arith)
word_below base h (v ∷ vs) = one_more base (length vs) (packed_word base vs) v h (word_below base h vs)

-- There is room for one more, while not all of a list are taken from its end.
pub word_fits : (base v w : ℕ) (values : List ℕ) (taken : List (Bor ℕ)) → 0 < base
    → base ^ length values ≤ 18446744073709551616 → length taken < length (reverse values)
    → w ≡ packed_word base (reverse (map (λ x. x.now) taken))
    → (base * w < 18446744073709551616) × (v % base + base * w < 18446744073709551616)
word_fits base v w values taken h fits l e =
    let vs = reverse (map (λ x. x.now) taken) in
    let fewer : length vs < length values = simp (length-reverse, length-map) (simp length-reverse at l) in
    let room : base ^ suc (length vs) ≤ base ^ length values = pow-le-pow_right h (omega arith) in
    let more = one_more base (length vs) w v h (rw e (word_below base h vs)) in
    (omega (arith, more, room), omega (arith, more, room))

-- One number more, below the others, of a list that is read from its end.
pub word_next : (base v w : ℕ) (taken : List (Bor ℕ)) → w ≡ packed_word base (reverse (map (λ x. x.now) taken))
    → (x : Bor ℕ) → x.now ≡ v → v % base + base * w ≡ packed_word base (reverse (map (λ x. x.now) (taken ++ x ∷ [])))
unfolding packed_word
word_next base v w taken h x e = rw (map-append, reverse-append, e, h)

-- ---- Numbers at places

-- One value more at its place.
pub placed_next : (j : ℕ) (places values : ℕ → ℕ)
    → placed (j + 1) places values ≡ set (placed j places values) (places j) (values j)
unfolding placed
placed_next j places values = rw (add-one j)

pub length-placed : (n : ℕ) (places values : ℕ → ℕ) → length (placed n places values) ≡ 8
unfolding placed
length-placed zero places values = refl
length-placed (suc n) places values =
    length-set (placed n places values) (places n) (values n) ∙ length-placed n places values

-- What stands from n on decides nothing.
pub placed_same : (n : ℕ) (places places' values values' : ℕ → ℕ) → ((j : ℕ) → j < n → places j ≡ places' j)
    → ((j : ℕ) → j < n → values j ≡ values' j) → placed n places values ≡ placed n places' values'
unfolding placed
placed_same zero places places' values values' p q = refl
placed_same (suc n) places places' values values' p q =
    rw (
      placed_same n places places' values values' (λ j h. p j (omega arith)) (λ j h. q j (omega arith)),
      p n
          (omega arith),
      q n (omega arith),
    )
