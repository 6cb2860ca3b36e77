-- Laws of sums, of a pool whose kept number was brought up to date, of what is refused and what a watch may keep.
use Rattle.std.specs.Prelude.{ℕ, zero, suc, ◌+◌, ◌*◌, ◌≤◌, ◌<◌, ◌≡◌, refl, true, false, cond, List, ◌≢◌, eqb, length}
use Rattle.std.proofs.Math.Decide.{dec_lt, ℕ_discrete}
use Rattle.std.proofs.Common.{arith, add-one, eq-eqb, ne_eqb, eqb-true}
use Rattle.std.proofs.Math.ListN.{get_or}
use Rattle.std.proofs.lemmas.Bool.{eqb-false, not-true, not-false}
use Rattle.codec.specs.Little.{Bytes}
use Rattle.codec.specs.PutLaws.{length-put, Bytes-put, number_lt, number-put-same, number-put-before, number-put-after, get_d_put-before, get_d_put-after}
use Rattle.pool.specs.Pool.{pool_length, sum_below, share_at, kept_place, kept_at, brought_up, bad_pool_length, allowance}
use Rattle.numbers.specs.Limit.{most_members}

-- ---- Sums

-- The next value is added, as a loop does it.
pub sum_next : (f : ℕ → ℕ) (j sum value : ℕ) → sum ≡ sum_below j f → value ≡ f j → sum + value ≡ sum_below (j + 1) f
unfolding sum_below
sum_next f j sum value so_far next = rw (add-one j, so_far, next)

pub sum_same : (n : ℕ) (f g : ℕ → ℕ) → ((j : ℕ) → j < n → f j ≡ g j) → sum_below n f ≡ sum_below n g
unfolding sum_below
sum_same zero f g same = refl
sum_same (suc n) f g same = rw (sum_same n f g (λ j l. same j (omega arith)), same n (omega arith))

pub sum-le : (n : ℕ) (f g : ℕ → ℕ) → ((j : ℕ) → j < n → f j ≤ g j) → sum_below n f ≤ sum_below n g
unfolding sum_below
sum-le zero f g below = omega arith
sum-le (suc n) f g below = omega (arith, sum-le n f g (λ j l. below j (omega arith)), below n (omega arith))

pub sum_plus : (n : ℕ) (f g : ℕ → ℕ) → sum_below n (λ j. f j + g j) ≡ sum_below n f + sum_below n g
unfolding sum_below
sum_plus zero f g = omega arith
sum_plus (suc n) f g = omega (arith, sum_plus n f g)

-- Values of 0 past the first m.
pub sum_past : (n m : ℕ) (f : ℕ → ℕ) → m ≤ n → ((j : ℕ) → m ≤ j → f j ≡ 0) → sum_below n f ≡ sum_below m f
unfolding sum_below
sum_past zero m f l past = let z : m ≡ 0 = omega arith in rw z
sum_past (suc n) m f l past = go (ℕ_discrete m (suc n)) (λ fewer. sum_past n m f fewer past)
  where
    go : Dec (m ≡ suc n) → (m ≤ n → sum_below n f ≡ sum_below m f) → sum_below (suc n) f ≡ sum_below m f
    go (yes e) before = rw e
    go (no other) before =
        let fewer : m ≤ n = omega (arith, other) in
        omega (arith, before fewer, past n fewer)

-- A sum is that of the others, and one value.
pub sum_split : (n i : ℕ) (f : ℕ → ℕ) → i < n → sum_below n f ≡ sum_below n (λ j. cond (eqb j i) 0 (f j)) + f i
unfolding sum_below
sum_split zero i f l = absurd (omega arith)
sum_split (suc n) i f l = go (ℕ_discrete n i) (sum_split n i f)
  where
    others : ℕ → ℕ
    others j = cond (eqb j i) 0 (f j)

    apart : (j : ℕ) → j ≢ i → others j ≡ f j
    apart j other = rw (ne_eqb j i other)

    go : Dec (n ≡ i) → (i < n → sum_below n f ≡ sum_below n others + f i)
        → sum_below n f + f n ≡ (sum_below n others + others n) + f i
    go (yes e) before =
        let own : others n ≡ 0 = rw (eq-eqb n i e) in
        let same : sum_below n others ≡ sum_below n f = sum_same n others f (λ j m. apart j (omega arith)) in
        rw (own, same, e) (omega arith)
    go (no other) before = omega (arith, before (omega arith), apart n other)

-- ---- A kept number brought up to date

module _ (pool : List ℕ) (i kept : ℕ) where
  pub brought_length : length (brought_up pool i kept) ≡ length pool
  unfolding brought_up
  brought_length = length-put pool (kept_place i) 2 kept

  pub brought_bytes : Bytes pool → Bytes (brought_up pool i kept)
  unfolding brought_up
  brought_bytes bytes = Bytes-put pool (kept_place i) 2 kept bytes

  pub kept_own : length pool ≡ pool_length → i < most_members → kept < 65536 → kept_at (brought_up pool i kept) i ≡ kept
  unfolding brought_up kept_at
  kept_own size l few = number-put-same pool (kept_place i) 2 kept (omega arith) few

  pub kept_other : (j : ℕ) → j ≢ i → kept_at (brought_up pool i kept) j ≡ kept_at pool j
  unfolding brought_up kept_at
  kept_other j other = go (dec_lt j i)
    where
      go : Dec (j < i) → kept_at (brought_up pool i kept) j ≡ kept_at pool j
      go (yes l) = number-put-before pool (kept_place i) 2 kept (kept_place j) 2 (omega arith)
      go (no l) = number-put-after pool (kept_place i) 2 kept (kept_place j) 2 (omega arith)

  pub share-stays : (j : ℕ) → j < most_members → share_at (brought_up pool i kept) j ≡ share_at pool j
  unfolding brought_up share_at
  share-stays j l = number-put-before pool (kept_place i) 2 kept (2 * j) 2 (omega arith)

  -- Every byte but the number's two.
  pub other_bytes : (n : ℕ) → n ≢ kept_place i → n ≢ kept_place i + 1
      → get_or (brought_up pool i kept) n 0 ≡ get_or pool n 0
  unfolding brought_up
  other_bytes n low high = go (dec_lt n (kept_place i))
    where
      go : Dec (n < kept_place i) → get_or (brought_up pool i kept) n 0 ≡ get_or pool n 0
      go (yes l) = get_d_put-before pool (kept_place i) 2 kept n 0 l
      go (no l) = get_d_put-after pool (kept_place i) 2 kept n 0 (omega arith)

-- ---- What is refused, and what a watch may keep

pub length_right : (n : ℕ) → bad_pool_length n ≡ false → n ≡ pool_length
unfolding bad_pool_length
length_right n h = eqb-true n pool_length (not-false _ h)

pub length_wrong : (n : ℕ) → bad_pool_length n ≡ true → n ≢ pool_length
unfolding bad_pool_length
length_wrong n h = eqb-false n pool_length (not-true _ h)

pub right_length : (n : ℕ) → n ≡ pool_length → bad_pool_length n ≡ false
unfolding bad_pool_length
right_length n h = rw (eq-eqb n pool_length h)

pub wrong_length : (n : ℕ) → n ≢ pool_length → bad_pool_length n ≡ true
unfolding bad_pool_length
wrong_length n h = rw (ne_eqb n pool_length h)

pub share_allowed : (pool : List ℕ) (i : ℕ) → share_at pool i ≤ allowance pool i
unfolding allowance
share_allowed pool i = omega arith

-- ---- What two bytes hold

pub share_few : (pool : List ℕ) (i : ℕ) → Bytes pool → share_at pool i < 65536
unfolding share_at
share_few pool i bytes = number_lt pool (2 * i) 2 bytes

pub kept_few : (pool : List ℕ) (i : ℕ) → Bytes pool → kept_at pool i < 65536
unfolding kept_at
kept_few pool i bytes = number_lt pool (kept_place i) 2 bytes
