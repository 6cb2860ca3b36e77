-- The join is the largest: at least each member's clock, and no more than any bound on them; it looks at the members'
-- clocks only.

use Rattle.std.specs.Prelude.{ℕ, zero, suc, ◌+◌, ◌≤◌, ◌<◌, ◌≡◌, refl, Bool, true, false, ◌⊎◌}
use Rattle.std.proofs.Common.{arith, sym, ap, ◌∙◌, true≢false, inl, inr}
use Rattle.std.proofs.Math.Decide.{dec_le, dec_lt}
use Rattle.clocks.specs.Event.{Cut}
use Rattle.clocks.specs.cuts.EventLaws.{either}
use Rattle.clocks.specs.Joined.{join_to}

pub join_least : (n : ℕ) (member : ℕ → Bool) (last : ℕ → Cut) (q b : ℕ) → ((p : ℕ) → p < n → member p ≡ true → last p q ≤ b) → join_to n member last q ≤ b
unfolding join_to
join_least zero member last q b h = omega arith
join_least (suc p) member last q b h = go (either (member p)) (join_least p member last q b (λ r l. h r (omega arith)))
  where
    go : (member p ≡ true) ⊎ (member p ≡ false) → join_to p member last q ≤ b → join_to (suc p) member last q ≤ b
    go (inl m) r = rw m (omega (arith, h p (omega arith) m))
    go (inr m) r = rw m r

pub join_above : (n : ℕ) (member : ℕ → Bool) (last : ℕ → Cut) (q p : ℕ) → p < n → member p ≡ true → last p q ≤ join_to n member last q
unfolding join_to
join_above zero member last q p l m = absurd (omega arith)
join_above (suc n) member last q p l m = go (either (member n)) (dec_lt p n) (λ j. join_above n member last q p j m)
  where
    go : (member n ≡ true) ⊎ (member n ≡ false) → Dec (p < n) → (p < n → last p q ≤ join_to n member last q) → last p q ≤ join_to (suc n) member last q
    go (inl k) (yes j) r = rw k (omega (arith, r j))
    go (inr k) (yes j) r = rw k (r j)
    go (inl k) (no j) r = let s : p ≡ n = omega arith in rw (k, s) (omega arith)
    go (inr k) (no j) r = let s : p ≡ n = omega arith in let z : true ≡ false = sym m ∙ ap member s ∙ k in absurd (true≢false z)

-- ... some member has it, unless it is 0
pub join_member : (n : ℕ) (member : ℕ → Bool) (last : ℕ → Cut) (q : ℕ) → (join_to n member last q ≡ 0) ⊎ ((p : ℕ) × (p < n) × (member p ≡ true) × (last p q ≡ join_to n member last q))
unfolding join_to
join_member zero member last q = inl refl
join_member (suc n) member last q = go (either (member n)) (join_member n member last q) (dec_le (join_to n member last q) (last n q))
  where
    go : (member n ≡ true) ⊎ (member n ≡ false) → (join_to n member last q ≡ 0) ⊎ ((p : ℕ) × (p < n) × (member p ≡ true) × (last p q ≡ join_to n member last q)) → Dec (join_to n member last q ≤ last n q)
        → (join_to (suc n) member last q ≡ 0) ⊎ ((p : ℕ) × (p < suc n) × (member p ≡ true) × (last p q ≡ join_to (suc n) member last q))
    go (inl k) r (yes l) = inr (n, omega arith, k, rw k (omega arith))
    go (inl k) (inl z) (no l) = inr (n, omega arith, k, rw k (omega arith))
    go (inl k) (inr r) (no l) = inr (r.0, omega (arith, r.1), r.2, rw k (omega (arith, r.3)))
    go (inr k) (inl z) d = inl (rw k z)
    go (inr k) (inr r) d = inr (r.0, omega (arith, r.1), r.2, rw k r.3)

pub join_same : (n : ℕ) (member : ℕ → Bool) (last last' : ℕ → Cut) (q : ℕ) → ((p : ℕ) → p < n → member p ≡ true → last p q ≡ last' p q) → join_to n member last q ≡ join_to n member last' q
unfolding join_to
join_same zero member last last' q h = refl
join_same (suc n) member last last' q h = go (either (member n)) (join_same n member last last' q (λ p l. h p (omega arith)))
  where
    go : (member n ≡ true) ⊎ (member n ≡ false) → join_to n member last q ≡ join_to n member last' q → join_to (suc n) member last q ≡ join_to (suc n) member last' q
    go (inl k) r = rw (k, h n (omega arith) k, r)
    go (inr k) r = rw (k, r)

-- where no member stands from k up, the first k decide
pub join_beyond : (k j : ℕ) (member : ℕ → Bool) (last : ℕ → Cut) (q : ℕ) → ((p : ℕ) → k ≤ p → member p ≡ false) → join_to (k + j) member last q ≡ join_to k member last q
unfolding join_to
join_beyond k zero member last q h = let z : k + 0 ≡ k = omega arith in rw z
join_beyond k (suc j) member last q h = let z : k + suc j ≡ suc (k + j) = omega arith in rw (z, join_to, h (k + j) (omega arith)) (join_beyond k j member last q h)
