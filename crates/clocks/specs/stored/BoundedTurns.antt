-- The bounded tests, turn by turn: what a loop knows that has looked at each number below i.
use Rattle.std.specs.Prelude.{ℕ, ◌+◌, ◌<◌, ◌≡◌, refl, Bool, true, false, ◌&&◌, ◌||◌}
use Rattle.std.proofs.Common.{add-one, sym, ◌∙◌, true≢false, ⊎_elim}
use Rattle.clocks.specs.Bounded.{all_below, any_below}
use Rattle.clocks.specs.stored.BoundedLaws.{all_e, any_i, any_e}
use Rattle.clocks.specs.cuts.EventLaws.{either, true-T, T_true}

-- ---- all
pub all_none : (t : ℕ → Bool) → all_below 0 t ≡ true
unfolding all_below
all_none t = refl

pub all_next : (i : ℕ) (t : ℕ → Bool) → all_below i t ≡ true → t i ≡ true → all_below (i + 1) t ≡ true
unfolding all_below
all_next i t h e = rw (add-one, e) h

-- ... for a loop that looks at every number
pub all_more : (i : ℕ) (t : ℕ → Bool) → (t i && all_below i t) ≡ all_below (i + 1) t
unfolding all_below
all_more i t = rw add-one

-- ... and one that stops at a number that fails knows the answer
pub all_stop : (n i : ℕ) (t : ℕ → Bool) → i < n → t i ≡ false → all_below n t ≡ false
all_stop n i t l e = ⊎_elim (λ a. absurd (true≢false (sym (T_true (t i) (all_e n t (true-T a) i l)) ∙ e))) (λ a. a) (either (all_below n t))

-- ---- any
pub any_none : (t : ℕ → Bool) → any_below 0 t ≡ false
unfolding any_below
any_none t = refl

pub any_next : (i : ℕ) (t : ℕ → Bool) → any_below i t ≡ false → t i ≡ false → any_below (i + 1) t ≡ false
unfolding any_below
any_next i t h e = rw (add-one, e) h

pub any_more : (i : ℕ) (t : ℕ → Bool) → (t i || any_below i t) ≡ any_below (i + 1) t
unfolding any_below
any_more i t = rw add-one

pub any_stop : (n i : ℕ) (t : ℕ → Bool) → i < n → t i ≡ true → any_below n t ≡ true
any_stop n i t l e = T_true (any_below n t) (any_i n t i l (true-T e))

-- ---- the same, as statements of every number
pub any-false_i : (n : ℕ) (t : ℕ → Bool) → ((p : ℕ) → p < n → t p ≡ false) → any_below n t ≡ false
any-false_i n t h = ⊎_elim (λ a. let w = any_e n t (true-T a) in absurd (true≢false (sym (T_true (t w.0) w.2) ∙ h w.0 w.1))) (λ a. a) (either (any_below n t))

pub any-false_e : (n : ℕ) (t : ℕ → Bool) → any_below n t ≡ false → (p : ℕ) → p < n → t p ≡ false
any-false_e n t e p l = ⊎_elim (λ a. absurd (true≢false (sym (any_stop n p t l a) ∙ e))) (λ a. a) (either (t p))
