-- What an event does to counts, without adding: the next count by a difference, a ready event's own counts, its clock
-- less its mask.
use Rattle.std.specs.Prelude.{ℕ, ◌+◌, ◌-◌, ◌<◌, ◌≡◌, refl, Bool, true, false, cond, T, eqb}
use Rattle.std.proofs.Common.{arith, eqb→eq, eq-eqb}
use Rattle.clocks.specs.declared.Event.{Event}
use Rattle.clocks.specs.Event.{Cut, one, involved, count, apply, minus, less, lowered}
use Rattle.clocks.specs.Counts.{at}
use Rattle.clocks.specs.stored.BoundedLaws.{same_test, all_e}
use Rattle.clocks.specs.Tested.{ready_at, ready}

-- n is c + 1, without adding
pub eqb_next : (n c : ℕ) → c < n → eqb (n - c) 1 ≡ eqb n (c + 1)
eqb_next n c l =
    same_test (eqb (n - c) 1) (eqb n (c + 1))
    (λ t. rw (eq-eqb n (c + 1) (omega (arith, eqb→eq (n - c) 1 t))) tt)
    (λ t. rw (eq-eqb (n - c) 1 (omega (arith, eqb→eq n (c + 1) t))) tt)

-- ---- Where a ready event leads, by its own counts
apply-ready-at : (b : Bool) (n c : ℕ) → T (ready_at b n c) → cond b n c ≡ one b + c
apply-ready-at true n c r = omega (arith, eqb→eq n (c + 1) r)
apply-ready-at false n c r = omega arith

pub apply-ready : (n : ℕ) (e : Event) (S : Cut) → T (ready n e S) → (p : ℕ) → p < n → cond (involved e p) (count e p) (S p) ≡ apply e S p
unfolding ready apply
apply-ready n e S t p l = apply-ready-at (involved e p) (count e p) (S p) (all_e n (λ q. ready_at (involved e q) (count e q) (S q)) t p l)

-- what an event knows of, by its mask
pub lowered-minus : (e : Event) → lowered e ≡ minus e.mask (at e.clock)
unfolding lowered less minus involved count
lowered-minus e = refl
