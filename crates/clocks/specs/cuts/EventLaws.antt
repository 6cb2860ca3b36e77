-- What an event asks of one process at a time.
use Rattle.std.specs.Prelude.{ℕ, ◌+◌, ◌-◌, ◌≤◌, ◌<◌, ◌≡◌, refl, Bool, true, false, ◌⊎◌, T}
use Rattle.std.proofs.Common.{arith, sym, ap, subst, ◌∙◌, inl, inr}
use Rattle.std.proofs.Math.Path.{fun_ext}
use Rattle.clocks.specs.declared.Event.{Event}
use Rattle.clocks.specs.Event.{Cut, one, involved, count, ReadyAt, Ready, apply, minus, less, lowered}

-- A test's two outcomes, each with its equation.
pub either : (b : Bool) → (b ≡ true) ⊎ (b ≡ false)
either true = inl refl
either false = inr refl

pub true-T : {b : Bool} → b ≡ true → T b
true-T e = subst T (sym e) tt

pub T_true : (b : Bool) → T b → b ≡ true
T_true true t = refl
T_true false t = absurd t

-- ---- Ready, process by process
pub ready_next : (e : Event) (S : Cut) → Ready e S → (p : ℕ) → involved e p ≡ true → count e p ≡ S p + 1
ready_next e S r p b = subst (λ (i : Bool). ReadyAt i (count e p) (S p)) b (r.each p)

pub ready_known : (e : Event) (S : Cut) → Ready e S → (p : ℕ) → involved e p ≡ false → count e p ≤ S p
ready_known e S r p b = subst (λ (i : Bool). ReadyAt i (count e p) (S p)) b (r.each p)

pub ready_i : (e : Event) (S : Cut) → ((p : ℕ) → involved e p ≡ true → count e p ≡ S p + 1) → ((p : ℕ) → involved e p ≡ false → count e p ≤ S p) → Ready e S
ready_i e S n k = record { each = λ p. at p (involved e p) (n p) (k p) }
  where
    at : (p : ℕ) (b : Bool) → (b ≡ true → count e p ≡ S p + 1) → (b ≡ false → count e p ≤ S p) → ReadyAt b (count e p) (S p)
    at p true h k = h refl
    at p false h k = k refl

-- an event enabled at two cuts has the same counts of its own processes there
pub ready-same : (e : Event) (S R : Cut) → Ready e S → Ready e R → (p : ℕ) → involved e p ≡ true → S p ≡ R p
ready-same e S R s r p b = omega (arith, ready_next e S s p b, ready_next e R r p b)

count-apply-at : (b : Bool) (n c : ℕ) → ReadyAt b n c → n ≤ one b + c
count-apply-at true n c r = omega arith
count-apply-at false n c r = omega arith

-- an enabled event's clock is nowhere above the cut that it leads to
pub count_apply : (e : Event) (S : Cut) → Ready e S → (p : ℕ) → count e p ≤ apply e S p
unfolding apply
count_apply e S r p = count-apply-at (involved e p) (count e p) (S p) (r.each p)

lowered-ready-at : (b : Bool) (n c : ℕ) → ReadyAt b n c → n - one b ≤ c
lowered-ready-at true n c r = omega arith
lowered-ready-at false n c r = omega arith

-- ... and what it knows of is nowhere above the cut it is enabled at
pub lowered-ready : (e : Event) (S : Cut) → Ready e S → (p : ℕ) → lowered e p ≤ S p
unfolding lowered less
lowered-ready e S r p = lowered-ready-at (involved e p) (count e p) (S p) (r.each p)

pub lowered_next : (e : Event) (S : Cut) → Ready e S → (p : ℕ) → involved e p ≡ true → lowered e p ≡ S p
unfolding lowered less
lowered_next e S r p b = rw (b, ready_next e S r p b) (omega arith)

pub lowered-count : (e : Event) (p : ℕ) → lowered e p ≤ count e p
unfolding lowered less
lowered-count e p = omega arith

-- ---- one event more, one event less
pub apply_next : (e : Event) (S : Cut) (p : ℕ) → involved e p ≡ true → apply e S p ≡ S p + 1
unfolding apply
apply_next e S p b = rw b (omega arith)

pub apply_other : (e : Event) (S : Cut) (p : ℕ) → involved e p ≡ false → apply e S p ≡ S p
unfolding apply
apply_other e S p b = rw b (omega arith)

pub apply_up : (e : Event) (S : Cut) (p : ℕ) → S p ≤ apply e S p
unfolding apply
apply_up e S p = omega arith

pub less_next : (e : Event) (S : Cut) (p : ℕ) → involved e p ≡ true → less e S p ≡ S p - 1
unfolding less
less_next e S p b = rw b

pub less_other : (e : Event) (S : Cut) (p : ℕ) → involved e p ≡ false → less e S p ≡ S p
unfolding less
less_other e S p b = rw b (omega arith)

pub less-minus : (e : Event) (S : Cut) → less e S ≡ minus e.mask S
unfolding less minus involved
less-minus e S = refl

pub less-apply : (e : Event) (S : Cut) → less e (apply e S) ≡ S
unfolding less apply
less-apply e S = fun_ext (λ p. omega arith)

-- where the cut counts an event of each process that takes part, taking one away and adding it again is nothing
pub apply-less : (e : Event) (S : Cut) → ((p : ℕ) → involved e p ≡ true → 0 < S p) → apply e (less e S) ≡ S
unfolding apply less
apply-less e S h = fun_ext (λ p. at p (involved e p) (h p))
  where
    at : (p : ℕ) (b : Bool) → (b ≡ true → 0 < S p) → one b + (S p - one b) ≡ S p
    at p true g = let g' : 0 < S p = g refl in omega arith
    at p false g = omega arith

pub apply_injective : (e : Event) (S R : Cut) → apply e S ≡ apply e R → S ≡ R
apply_injective e S R q = sym (less-apply e S) ∙ ap (less e) q ∙ less-apply e R

pub apply_comm : (e f : Event) (S : Cut) → apply e (apply f S) ≡ apply f (apply e S)
unfolding apply
apply_comm e f S = fun_ext (λ p. omega arith)
