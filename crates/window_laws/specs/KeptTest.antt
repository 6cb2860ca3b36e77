-- What the test for keeping a frontier means for its cut: it is complete for an open process, or all of the history.
use Rattle.std.specs.Prelude.{ℕ, ◌≤◌, ◌<◌, ◌≡◌, Bool, not, ◌&&◌, List, ◌↔◌, T, eqb}
use Rattle.std.proofs.Common.{arith, sym, ap, ◌∙◌, inl, inr, ⊎_elim, eqb→eq, eq-eqb}
use Rattle.std.proofs.Math.Decide.{dec_lt}
use Rattle.std.proofs.Math.Path.{fun_ext}
use Rattle.codec.specs.Bit.{bit}
use Rattle.clocks.specs.declared.Event.{Event}
use Rattle.clocks.specs.Event.{Cut}
use Rattle.clocks.specs.History.{taken}
use Rattle.clocks.specs.Kept.{Kept}
use Rattle.clocks.specs.Bounded.{all_below, any_below}
use Rattle.clocks.specs.cuts.EventLaws.{true-T}
use Rattle.clocks.specs.stored.BoundedLaws.{and_i, and_l, and_r, or_l, or_r, or_e, all_i, all_e, any_i, any_e}
use Rattle.window.specs.Step.{kept_by}

-- A cut of which n counts are stored; the others are 0.
abbrev pub SilentFrom : ℕ → Cut → Type 0
SilentFrom n S = (p : ℕ) → n ≤ p → S p ≡ 0

module _ (n k closed : ℕ) (ts : List Event) (S : Cut) (silent : SilentFrom n S)
    (all-silent : SilentFrom n (taken ts)) where
  abbrev complete-at : ℕ → Bool
  complete-at p = not (bit closed p) && eqb (S p) (taken ts p)

  abbrev same_at : ℕ → Bool
  same_at p = eqb (S p) (taken ts p)

  largest : T (all_below n same_at) → (p : ℕ) → Dec (p < n) → S p ≡ taken ts p
  largest t p (yes l) = eqb→eq (S p) (taken ts p) (all_e n same_at t p l)
  largest t p (no l) = silent p (omega arith) ∙ sym (all-silent p (omega arith))

  there : T (kept_by n k closed (taken ts) S) → Kept k (λ p. not (bit closed p)) ts S
  there t = ⊎_elim
      (λ a. let w = any_e k complete-at a in
      let p = w.0 in inl (
        p,
        w.1,
        and_l (not (bit closed p)) (eqb (S p) (taken ts p)) w.2,
        eqb→eq (S p) (taken ts p) (and_r (not (bit closed p)) (eqb (S p) (taken ts p)) w.2),
      ))
      (λ a. inr (fun_ext (λ p. largest a p (dec_lt p n))))
      (or_e (any_below k complete-at) (all_below n same_at) t)

  back : Kept k (λ p. not (bit closed p)) ts S → T (kept_by n k closed (taken ts) S)
  back (inl w) =
      let p = w.0 in
      or_l (any_below k complete-at) (all_below n same_at)
      (any_i k complete-at p w.1
      (and_i (not (bit closed p)) (eqb (S p) (taken ts p)) w.2 (true-T (eq-eqb (S p) (taken ts p) w.3))))
  back (inr q) = or_r (any_below k complete-at) (all_below n same_at)
      (all_i n same_at (λ p l. true-T (eq-eqb (S p) (taken ts p) (ap (λ (R : Cut). R p) q))))

  pub kept_test : T (kept_by n k closed (taken ts) S) ↔ Kept k (λ p. not (bit closed p)) ts S
  kept_test = (there, back)
