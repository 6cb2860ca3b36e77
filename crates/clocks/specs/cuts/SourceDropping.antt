-- Source 000's condition for dropping is sufficient: where it holds, every process has a taken event beyond the cut. It
-- is not necessary: a starred example of 01 has a cut that is dropped here and not there.

use Prim.Native.Nat.{ℕ, zero, suc, ◌<◌}
use Rattle.std.proofs.Common.{arith, inl, inr}
use Rattle.std.specs.Prelude.{◌≡◌, true, ◌&&◌, List, ◌⊎◌, T, length}
use Rattle.std.proofs.Math.Bool.{Bool}
use Rattle.clocks.specs.declared.Event.{Event}
use Rattle.clocks.specs.History.{taken, In}
use Rattle.clocks.specs.Event.{Cut, involved, apply}
use Rattle.clocks.specs.validity.ClockRule.{history_causal}
use Rattle.clocks.specs.Kept.{Dropped}
use Rattle.clocks.specs.Redundant.{served, redundant_within, redundant}
use Rattle.clocks.specs.Bounded.{any_of}
use Rattle.clocks.specs.cuts.EventLaws.{T_true, ready_next, apply_up}
use Rattle.clocks.specs.stored.TestedLaws.{in_takeable, ready-test}
use Rattle.clocks.specs.stored.BoundedLaws.{and_l, and_r, or_e, all_e, any_of_e}
use Rattle.clocks.specs.Tested.{ready}
use Rattle.clocks.specs.Valid.{History, ClockRule}
use Rattle.clocks.specs.cuts.CausalLaws.{count-within}

module _ (k : ℕ) (valid : List Event → Event → Type 0) (r : ClockRule k valid) (ts : List Event) (h : History k valid ts) where
  -- an enabled event is beyond the cut at each of its processes
  enabled_beyond : (S : Cut) (f : Event) → In f ts → T (ready k f S) → (p : ℕ) → involved f p ≡ true → S p < taken ts p
  enabled_beyond S f m t p b =
      omega (arith, ready_next f S ((ready-test k f (in_takeable k valid ts h f m) S).0 t) p b, count-within ts (history_causal k valid r ts h) f m p)

  served_dropped : (S : Cut) → T (served k ts S) → Dropped k ts S
  unfolding served
  served_dropped S t p l =
      let w = any_of_e (λ f. involved f p && ready k f S) ts (all_e k (λ q. any_of (λ f. involved f q && ready k f S) ts) t p l) in
      enabled_beyond S w.0 w.1 (and_r (involved w.0 p) (ready k w.0 S) w.2) p (T_true (involved w.0 p) (and_l (involved w.0 p) (ready k w.0 S) w.2))

  within_dropped : (d : ℕ) (S : Cut) → T (redundant_within d k ts S) → Dropped k ts S
  unfolding redundant_within
  within_dropped zero S t = served_dropped S t
  within_dropped (suc d) S t = go (or_e (served k ts S) (any_of ahead ts) t) (within_dropped d)
    where
      ahead : Event → Bool
      ahead f = ready k f S && redundant_within d k ts (apply f S)

      go : T (served k ts S) ⊎ T (any_of ahead ts) → ((R : Cut) → T (redundant_within d k ts R) → Dropped k ts R) → Dropped k ts S
      go (inl x) rec = served_dropped S x
      go (inr x) rec = λ p l. let w = any_of_e ahead ts x in omega (arith, rec (apply w.0 S) (and_r (ready k w.0 S) (redundant_within d k ts (apply w.0 S)) w.2) p l, apply_up w.0 S p)

  pub redundant_dropped : (S : Cut) → T (redundant k ts S) → Dropped k ts S
  unfolding redundant
  redundant_dropped S t = within_dropped (length ts) S t
