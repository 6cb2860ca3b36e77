-- The last frontier is the largest cut's, so its bit of the last line is the verdict.
use Rattle.std.specs.Prelude.{ℕ, suc, ◌-◌, ◌≤◌, ◌<◌, ◌≡◌, refl, T, length, get_or}
use Rattle.std.proofs.Common.{arith, sym, ◌∙◌, inr, ⊎_elim}
use Rattle.std.proofs.Math.Path.{ap, subst⁻¹}
use mathlib.Core.List.Memᴰ
use mathlib.Core.List.{List, [], ◌∷◌, map, Memᴰ}
use Rattle.std.proofs.lemmas.List.{length-map}
use Rattle.clocks.specs.declared.Event.{Event}
use Rattle.codec.specs.Bit.{bit}
use Rattle.pactl.specs.Truth.{line_truth}
use Rattle.clocks.specs.History.{taken, Consistent}
use Rattle.clocks.specs.Causal.{Causal}
use Rattle.clocks.specs.Event.{Cut}
use Rattle.clocks.specs.validity.ClockRule.{history_causal, consistent-silent}
use Rattle.clocks.specs.Counts.{list_of}
use Rattle.clocks.specs.cuts.Lattice.{taken-consistent}
use Rattle.frontiers.specs.declared.Frontier.{Frontier}
use Rattle.window_laws.specs.FrontierLaws.{bit-word_of}
use Rattle.window_laws.specs.Represents.{KeptIn, Represents, Proper}
use Rattle.window_laws.specs.FrontierOf.{World, model_of, frontier_of, Sorted}
use Rattle.lookup.specs.Order.{before}
use Rattle.window_laws.specs.OrderCuts.{before_above}

module _ (W : World) (valid : List Event → Event → Type 0) (ts : List Event) (P : Proper W valid ts) (fs : List Frontier) (R : Represents W ts fs) where
  causal : Causal ts
  causal = history_causal W.processes valid P.rule ts P.by_rule

  largest_kept : KeptIn W ts (taken ts)
  largest_kept = record { consistent = taken-consistent ts causal; kept = inr refl }

  silent : (S : Cut) → Consistent ts S → (p : ℕ) → W.stored ≤ p → S p ≡ 0
  silent S c p l = consistent-silent W.processes valid ts P.by_rule S c p (omega (arith, P.room))

  -- no cut stands behind the largest
  none_behind : (S : Cut) → Consistent ts S → T (before (list_of W.stored (taken ts)) (list_of W.stored S)) → ⊥
  none_behind S c t = before_above W.stored S (taken ts) c.within t

  pub some_frontier : 0 < length fs
  some_frontier = go R.cuts (R.complete (taken ts) largest_kept) R.are
    where
      go : (Ss : List Cut) → Memᴰ (taken ts) Ss → fs ≡ map (frontier_of W ts) Ss → 0 < length fs
      go [] m q = absurd (Memᴰ.not-nil m)
      go (S ∷ Ss) m q = rw q (omega arith)

  last_cut : (Ss : List Cut) → Sorted W.stored Ss → ((S : Cut) → Memᴰ S Ss → Consistent ts S) → Memᴰ (taken ts) Ss → (d : Frontier) → get_or (map (frontier_of W ts) Ss) (length Ss - 1) d ≡ frontier_of W ts (taken ts)
  last_cut [] s k m d = absurd (Memᴰ.not-nil m)
  last_cut (S ∷ []) s k m d = ap (frontier_of W ts) (sym (Memᴰ.eq_of_singleton m))
  last_cut (S ∷ Q ∷ Ss) s k m d = ⊎_elim
      (λ q. absurd (none_behind Q (k Q (Memᴰ.tail (Memᴰ.head refl))) (subst⁻¹ (λ (C : Cut). T (before (list_of W.stored C) (list_of W.stored Q))) q (s.0 Q (Memᴰ.head refl)))))
      (λ j. let z : length (S ∷ Q ∷ Ss) - 1 ≡ suc (length (Q ∷ Ss) - 1) = omega arith in rw z (last_cut (Q ∷ Ss) s.1 (λ C n. k C (Memᴰ.tail n)) j d))
      (Memᴰ.cases_cons m)

  -- ---- Theorem
  pub last-largest : (d : Frontier) → get_or fs (length fs - 1) d ≡ frontier_of W ts (taken ts)
  last-largest d =
      let l : length fs ≡ length R.cuts = ap length R.are ∙ length-map R.cuts (frontier_of W ts) in
      rw (l, R.are) (last_cut R.cuts R.sorted (λ S m. (R.kept S m).consistent) (R.complete (taken ts) largest_kept) d)

  pub verdict_right : (d : Frontier) (i : ℕ) → i < length W.table → bit (get_or fs (length fs - 1) d).values i ≡ line_truth (model_of W ts) W.table i (taken ts)
  unfolding frontier_of
  verdict_right d i l = ap (λ (f : Frontier). bit f.values i) (last-largest d) ∙ bit-word_of (length W.table) (λ j. line_truth (model_of W ts) W.table j (taken ts)) i l
