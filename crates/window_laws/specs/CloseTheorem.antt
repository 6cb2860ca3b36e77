-- Demand 2 for a close (02 [5]): if a list of frontiers is exactly the kept cuts of a history, then those of them that
-- stay, in their order, are exactly the cuts that are kept where fewer processes are open.
use Rattle.std.specs.Prelude.{ℕ, refl, List, ◌↔◌}
use Rattle.std.proofs.Common.{arith, ◌∙◌, inl, inr}
use Rattle.std.proofs.Math.Path.{ap, subst⁻¹}
use Rattle.std.proofs.Math.Bool.{Bool, not}
use Rattle.std.proofs.Math.Dec.{T}
use Rattle.codec.specs.Bit.{bit}
use Rattle.clocks.specs.declared.Event.{Event}
use Rattle.clocks.specs.Event.{Cut}
use Rattle.clocks.specs.History.{taken, Consistent}
use Rattle.clocks.specs.Kept.{Kept}
use Rattle.clocks.specs.Counts.{at, list_of}
use Rattle.clocks.specs.stored.CountsLaws.{at-list_of-all}
use Rattle.clocks.specs.validity.ClockRule.{taken-silent, consistent-silent}
use Rattle.frontiers.specs.declared.Frontier.{Frontier}
use Rattle.window.specs.Step.{kept_by, filtered}
use Rattle.window.specs.Lists.{filtered_e, filtered_i, filtered-map}
use Rattle.window_laws.specs.Represents.{open_in, Proper, KeptIn, Represents}
use Rattle.window_laws.specs.FrontierOf.{World, frontier_of}
use Rattle.window_laws.specs.KeptTest.{SilentFrom, kept_test}
use Rattle.window_laws.specs.MergeLaws.{sorted_filtered}

-- The world with other processes closed.
abbrev pub closing_in : World → ℕ → World
closing_in W closed =
    record { stored = W.stored; processes = W.processes; closed = closed; start = W.start; table = W.table }

-- The frontier is kept where these processes are closed.
abbrev pub stays_in : World → List Event → ℕ → Frontier → Bool
stays_in W ts closed f = kept_by W.stored W.processes closed (taken ts) (at f.counts)

module _ (W : World) (valid : List Event → Event → Type 0) (ts : List Event) (P : Proper W valid ts) (closed : ℕ)
    (shrinks : (p : ℕ) → T (not (bit closed p)) → T (open_in W p)) where
  old-silent : (S : Cut) → Consistent ts S → SilentFrom W.stored S
  old-silent S c p l = consistent-silent W.processes valid ts P.by_rule S c p (omega (arith, P.room))

  all-silent : SilentFrom W.stored (taken ts)
  all-silent p l = taken-silent W.processes valid ts P.by_rule p (omega (arith, P.room))

  stays-test : (S : Cut) → Consistent ts S
      → T (stays_in W ts closed (frontier_of W ts S)) ↔ Kept W.processes (λ p. not (bit closed p)) ts S
  unfolding frontier_of
  stays-test S c =
      subst⁻¹
      (λ (C : Cut). T (kept_by W.stored W.processes closed (taken ts) C)
      ↔ Kept W.processes (λ p. not (bit closed p)) ts S)
      (at-list_of-all W.stored S (old-silent S c))
      (kept_test W.stored W.processes closed ts S (old-silent S c) all-silent)

  -- what is kept with fewer open processes was kept
  was_kept : (S : Cut) → KeptIn (closing_in W closed) ts S → KeptIn W ts S
  was_kept S k = record { consistent = k.consistent; kept = go k.kept }
    where
      go : Kept W.processes (λ p. not (bit closed p)) ts S → Kept W.processes (open_in W) ts S
      go (inl w) = inl (w.0, w.1, shrinks w.0 w.2, w.3)
      go (inr q) = inr q

  -- ---- Theorem
  pub close_represents : (fs : List Frontier) → Represents W ts fs
      → Represents (closing_in W closed) ts (filtered (stays_in W ts closed) fs)
  unfolding frontier_of
  close_represents fs R = record {
    cuts = filtered stay R.cuts;
    are = ap (filtered (stays_in W ts closed)) R.are
        ∙ filtered-map (frontier_of W ts) (stays_in W ts closed) stay R.cuts (λ S m. refl);
    sorted = sorted_filtered (list_of W.stored) stay R.cuts R.sorted;
    kept = λ S m.
        let w = filtered_e stay R.cuts S m in
        let c = (R.kept S w.0).consistent in
        record { consistent = c; kept = (stays-test S c).0 w.1 };
    complete = λ S k.
        filtered_i stay R.cuts S (R.complete S (was_kept S k)) ((stays-test S k.consistent).1 k.kept);
  }
    where
      stay : Cut → Bool
      stay S = stays_in W ts closed (frontier_of W ts S)
