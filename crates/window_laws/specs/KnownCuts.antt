-- The window alone tells whether the clock of a ready event of open processes is valid: what the event knows of is among
-- the kept frontiers exactly if it is a consistent cut of the history (02 [2]). For the processes that take part have
-- all their taken events in it, so that it is kept.
use Rattle.std.specs.Prelude.{ℕ, ◌≤◌, ◌≡◌, true, ◌↔◌, T}
use Rattle.std.proofs.Common.{arith, ap, ◌∙◌}
use Rattle.std.proofs.Math.Path.{sym, subst}
use mathlib.Core.List.{List, Memᴰ}
use Rattle.clocks.specs.declared.Event.{Event}
use Rattle.clocks.specs.Event.{Cut, involved, Ready, lowered}
use Rattle.clocks.specs.History.{taken, Consistent}
use Rattle.clocks.specs.Causal.{Follows}
use Rattle.clocks.specs.Valid.{WellFormed}
use Rattle.clocks.specs.Counts.{list_of}
use Rattle.clocks.specs.Bounded.{any_of}
use Rattle.clocks.specs.cuts.EventLaws.{lowered-count}
use Rattle.clocks.specs.cuts.KeptStep.{origin_kept}
use Rattle.clocks.specs.cuts.Lattice.{own_enabled}
use Rattle.clocks.specs.stored.BoundedLaws.{any_of_i, any_of_e}
use Rattle.clocks.specs.stored.TestedLaws.{involved_below}
use Rattle.clocks.specs.validity.ClockRule.{consistent-silent}
use Rattle.frontiers.specs.declared.Frontier.{Frontier}
use Rattle.lookup.specs.Order.{same}
use Rattle.lookup.specs.OrderLaws.{same_e, same_refl}
use Rattle.window.specs.Lists.{mapped_e, mapped_i}
use Rattle.window_laws.specs.Represents.{open_in, Proper, KeptIn, Represents}
use Rattle.window_laws.specs.FrontierOf.{World, frontier_of}
use Rattle.window_laws.specs.StoredCuts.{list_of_injective}

module _ (W : World) (valid : List Event → Event → Type 0) (ts : List Event) (P : Proper W valid ts)
    (fs : List Frontier) (R : Represents W ts fs) (e : Event) (formed : WellFormed W.processes e)
    (ready : Ready e (taken ts)) (opens : (p : ℕ) → involved e p ≡ true → T (open_in W p)) where
  -- the frontier stands for what the event knows of
  abbrev knows : Frontier → Type 0
  knows f = T (same f.counts (list_of W.stored (lowered e)))

  lowered-silent : (p : ℕ) → W.stored ≤ p → lowered e p ≡ 0
  lowered-silent p l = omega (arith, lowered-count e p, formed.silent p (omega (arith, P.room)))

  cut_silent : (S : Cut) → Consistent ts S → (p : ℕ) → W.stored ≤ p → S p ≡ 0
  cut_silent S c p l = consistent-silent W.processes valid ts P.by_rule S c p (omega (arith, P.room))

  -- ---- Theorem
  pub known_among : T (any_of (λ f. same f.counts (list_of W.stored (lowered e))) fs) ↔ Consistent ts (lowered e)
  unfolding frontier_of
  known_among = (there, back)
    where
      cut_of : (f : Frontier) → Memᴰ f fs → knows f → Consistent ts (lowered e)
      cut_of f m t =
          let s = mapped_e (frontier_of W ts) R.cuts f (subst (Memᴰ f) R.are m) in
          let c : Consistent ts s.0 = (R.kept s.0 s.1).consistent in
          let q : list_of W.stored s.0 ≡ list_of W.stored (lowered e) =
          sym (ap (λ (g : Frontier). g.counts) s.2) ∙ same_e f.counts (list_of W.stored (lowered e)) t in
          subst (Consistent ts)
          (list_of_injective W.stored s.0 (lowered e) (cut_silent s.0 c) lowered-silent q) c

      there : T (any_of (λ f. same f.counts (list_of W.stored (lowered e))) fs) → Consistent ts (lowered e)
      there t = let w = any_of_e (λ f. same f.counts (list_of W.stored (lowered e))) fs t in
          cut_of w.0 w.1 w.2

      kept : Consistent ts (lowered e) → KeptIn W ts (lowered e)
      kept c =
          let f : Follows ts e = record { occupied = formed.occupied; ready = ready; knows = c } in
          record {
            consistent = c;
            kept = origin_kept W.processes (open_in W) e ts f
                (λ p b. (involved_below W.processes e formed p b, opens p b)) (lowered e) (own_enabled e ts f);
          }

      back : Consistent ts (lowered e) → T (any_of (λ f. same f.counts (list_of W.stored (lowered e))) fs)
      back c =
          let m = mapped_i (frontier_of W ts) R.cuts (lowered e) (R.complete (lowered e) (kept c)) in
          any_of_i (λ f. same f.counts (list_of W.stored (lowered e))) fs (frontier_of W ts (lowered e))
          (rw R.are m) (same_refl (list_of W.stored (lowered e)))
