-- The list of the one cut of zeros is right for the empty history.
use Rattle.std.specs.Prelude.{ℕ, zero, suc, ◌<◌, ◌≡◌, refl, List, [], ◌∷◌, length, replicate}
use Rattle.std.proofs.Common.{arith, subst, ap, inr}
use Rattle.std.proofs.Math.Path.{fun_ext}
use Rattle.std.proofs.Math.Bool.{false}
use mathlib.Core.List.Memᴰ
use Rattle.std.proofs.Math.Dec.{T}
use Rattle.clocks.specs.declared.Event.{Event}
use Rattle.codec.specs.Bit.{bit}
use Rattle.codec.specs.BitLaws.{bit-zero}
use Rattle.pactl.specs.Judge.{judge}
use Rattle.pactl.specs.ModelCuts.{Leads}
use Rattle.pactl.specs.Truth.{Model, line_truth}
use Rattle.pactl.specs.JudgeTruth.{judged_right}
use Rattle.clocks.specs.History.{taken, event, label_of, Consistent, mask_of}
use Rattle.clocks.specs.Event.{Cut}
use Rattle.clocks.specs.Bounds.{zeros}
use Rattle.clocks.specs.Counts.{list_of}
use Rattle.clocks.specs.cuts.Lattice.{zeros-consistent}
use Rattle.clocks.specs.stored.CountsLaws.{get_d_list_of}
use Rattle.pactl.specs.JudgeLaws.{judge_above}
use Rattle.window_laws.specs.Represents.{Proper, Represents}
use Rattle.window_laws.specs.FrontierOf.{World, model_of, word_of, frontier_of}
use Rattle.frontiers.specs.declared.Frontier.{Frontier}
use Rattle.window_laws.specs.FrontierLaws.{word_is}
use Rattle.window.specs.Start.{start_frontier}

list_of-zeros : (n : ℕ) (f : ℕ → ℕ) → ((p : ℕ) → f p ≡ 0) → list_of n f ≡ replicate n 0
unfolding list_of
list_of-zeros zero f h = refl
list_of-zeros (suc n) f h = rw (h 0, list_of-zeros n (λ p. f (suc p)) (λ p. h (suc p)))

module _ (W : World) (valid : List Event → Event → Type 0) (P : Proper W valid []) where
  abbrev M : Model
  M = model_of W []

  -- no event leads anywhere
  alone : (S : Cut) → (S' : Cut) → Leads M S' S → ⊥
  alone S S' l = Memᴰ.not-nil l.among

  only_zeros : (S : Cut) → Consistent [] S → S ≡ zeros
  unfolding taken
  only_zeros S c = fun_ext (λ p. omega (arith, c.within p))

  zeros_right : (i : ℕ) → i < length W.table → bit (judge (list_of W.stored W.start) 0 0 false W.table) i ≡ line_truth M W.table i zeros
  unfolding label_of event
  zeros_right i l = judged_right M valid (record { rule = P.rule; by_rule = P.by_rule }) W.table P.good zeros (zeros-consistent [])
      (list_of W.stored W.start) (λ p k. get_d_list_of W.stored W.start p 0 (omega (arith, P.room))) 0 0 false
      (record {
        some_has = λ j k. ((λ t. absurd (subst T (bit-zero j) t)), λ w. absurd (alone zeros w.0 w.1));
        all_have = λ t j k. absurd t;
        some_precedes = ((λ t. absurd t), λ w. alone zeros w.0 w.1);
      })
      i l

  start_is : start_frontier W.stored (list_of W.stored W.start) W.table ≡ frontier_of W [] zeros
  unfolding start_frontier frontier_of label_of mask_of event
  start_is =
      let v : judge (list_of W.stored W.start) 0 0 false W.table ≡ word_of (length W.table) (λ i. line_truth M W.table i zeros) =
      word_is (length W.table) (λ i. line_truth M W.table i zeros) (judge (list_of W.stored W.start) 0 0 false W.table) zeros_right
      (λ i l. judge_above (list_of W.stored W.start) 0 0 false W.table i l) in
      rw (v, ← list_of-zeros W.stored zeros (λ p. refl))

  -- ---- Theorem
  pub start_represents : Represents W [] (start_frontier W.stored (list_of W.stored W.start) W.table ∷ [])
  start_represents = record {
    cuts = zeros ∷ [];
    are = ap (λ (f : Frontier). f ∷ []) start_is;
    sorted = ((λ R m. absurd (Memᴰ.not-nil m)), tt);
    kept = λ S m. rw (Memᴰ.eq_of_singleton m) (record { consistent = zeros-consistent []; kept = inr (unfold taken in refl) });
    complete = λ S k. Memᴰ.head (only_zeros S k.consistent);
  }
