-- The frontiers that a step lays down are of proper shape.
use Prim.Native.Nat.{ℕ, ◌+◌, ◌*◌, ◌^◌, ◌≤◌, ◌<◌}
use native.Mathlib.Omega.{arith}
use native.Mathlib.Decide.{dec_lt}
use mathlib.Core.Path.{◌≡◌, subst}
use mathlib.Core.Bool.{Bool, true, false, cond}
use mathlib.Core.List.{List}
use lib.Dec.{T}
use lib.ListN.{length, get_or}
use Rattle.codec.specs.Little.{Bytes}
use Rattle.clocks.specs.declared.Event.{Event}
use Rattle.clocks.specs.Event.{involved, count, apply}
use Rattle.clocks.specs.Counts.{at, list_of}
use Rattle.clocks.specs.stored.CountsLaws.{length-list_of, at-list_of, at_beyond}
use Rattle.clocks.specs.stored.StepCountLaws.{apply-ready}
use Rattle.clocks.specs.Tested.{ready}
use Rattle.frontiers.specs.declared.Frontier.{Frontier}
use Rattle.frontiers.specs.Bytes.{frontier_length, frontier_at}
use Rattle.frontiers.specs.BytesLaws.{shaped_from}
use Rattle.frontiers.specs.Shaped.{Shaped}
use Rattle.window.specs.Step.{Setting, advanced}
use Rattle.window.specs.StepCode.{Fitting}

-- A list of n values below a bound is below it everywhere.
list_of_below : (n : ℕ) (f : ℕ → ℕ) (b : ℕ) → 0 < b → ((p : ℕ) → p < n → f p < b) → (p : ℕ) → at (list_of n f) p < b
list_of_below n f b z h p = go (dec_lt p n)
  where
    go : Dec (p < n) → at (list_of n f) p < b
    go (yes l) = rw (at-list_of n f p l) (h p l)
    go (no l) = rw (at_beyond (list_of n f) p (rw (length-list_of n f) (omega arith))) z

cond_below : (b : Bool) (x y n : ℕ) → x < n → y < n → cond b x y < n
cond_below true x y n h k = h
cond_below false x y n h k = k

-- A frontier that is read from bytes,
pub shaped_at : (w : ℕ) (s : List ℕ) (i : ℕ) → Bytes s → i * frontier_length w + frontier_length w ≤ length s → Shaped w (frontier_at w s i)
unfolding frontier_at
shaped_at w s i b h = shaped_from w s (i * frontier_length w) b h

-- and one that a fitting event leads to from such a frontier, with any values of eight bytes.
pub shaped_advanced : (w : ℕ) (s : Setting) (e : Event) (f : Frontier) (v : ℕ) → s.stored ≡ 8 → s.event ≡ e → Fitting w e → Shaped w f
    → T (ready 8 e (at f.counts)) → v < 256 ^ 8
    → Shaped w (record { counts = (advanced s f).counts; labels = (advanced s f).labels; masks = (advanced s f).masks; values = v })
unfolding advanced count
shaped_advanced w s e f v h q fit sh r l = rw (h, q) (record {
  eight_counts = length-list_of 8 _;
  counts_fit = list_of_below 8 (apply e (at f.counts)) (256 ^ w) (omega (arith, sh.counts_fit 0)) (λ p i. subst (λ (x : ℕ). x < 256 ^ w) (apply-ready 8 e (at f.counts) r p i) (cond_below (involved e p) (at e.clock p) (at f.counts p) (256 ^ w) (fit.clock_fits p) (sh.counts_fit p)));
  eight_labels = length-list_of 8 _;
  labels_fit = list_of_below 8 (λ p. cond (involved e p) (get_or e.labels p 0) (get_or f.labels p 0)) 256 (omega arith) (λ p i. cond_below (involved e p) _ _ 256 (fit.labels_fit p) (sh.labels_fit p));
  eight_masks = length-list_of 8 _;
  masks_fit = list_of_below 8 (λ p. cond (involved e p) e.mask (get_or f.masks p 0)) 256 (omega arith) (λ p i. cond_below (involved e p) _ _ 256 fit.mask_fits (sh.masks_fit p));
  values_fit = l;
})
