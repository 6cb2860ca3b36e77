-- The frontier that an event leads to, by its parts.
use Prim.Native.Nat.{ℕ}
use mathlib.Core.Path.{◌≡◌, ap, ◌∙◌}
use mathlib.Core.Bool.{cond}
use mathlib.Core.List.{List}
use lib.ListN.{get_or, replicate, get_or-replicate}
use Rattle.clocks.specs.declared.Event.{Event}
use Rattle.codec.specs.Bit.{bit}
use Rattle.clocks.specs.Event.{apply, involved}
use Rattle.clocks.specs.Counts.{at, list_of}
use Rattle.clocks.specs.stored.CountsLaws.{list_of-same}
use Rattle.frontiers.specs.declared.Frontier.{Frontier}
use Rattle.window.specs.Step.{Setting, advanced}

pub advanced_parts : (s : Setting) (e : Event) (f : Frontier) (counts labels masks : List ℕ) → s.stored ≡ 8 → s.event ≡ e
    → counts ≡ list_of 8 (apply e (at f.counts))
    → labels ≡ list_of 8 (λ p. cond (bit e.mask p) (get_or e.labels p 0) (get_or f.labels p 0))
    → masks ≡ list_of 8 (λ p. cond (bit e.mask p) (get_or (replicate 8 e.mask) p 0) (get_or f.masks p 0))
    → record { counts = counts; labels = labels; masks = masks; values = f.values } ≡ advanced s f
unfolding advanced involved
advanced_parts s e f counts labels masks h v c l m =
    let m' : masks ≡ list_of 8 (λ p. cond (bit e.mask p) e.mask (get_or f.masks p 0)) =
    m ∙ list_of-same 8 _ _ (λ p i. ap (λ (x : ℕ). cond (bit e.mask p) x (get_or f.masks p 0)) (get_or-replicate 8 p e.mask 0 i)) in
    rw (h, v, c, l, m')
