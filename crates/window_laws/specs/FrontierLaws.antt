-- A cut's frontier after one more event: an old cut's is what it was; a new one's counts, labels and masks are the
-- advanced ones.
use Rattle.std.specs.Prelude.{ℕ, zero, suc, ◌^◌, ◌≤◌, ◌<◌, ◌≡◌, refl, Bool, true, false, List, ◌∷◌, ◌⊎◌}
use Rattle.std.proofs.Common.{arith, sym, ◌∙◌, inl, inr, lit<}
use Rattle.std.proofs.Math.Decide.{dec_lt}
use Rattle.std.proofs.Math.Path.{fun_ext}
use Rattle.std.proofs.Math.Bool.{cond}
use Rattle.std.proofs.Math.ListN.{get_or}
use Rattle.clocks.specs.declared.Event.{Event}
use Rattle.codec.specs.Bit.{bit}
use Rattle.codec.specs.BitLaws.{bits_equal, bit_above, bit_top, bit_under_top}
use Rattle.pactl.specs.Judge.{with_bit}
use Rattle.pactl.specs.Truth.{line_truth}
use Rattle.pactl.specs.TruthLocal.{line-truth_local}
use Rattle.clocks.specs.History.{taken, event, mask_of, label_of, Consistent, Agree, of_event}
use Rattle.clocks.specs.Event.{Cut, involved, Ready, apply}
use Rattle.clocks.specs.cuts.EventLaws.{either, ready-same, apply_next, apply_other}
use Rattle.clocks.specs.Counts.{list_of, at}
use Rattle.clocks.specs.cuts.HistoryLaws.{event_next, event_other}
use Rattle.clocks.specs.stored.CountsLaws.{get_d_list_of, list_of-same, at-list_of}
use Rattle.clocks.specs.Valid.{History, ClockRule}
use Rattle.frontiers.specs.declared.Frontier.{Frontier}
use Rattle.window.specs.Step.{advanced}
use Rattle.window_laws.specs.Represents.{setting_of}
use Rattle.window_laws.specs.FrontierOf.{World, model_of, word_of, frontier_of}

-- ---- value words
pub word_of-lt : (n : ℕ) (t : ℕ → Bool) → word_of n t < 2 ^ n
unfolding word_of
word_of-lt zero t = lit< tt
word_of-lt (suc n) t = go (t n) (word_of-lt n t)
  where
    go : (b : Bool) → word_of n t < 2 ^ n → with_bit (word_of n t) n b < 2 ^ suc n
    go true h = omega arith
    go false h = omega arith

pub bit-word_of : (n : ℕ) (t : ℕ → Bool) (i : ℕ) → i < n → bit (word_of n t) i ≡ t i
unfolding word_of
bit-word_of zero t i l = absurd (omega arith)
bit-word_of (suc n) t i l = go (t n) refl (dec_lt i n) (bit-word_of n t i)
  where
    go : (b : Bool) → t n ≡ b → Dec (i < n) → (i < n → bit (word_of n t) i ≡ t i) → bit (with_bit (word_of n t) n (t n)) i ≡ t i
    go true e (yes k) r = rw e (bit_under_top (word_of n t) n i k ∙ r k)
    go false e (yes k) r = rw e (r k)
    go true e (no k) r = let s : i ≡ n = omega arith in rw (s, e) (bit_top (word_of n t) n (word_of-lt n t))
    go false e (no k) r = let s : i ≡ n = omega arith in rw (s, e) (bit_above (word_of n t) n n (word_of-lt n t) (omega arith))

-- a word with these bits and no others is the word
pub word_is : (n : ℕ) (t : ℕ → Bool) (v : ℕ) → ((i : ℕ) → i < n → bit v i ≡ t i) → ((i : ℕ) → n ≤ i → bit v i ≡ false) → v ≡ word_of n t
word_is n t v h k = bits_equal v (word_of n t) (λ i. every i (dec_lt i n))
  where
    every : (i : ℕ) → Dec (i < n) → bit v i ≡ bit (word_of n t) i
    every i (yes l) = h i l ∙ sym (bit-word_of n t i l)
    every i (no l) = k i (omega arith) ∙ sym (bit_above (word_of n t) n i (word_of-lt n t) (omega arith))

-- ---- labels and masks by the event of a number
pub label_same : (start : Cut) (ts us : List Event) (p n : ℕ) → event ts p n ≡ event us p n → label_of start ts p n ≡ label_of start us p n
unfolding label_of
label_same start ts us p n h = rw h

pub mask_same : (ts us : List Event) (p n : ℕ) → event ts p n ≡ event us p n → mask_of ts p n ≡ mask_of us p n
unfolding mask_of
mask_same ts us p n h = rw h

-- ---- two histories with the same events inside a cut give it one frontier
pub frontier_agree : (W : World) (valid : List Event → Event → Type 0) (ts us : List Event) → ClockRule W.processes valid → History W.processes valid ts → History W.processes valid us
    → (S : Cut) → Consistent ts S → Agree S ts us → frontier_of W ts S ≡ frontier_of W us S
unfolding frontier_of
frontier_agree W valid ts us r h i S c a =
    let l : ◌≡◌ {A = ℕ → ℕ} (λ p. label_of W.start ts p (S p)) (λ p. label_of W.start us p (S p)) = fun_ext (λ p. label_same W.start ts us p (S p) (a.events p (S p) (omega arith))) in
    let m : ◌≡◌ {A = ℕ → ℕ} (λ p. mask_of ts p (S p)) (λ p. mask_of us p (S p)) = fun_ext (λ p. mask_same ts us p (S p) (a.events p (S p) (omega arith))) in
    let v : ◌≡◌ {A = ℕ → Bool} (λ j. line_truth (model_of W ts) W.table j S) (λ j. line_truth (model_of W us) W.table j S) = fun_ext (λ j. line-truth_local W.processes W.start valid r ts us h i W.table j S c a) in
    rw (l, m, v)

-- ---- a new cut
module _ (W : World) (ts : List Event) (e : Event) (t : Ready e (taken ts)) (S : Cut) (c : Consistent ts S) (r : Ready e S) where
  abbrev f : Frontier
  f = frontier_of W ts S

  -- what is read off each process's last event there: the event's for its own processes, what it was for the others
  view_advanced : {A : Type 0} (d : A) (v : Event → A) (p : ℕ) → cond (involved e p) (v e) (of_event d v (event ts p (S p))) ≡ of_event d v (event (e ∷ ts) p (apply e S p))
  view_advanced d v p = go (either (involved e p))
    where
      go : (involved e p ≡ true) ⊎ (involved e p ≡ false) → cond (involved e p) (v e) (of_event d v (event ts p (S p))) ≡ of_event d v (event (e ∷ ts) p (apply e S p))
      go (inl b) = let n : apply e S p ≡ suc (taken ts p) = omega (arith, apply_next e S p b, ready-same e S (taken ts) r t p b) in rw (b, n, event_next e ts p b)
      go (inr b) = rw (b, apply_other e S p b, event_other e ts p (S p) b)

  pub advanced-counts : (advanced (setting_of W ts e) f).counts ≡ list_of W.stored (apply e S)
  unfolding advanced frontier_of apply
  advanced-counts = list_of-same W.stored (apply e (at (list_of W.stored S))) (apply e S) (λ p l. rw (at-list_of W.stored S p l))

  pub advanced_labels : (advanced (setting_of W ts e) f).labels ≡ list_of W.stored (λ p. label_of W.start (e ∷ ts) p (apply e S p))
  unfolding advanced frontier_of label_of
  advanced_labels = list_of-same W.stored (λ p. cond (involved e p) (get_or e.labels p 0) (get_or f.labels p 0)) (λ p. label_of W.start (e ∷ ts) p (apply e S p))
      (λ p l. rw (get_d_list_of W.stored (λ q. label_of W.start ts q (S q)) p 0 l) (view_advanced (W.start p) (λ g. get_or g.labels p 0) p))

  pub advanced_masks : (advanced (setting_of W ts e) f).masks ≡ list_of W.stored (λ p. mask_of (e ∷ ts) p (apply e S p))
  unfolding advanced frontier_of mask_of
  advanced_masks = list_of-same W.stored (λ p. cond (involved e p) e.mask (get_or f.masks p 0)) (λ p. mask_of (e ∷ ts) p (apply e S p))
      (λ p l. rw (get_d_list_of W.stored (λ q. mask_of ts q (S q)) p 0 l) (view_advanced 0 (λ g. g.mask) p))
