-- Judging a new frontier: what is gathered from the frontiers laid down before it is gathered from exactly the cuts
-- that precede it, so the judged frontier is the cut's own.
use Prim.Native.Nat.{ℕ, ◌≤◌, ◌<◌, suc, zero}
use Rattle.std.proofs.Common.{arith, sym, ◌∙◌, inr, ltb→lt, lt→ltb, T_not, eq-eqb, ne_eqb}
use Rattle.std.proofs.Math.Decide.{dec_lt}
use Rattle.std.specs.Prelude.{◌≡◌, true, false, not, ◌&&◌, Bool, ◌⊎◌, ◌≢◌, eqb, ltb, length}
use Rattle.std.proofs.Math.Path.{ap, refl, subst, subst⁻¹}
use mathlib.Core.List.{List, ◌∷◌, map, Memᴰ}
use Rattle.std.proofs.Math.Logic.{inl, ⊎_elim}
use Rattle.std.proofs.Math.Dec.{T}
use Rattle.std.proofs.Math.ListN.{get_or}
use Rattle.std.proofs.lemmas.List.{length-map}
use Rattle.std.specs.Int.Count.{count_trailing_zeros}
use Rattle.clocks.specs.declared.Event.{Event}
use Rattle.pactl.specs.ModelCuts.{Ruled, Leads}
use Rattle.pactl.specs.Truth.{Model, line_truth}
use Rattle.clocks.specs.History.{mask_of, Consistent, of_event, taken, event, label_of}
use Rattle.clocks.specs.Causal.{Follows, Causal}
use Rattle.clocks.specs.Event.{Cut, involved, Ready, apply, minus, less}
use Rattle.clocks.specs.validity.ClockRule.{history_causal, consistent-silent}
use Rattle.clocks.specs.cuts.PrecedingStep.{origin_precedes, precedes_new}
use Rattle.clocks.specs.cuts.Preceding.{mask_precedes, precedes_last}
use Rattle.clocks.specs.cuts.Step.{consistent-new, Advanced}
use Rattle.clocks.specs.Counts.{at, list_of}
use Rattle.clocks.specs.stored.CountsLaws.{get_d_list_of, list_of-same, at-list_of}
use Rattle.clocks.specs.Valid.{WellFormed, Takeable, History}
use Rattle.clocks.specs.cuts.EventLaws.{either, true-T, ready-same, apply_next, apply_up, less-minus, less-apply}
use Rattle.clocks.specs.stored.TestedLaws.{in_takeable, involved_below}
use Rattle.clocks.specs.stored.BoundedLaws.{and_l, and_r}
use Rattle.clocks.specs.cuts.HistoryLaws.{event-zero, event_next}
use Rattle.codec.specs.Bit.{bit}
use Rattle.clocks.specs.cuts.KeptStep.{new_kept}
use Rattle.clocks.specs.cuts.CausalLaws.{mask_some}
use Rattle.clocks.specs.cuts.Agree.{agree_old}
use Rattle.pactl.specs.Judge.{judge}
use Rattle.pactl.specs.JudgeLaws.{judge_above}
use Rattle.pactl.specs.JudgeTruth.{Preceding, LabelsAt, judged_right}
use Rattle.frontiers.specs.declared.Frontier.{Frontier}
use Rattle.window_laws.specs.FrontierLaws.{advanced-counts, advanced_masks, bit-word_of, frontier_agree, word_is, advanced_labels}
use Rattle.window.specs.Step.{Setting, advanced, sought, without_last, Gathered, consider, gathered, values_at, judged_by}
use Rattle.lookup.specs.Seek.{keys_of, seek}
use Rattle.window_laws.specs.Represents.{open_in, KeptIn, setting_of, Proper}
use Rattle.window_laws.specs.FrontierOf.{World, model_of, frontier_of, Sorted, word_of}
use Rattle.window_laws.specs.FoundLaid.{found_e, found_i}
use Rattle.window_laws.specs.OrderCuts.{before_pointwise}
use Rattle.window_laws.specs.StoredCuts.{list_of_injective, first_process}
use Rattle.window_laws.specs.GatheredBits.{Gathers, gathers_same, gathers_added}
use Rattle.std.proofs.Math.Option.{some}
use Rattle.lookup.specs.Order.{before}

module _ (W : World) (valid : List Event → Event → Type 0) (ts : List Event) (e : Event) (P : Proper W valid ts) (tk : Takeable W.processes valid ts e)
    (opens : (p : ℕ) → involved e p ≡ true → T (open_in W p)) (S₀ : Cut) (c₀ : Consistent ts S₀) (r₀ : Ready e S₀) where
  abbrev us : List Event
  us = e ∷ ts

  abbrev S : Cut
  S = apply e S₀

  abbrev M : Model
  M = model_of W us

  abbrev s : Setting
  s = setting_of W ts e

  -- the new frontier, not judged yet
  abbrev g : Frontier
  g = advanced s (frontier_of W ts S₀)

  later : History W.processes valid us
  later = (tk, P.by_rule)

  causal : Causal us
  causal = history_causal W.processes valid P.rule us later

  ruled : Ruled M valid
  ruled = record { rule = P.rule; by_rule = later }

  follows : Follows ts e
  follows = causal.0

  new_cut : Consistent us S
  new_cut = consistent-new e ts S₀ tk.ready c₀ r₀

  silent : (R : Cut) → Consistent us R → (p : ℕ) → W.stored ≤ p → R p ≡ 0
  silent R c p l = consistent-silent W.processes valid us later R c p (omega (arith, P.room))

  in_open : (p : ℕ) → involved e p ≡ true → (p < W.processes) × T (open_in W p)
  in_open p b = (involved_below W.processes e tk.formed p b, opens p b)

  -- ---- the masks of the new frontier, and the counts less them
  mask_at : (p : ℕ) → p < W.stored → get_or g.masks p 0 ≡ mask_of us p (S p)
  mask_at p l = ap (λ (xs : List ℕ). get_or xs p 0) (advanced_masks W ts e tk.ready S₀ c₀ r₀) ∙ get_d_list_of W.stored (λ q. mask_of us q (S q)) p 0 l

  without_is : (p : ℕ) → p < W.stored → without_last s g p ≡ list_of W.stored (minus (mask_of us p (S p)) S)
  unfolding without_last minus
  without_is p l = rw (mask_at p l, advanced-counts W ts e tk.ready S₀ c₀ r₀)
      (list_of-same W.stored (minus (mask_of us p (S p)) (at (list_of W.stored S))) (minus (mask_of us p (S p)) S) (λ q k. rw (at-list_of W.stored S q k)))

  -- ---- the frontiers laid down: kept cuts, and all kept cuts before the new one
  module _ (laid : List Cut) (sorted : Sorted W.stored laid) (kept : (R : Cut) → Memᴰ R laid → KeptIn W us R)
      (has : (R : Cut) → KeptIn W us R → T (before (list_of W.stored R) (list_of W.stored S)) → Memᴰ R laid) where
    abbrev frontiers_laid : List Frontier
    frontiers_laid = map (frontier_of W us) laid

    -- the cuts gathered from when the first q processes were considered
    abbrev From : ℕ → Cut → Type 0
    From q S' = (S' ≡ S₀) ⊎ ((p : ℕ) × (p < q) × T (sought s g p) × Memᴰ S' laid × (without_last s g p ≡ list_of W.stored S'))

    -- ---- they precede
    minus-silent : (p q : ℕ) → W.stored ≤ q → minus (mask_of us p (S p)) S q ≡ 0
    unfolding minus
    minus-silent p q l = omega (arith, silent S new_cut q l)

    -- a mask that is not 0 is that of an event
    counted : (p : ℕ) → p < W.stored → T (sought s g p) → 0 < S p
    unfolding sought mask_of
    counted p l t = go (dec_lt 0 (S p))
      where
        m : ℕ
        m = get_or g.masks p 0

        go : Dec (0 < S p) → 0 < S p
        go (yes k) = k
        go (no k) =
            let z : S p ≡ 0 = omega arith in
            let n : m ≡ 0 = mask_at p l ∙ ap (λ (x : ℕ). mask_of us p x) z ∙ ap (of_event 0 (λ (f : Event). f.mask)) (event-zero us p) in
            absurd (T_not (eqb m 0) (and_l (not (eqb m 0)) (eqb (count_trailing_zeros W.stored m) p) (and_r (not (involved e p)) (not (eqb m 0) && eqb (count_trailing_zeros W.stored m) p) t)) (true-T (eq-eqb m 0 n)))

    from_leads : (S' : Cut) → From W.processes S' → Leads M S' S
    from_leads S' (inl q) = rw q (origin_precedes e ts S₀ c₀ r₀)
    from_leads S' (inr w) =
        let p = w.0 in
        let within : p < W.stored = omega (arith, w.1, P.room) in
        let same : S' ≡ minus (mask_of us p (S p)) S =
        list_of_injective W.stored S' (minus (mask_of us p (S p)) S) (silent S' (kept S' w.3).consistent) (minus-silent p) (sym w.4 ∙ without_is p within) in
        rw same ((mask_precedes us causal S new_cut p (counted p within w.2)).1 (rw same at (kept S' w.3).consistent))

    -- ---- and nothing else precedes
    -- an old event's first process is considered, and what it leads from stands before the new cut
    leads_from : (S' : Cut) → Leads M S' S → From W.processes S'
    unfolding sought
    leads_from S' l = ⊎_elim inl (λ a. new a (either (involved e first))) (precedes_new e ts causal.1 follows S₀ S' r₀ l)
      where
        f : Event
        f = l.by

        first : ℕ
        first = count_trailing_zeros W.stored f.mask

        formed_f : WellFormed W.processes f
        formed_f = in_takeable W.processes valid us later f l.among

        -- it is below the number stored, it takes part, and the mask is not 0
        lowest : (first < W.stored) × (involved f first ≡ true) × (f.mask ≢ 0)
        lowest = first_process W.stored W.processes f P.room formed_f

        last : (event us first (S first) ≡ some f) × (S' ≡ less f S)
        last = precedes_last us causal S' S l first lowest.1

        -- the event itself: it leads here only from where it did
        own : involved e first ≡ true → S' ≡ S₀
        own b =
            let n : S first ≡ suc (taken ts first) = omega (arith, apply_next e S₀ first b, ready-same e S₀ (taken ts) r₀ tk.ready first b) in
            let h : event us first (S first) ≡ some e = rw n (event_next e ts first b) in
            let i : some f ≡ some e = sym last.0 ∙ h in
            let q : f ≡ e = cc in
            last.1 ∙ ap (λ (x : Event). less x S) q ∙ less-apply e S₀

        mask_first : get_or g.masks first 0 ≡ f.mask
        mask_first = mask_at first lowest.0 ∙ mask_some us first (S first) f last.0

        seen : involved e first ≡ false → T (sought s g first)
        seen b = rw (b, mask_first, ne_eqb f.mask 0 lowest.2, eq-eqb first first refl) tt

        standing : Advanced ts e S' → Memᴰ S' laid
        standing a = has S'
            (record { consistent = l.before; kept = rw a.leads (new_kept W.processes (open_in W) e ts follows in_open a.from a.enabled) })
            (before_pointwise W.stored S' S (λ p. omega (arith, ap (λ (R : Cut). R p) l.leads, apply_up f S' p)) first lowest.0
            (omega (arith, ap (λ (R : Cut). R first) l.leads, apply_next f S' first lowest.1)))

        new : Advanced ts e S' → (involved e first ≡ true) ⊎ (involved e first ≡ false) → From W.processes S'
        new a (inl b) = inl (own b)
        new a (inr b) = inr (
          first,
          involved_below W.processes f formed_f first lowest.1,
          seen b,
          standing a,
          without_is first lowest.0 ∙ ap (λ (x : ℕ). list_of W.stored (minus x S)) (mask_some us first (S first) f last.0) ∙ ap (list_of W.stored) (sym (less-minus f S) ∙ sym last.1),
        )

    -- ---- what is gathered, bit by bit
    value-bit : (R : Cut) (i : ℕ) → i < length W.table → bit (frontier_of W us R).values i ≡ line_truth M W.table i R
    unfolding frontier_of
    value-bit R i l = bit-word_of (length W.table) (λ j. line_truth M W.table j R) i l

    -- the frontier that the new one came from has the same values in the longer history
    origin_values : g.values ≡ (frontier_of W us S₀).values
    unfolding advanced
    origin_values = ap (λ (f : Frontier). f.values) (frontier_agree W valid ts us P.rule P.by_rule later S₀ c₀ (agree_old e ts S₀ c₀.within))

    abbrev Some : ℕ → ℕ → Type 0
    Some q i = (S' : Cut) × From q S' × T (line_truth M W.table i S')

    abbrev All : ℕ → ℕ → Type 0
    All q i = (S' : Cut) → From q S' → T (line_truth M W.table i S')

    -- one more process: what it adds, if anything
    from_more : (p : ℕ) (S' : Cut) → From p S' → From (suc p) S'
    from_more p S' (inl q) = inl q
    from_more p S' (inr w) = inr (w.0, omega (arith, w.1), w.2, w.3, w.4)

    from_cases : (p : ℕ) (S' : Cut) → From (suc p) S' → From p S' ⊎ (T (sought s g p) × Memᴰ S' laid × (without_last s g p ≡ list_of W.stored S'))
    from_cases p S' (inl q) = inl (inl q)
    from_cases p S' (inr w) = go (dec_lt w.0 p)
      where
        go : Dec (w.0 < p) → From p S' ⊎ (T (sought s g p) × Memᴰ S' laid × (without_last s g p ≡ list_of W.stored S'))
        go (yes l) = inl (inr (w.0, l, w.2, w.3, w.4))
        go (no l) = let q : w.0 ≡ p = omega (arith, w.1) in inr (subst (λ (x : ℕ). T (sought s g x)) q w.2, w.3, ap (without_last s g) (sym q) ∙ w.4)

    module _ (hints : List ℕ) where
      abbrev G : ℕ → Gathered
      G q = gathered s frontiers_laid hints g q

      abbrev Right : ℕ → ℕ → Type 0
      Right q i = Gathers (line_truth M W.table i) (From q) i (G q).ors (G q).ands

      right_start : (i : ℕ) → i < length W.table → Right 0 i
      unfolding gathered
      right_start i l =
          let v : bit g.values i ≡ line_truth M W.table i S₀ = ap (λ (x : ℕ). bit x i) origin_values ∙ value-bit S₀ i l in
          record {
            some_has = ((λ t. (S₀, inl refl, subst T v t)), λ w. subst⁻¹ T v (only w));
            all_have = ((λ t S' w. subst T (v ∙ ap (line_truth M W.table i) (sym (origin S' w))) t), λ h. subst⁻¹ T v (h S₀ (inl refl)));
          }
        where
          origin : (S' : Cut) → From 0 S' → S' ≡ S₀
          origin S' (inl q) = q
          origin S' (inr w) = absurd (omega (arith, w.1))

          only : Some 0 i → T (line_truth M W.table i S₀)
          only w = subst T (ap (line_truth M W.table i) (origin w.0 w.1)) w.2

      right_more : (p i : ℕ) → i < length W.table → Right p i → Right (suc p) i
      unfolding gathered consider
      right_more p i l r = go (sought s g p) refl (ltb place (length frontiers_laid)) refl
        where
          key : List ℕ
          key = without_last s g p

          hint : ℕ
          hint = get_or (G p).hints p 0

          place : ℕ
          place = seek (keys_of frontiers_laid) key hint

          many : length frontiers_laid ≡ length laid
          many = length-map laid (frontier_of W us)

          go : (b : Bool) → sought s g p ≡ b → (d : Bool) → ltb place (length frontiers_laid) ≡ d → Right (suc p) i
          go false b d k = gathers_same (line_truth M W.table i) (From p) (From (suc p)) i (G p).ors (G p).ands (G (suc p)).ors (G (suc p)).ands (rw b) (rw b) (from_more p) (λ S' w. ⊎_elim (λ x. x) (λ x. absurd (subst T b x.0)) (from_cases p S' w)) r
          go true b false k = gathers_same (line_truth M W.table i) (From p) (From (suc p)) i (G p).ors (G p).ands (G (suc p)).ors (G (suc p)).ands (rw (b, k)) (rw (b, k)) (from_more p)
              (λ S' w. ⊎_elim (λ x. x) (λ x. absurd (missing S' x.1 x.2)) (from_cases p S' w)) r
            where
              missing : (S' : Cut) → Memᴰ S' laid → key ≡ list_of W.stored S' → ⊥
              missing S' m q = subst T k (lt→ltb place (length frontiers_laid) (omega (arith, many, rw (← q) at (found_i W us laid sorted S' m hint))))
          go true b true k =
              let w = found_e W us laid sorted key hint (omega (arith, many, ltb→lt place (length frontiers_laid) (true-T k))) in
              gathers_added (line_truth M W.table i) (From p) (From (suc p)) i (G p).ors (G p).ands (G (suc p)).ors (G (suc p)).ands w.0 (values_at frontiers_laid place) (rw (b, k)) (rw (b, k)) (from_more p) (ap (λ (x : ℕ). bit x i) w.3 ∙ value-bit w.0 i l)
              (inr (p, omega arith, true-T b, w.1, w.2))
              (λ S' x. ⊎_elim (λ y. inl y) (λ y. inr (only w.0 w.1 w.2 S' y.1 y.2)) (from_cases p S' x)) r
            where
              only : (R : Cut) → Memᴰ R laid → key ≡ list_of W.stored R → (S' : Cut) → Memᴰ S' laid → key ≡ list_of W.stored S' → S' ≡ R
              only R m q S' n x = list_of_injective W.stored S' R (silent S' (kept S' n).consistent) (silent R (kept R m).consistent) (sym x ∙ q)

      right : (q i : ℕ) → i < length W.table → Right q i
      right zero i l = right_start i l
      right (suc p) i l = right_more p i l (right p i l)

      preceding : Preceding M W.table S (G W.processes).ors (G W.processes).ands true
      preceding = record {
        some_has = λ i l. (
          (λ t. let w = (right W.processes i l).some_has.0 t in (w.0, from_leads w.0 w.1, w.2)),
          λ w. (right W.processes i l).some_has.1 (w.0, leads_from w.0 w.1, w.2),
        );
        all_have = λ _ i l. (
          (λ t S' k. (right W.processes i l).all_have.0 t S' (leads_from S' k)),
          λ h. (right W.processes i l).all_have.1 (λ S' w. h S' (from_leads S' w)),
        );
        some_precedes = ((λ t. (S₀, origin_precedes e ts S₀ c₀ r₀)), λ w. tt);
      }

      labels_at : LabelsAt M S g.labels
      labels_at p l = ap (λ (xs : List ℕ). get_or xs p 0) (advanced_labels W ts e tk.ready S₀ c₀ r₀)
          ∙ get_d_list_of W.stored (λ q. label_of W.start us q (S q)) p 0 (omega (arith, P.room))

      judged_values : judge g.labels (G W.processes).ors (G W.processes).ands true W.table ≡ word_of (length W.table) (λ i. line_truth M W.table i S)
      judged_values = word_is (length W.table) (λ i. line_truth M W.table i S) (judge g.labels (G W.processes).ors (G W.processes).ands true W.table)
          (λ i l. judged_right M valid ruled W.table P.good S new_cut g.labels labels_at (G W.processes).ors (G W.processes).ands true preceding i l)
          (λ i l. judge_above g.labels (G W.processes).ors (G W.processes).ands true W.table i l)

      -- ---- Theorem
      pub judged_new : judged_by s g (gathered s frontiers_laid hints g W.processes) ≡ frontier_of W us S
      unfolding judged_by frontier_of
      judged_new = rw (judged_values, advanced_labels W ts e tk.ready S₀ c₀ r₀, advanced_masks W ts e tk.ready S₀ c₀ r₀, advanced-counts W ts e tk.ready S₀ c₀ r₀)
