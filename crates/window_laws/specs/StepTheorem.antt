-- Demand 2 for one step: if a list of frontiers is exactly the kept cuts of a history, each once, ascending, with
-- labels, masks and PaCTL's truth of every line, then so is the stepped list for the history with one more event that
-- could be taken.
use Rattle.std.specs.Prelude.{ℕ, ◌≤◌, ◌<◌, ◌≡◌, Bool, true, ◌↔◌, get_or, replicate}
use Rattle.std.proofs.Common.{arith, ◌∙◌, subst, inl, inr}
use Rattle.std.proofs.Math.Path.{sym, ap, refl, subst⁻¹, ap₂}
use Rattle.std.proofs.Math.Bool.{false}
use mathlib.Core.List.Memᴰ
use mathlib.Core.List.{List, ◌∷◌, [], ◌++◌, map, Memᴰ, append-nil}
use Rattle.std.proofs.Math.Logic.{⊎_elim}
use Rattle.std.proofs.Math.Dec.{T}
use Rattle.std.proofs.Math.Seq.{append_snoc}
use Rattle.clocks.specs.declared.Event.{Event}
use Rattle.clocks.specs.History.{taken, Consistent}
use Rattle.clocks.specs.Causal.{Follows, Causal}
use Rattle.clocks.specs.Event.{Cut, involved, Ready, apply, one}
use Rattle.clocks.specs.validity.ClockRule.{history_causal, taken-silent, consistent-silent}
use Rattle.clocks.specs.Kept.{Kept}
use Rattle.clocks.specs.cuts.EventLaws.{T_true, ready-same, apply_next}
use Rattle.clocks.specs.stored.TestedLaws.{involved_below, ready-test}
use Rattle.clocks.specs.Counts.{at, list_of}
use Rattle.clocks.specs.stored.CountsLaws.{get_d_list_of, at-list_of-all}
use Rattle.clocks.specs.Valid.{WellFormed, Takeable, History}
use Rattle.clocks.specs.cuts.Agree.{agree_old}
use Rattle.clocks.specs.cuts.KeptStep.{new_kept, kept_step}
use Rattle.clocks.specs.cuts.Step.{consistent-old, consistent-new}
use Rattle.window.specs.Step.{Setting, kept_by, stays, enabled_at, advanced, Slot, slot_counts, lay, staying, fresh, Gathered, gathered, judged_by, filtered, merge, slots, stepped}
use Rattle.window_laws.specs.Represents.{open_in, setting_of, Proper, KeptIn, Represents}
use Rattle.window_laws.specs.FrontierOf.{World, frontier_of, Sorted, SortedBy}
use Rattle.frontiers.specs.declared.Frontier.{Frontier}
use Rattle.window_laws.specs.KeptTest.{kept_test}
use Rattle.window_laws.specs.FrontierLaws.{frontier_agree, advanced-counts}
use Rattle.window_laws.specs.MergeLaws.{sorted_front, sorted_back, merge_e, merge_sorted, merge-map, sorted_filtered, sorted_map, merge_i}
use Rattle.window_laws.specs.JudgingNew.{judged_new}
use Rattle.lookup.specs.Order.{before}
use Rattle.window_laws.specs.OrderCuts.{compare_cuts}
use Rattle.lookup.specs.OrderLaws.{before_irrefl, before_trans, before-add}
use Rattle.window.specs.Lists.{filtered_e, filtered_i, filtered-map, map-map, mapped_e, mapped_i}

-- ---- the tests on frontiers say what they should of the cuts
module _ (W : World) (valid : List Event → Event → Type 0) (ts : List Event) (e : Event) (P : Proper W valid ts) (tk : Takeable W.processes valid ts e)
    (opens : (p : ℕ) → involved e p ≡ true → T (open_in W p)) where
  abbrev us : List Event
  us = e ∷ ts

  abbrev s : Setting
  s = setting_of W ts e

  abbrev n : ℕ
  n = W.stored

  later : History W.processes valid us
  later = (tk, P.by_rule)

  causal : Causal us
  causal = history_causal W.processes valid P.rule us later

  follows : Follows ts e
  follows = causal.0

  in_open : (p : ℕ) → involved e p ≡ true → (p < W.processes) × T (open_in W p)
  in_open p b = (involved_below W.processes e tk.formed p b, opens p b)

  old-silent : (S : Cut) → Consistent ts S → (p : ℕ) → n ≤ p → S p ≡ 0
  old-silent S c p l = consistent-silent W.processes valid ts P.by_rule S c p (omega (arith, P.room))

  formed : WellFormed n e
  formed = record {
    occupied = tk.formed.occupied;
    below = λ p l. tk.formed.below p (omega (arith, P.room));
    silent = λ p l. tk.formed.silent p (omega (arith, P.room));
  }

  enabled_test : (S : Cut) → Consistent ts S → T (enabled_at s (frontier_of W ts S)) ↔ Ready e S
  unfolding enabled_at frontier_of
  enabled_test S c = rw (at-list_of-all n S (old-silent S c)) (ready-test n e formed S)

  stays-test : (S : Cut) → Consistent ts S → T (stays s (frontier_of W ts S)) ↔ Kept W.processes (open_in W) us S
  unfolding stays frontier_of
  stays-test S c =
      subst⁻¹
      (λ (C : Cut). T (kept_by n W.processes W.closed (taken us) C) ↔ Kept W.processes (open_in W) us S)
      (at-list_of-all n S (old-silent S c))
      (kept_test n W.processes W.closed us S (old-silent S c)
      (λ p l. taken-silent W.processes valid us later p (omega (arith, P.room))))

  -- ---- what is to be laid down, as cuts
  data CutSlot : Type 0 where
    stayed : Cut → CutSlot
    grown : Cut → CutSlot

  abbrev cut_of : CutSlot → Cut
  cut_of (stayed S) = S
  cut_of (grown S) = apply e S

  abbrev slot_of : CutSlot → Slot
  slot_of (stayed S) = staying (frontier_of W ts S)
  slot_of (grown S) = fresh (advanced s (frontier_of W ts S))

  -- a slot is that of an old kept cut that stays, or of an old kept cut at which the event is enabled
  abbrev Sound : CutSlot → Type 0
  Sound (stayed S) = KeptIn W ts S × Kept W.processes (open_in W) us S
  Sound (grown S) = KeptIn W ts S × Ready e S

  slot_key : (x : CutSlot) → Sound x → slot_counts (slot_of x) ≡ list_of n (cut_of x)
  unfolding slot_counts frontier_of
  slot_key (stayed S) h = refl
  slot_key (grown S) h = advanced-counts W ts e tk.ready S h.0.consistent h.1

  -- ---- laying down is right, slot by slot
  abbrev F : Cut → Frontier
  F = frontier_of W us

  frontier_stays : (S : Cut) → Consistent ts S → frontier_of W ts S ≡ F S
  frontier_stays S c = frontier_agree W valid ts us P.rule P.by_rule later S c (agree_old e ts S c.within)

  -- the kept cuts of the longer history, in order: those laid down and those to come
  record Whole (done : List Cut) (todo : List Cut) : Type 0 where
    sorted : Sorted n (done ++ todo)
    kept : (R : Cut) → Memᴰ R (done ++ todo) → KeptIn W us R
    has : (R : Cut) → KeptIn W us R → Memᴰ R (done ++ todo)

  whole_next : (done : List Cut) (C : Cut) (todo : List Cut) → Whole done (C ∷ todo) → Whole (done ++ (C ∷ [])) todo
  whole_next done C todo w =
      let q : done ++ (C ∷ []) ++ todo ≡ done ++ (C ∷ todo) = append_snoc done C todo in
      record { sorted = rw q w.sorted; kept = rw q w.kept; has = rw q w.has }

  -- a kept cut before the next one has been laid down
  before-done : (done : List Cut) (C : Cut) (todo : List Cut) → Whole done (C ∷ todo) → (R : Cut) → KeptIn W us R → T (before (list_of n R) (list_of n C)) → Memᴰ R done
  before-done done C todo w R k b = ⊎_elim (λ m. m) (λ m. absurd (⊎_elim equal later_one (Memᴰ.cases_cons m))) (Memᴰ.append_cases done (w.has R k))
    where
      equal : R ≡ C → ⊥
      equal q = before_irrefl (list_of n C) (rw q at b)

      later_one : Memᴰ R todo → ⊥
      later_one m = before_irrefl (list_of n R) (before_trans (list_of n R) (list_of n C) (list_of n R) b ((sorted_back (list_of n) done (C ∷ todo) w.sorted).0 R m))

  map_push : (done : List Cut) (f : Frontier) (C : Cut) → f ≡ F C → map F done ++ (f ∷ []) ≡ map F (done ++ (C ∷ []))
  map_push [] f C q = rw q
  map_push (D ∷ done) f C q = ap (λ (l : List Frontier). F D ∷ l) (map_push done f C q)

  lay_right : (todo : List CutSlot) (done : List Cut) (hints : List ℕ) → ((x : CutSlot) → Memᴰ x todo → Sound x) → Whole done (map cut_of todo)
      → lay s (map F done) hints (map slot_of todo) ≡ map F (done ++ map cut_of todo)
  unfolding lay
  lay_right [] done hints sound w = ap (map F) (sym (append-nil done))
  lay_right (stayed S ∷ todo) done hints sound w =
      let h : Sound (stayed S) = sound (stayed S) (Memᴰ.head refl) in
      let q : map F done ++ (frontier_of W ts S ∷ []) ≡ map F (done ++ (S ∷ [])) = map_push done (frontier_of W ts S) S (frontier_stays S h.0.consistent) in
      rw q (lay_right todo (done ++ (S ∷ [])) hints (λ x m. sound x (Memᴰ.tail m)) (whole_next done S (map cut_of todo) w))
      ∙ ap (map F) (append_snoc done S (map cut_of todo))
  lay_right (grown S ∷ todo) done hints sound w =
      let h : Sound (grown S) = sound (grown S) (Memᴰ.head refl) in
      let C : Cut = apply e S in
      let g : Frontier = advanced s (frontier_of W ts S) in
      let G : Gathered = gathered s (map F done) hints g W.processes in
      let j : judged_by s g G ≡ F C = judged_new W valid ts e P tk opens S h.0.consistent h.1 done
      (sorted_front (list_of n) done (C ∷ map cut_of todo) w.sorted)
      (λ R m. w.kept R (Memᴰ.append_left (C ∷ map cut_of todo) m))
      (before-done done C (map cut_of todo) w) hints in
      let q : map F done ++ (judged_by s g G ∷ []) ≡ map F (done ++ (C ∷ [])) = map_push done (judged_by s g G) C j in
      rw q (lay_right todo (done ++ (C ∷ [])) G.hints (λ x m. sound x (Memᴰ.tail m)) (whole_next done C (map cut_of todo) w))
      ∙ ap (map F) (append_snoc done C (map cut_of todo))

  -- ---- the slots of a window that holds the kept cuts
  module _ (fs : List Frontier) (R : Represents W ts fs) where
    abbrev F₀ : Cut → Frontier
    F₀ = frontier_of W ts

    stays_cut : Cut → Bool
    stays_cut S = stays s (F₀ S)

    grows_cut : Cut → Bool
    grows_cut S = enabled_at s (F₀ S)

    A : List Cut
    A = filtered stays_cut R.cuts

    B : List Cut
    B = filtered grows_cut R.cuts

    key : CutSlot → List ℕ
    key x = slot_counts (slot_of x)

    todo : List CutSlot
    todo = merge key (map stayed A) (map grown B)

    slots_are : slots s fs ≡ map slot_of todo
    unfolding slots todo A B stays_cut grows_cut key
    slots_are =
        ap (slots s) R.are
        ∙ ap₂ (merge slot_counts)
        (ap (map staying) (filtered-map F₀ (stays s) stays_cut R.cuts (λ S m. refl)) ∙ map-map staying F₀ A ∙ sym (map-map slot_of stayed A))
        (ap (map (λ f. fresh (advanced s f))) (filtered-map F₀ (enabled_at s) grows_cut R.cuts (λ S m. refl)) ∙ map-map (λ f. fresh (advanced s f)) F₀ B ∙ sym (map-map slot_of grown B))
        ∙ merge-map slot_of slot_counts (map stayed A) (map grown B)

    in_A : (S : Cut) → Memᴰ S A → Sound (stayed S)
    unfolding A stays_cut
    in_A S m = let w = filtered_e stays_cut R.cuts S m in (R.kept S w.0, (stays-test S (R.kept S w.0).consistent).0 w.1)

    in_B : (S : Cut) → Memᴰ S B → Sound (grown S)
    unfolding B grows_cut
    in_B S m = let w = filtered_e grows_cut R.cuts S m in (R.kept S w.0, (enabled_test S (R.kept S w.0).consistent).0 w.1)

    sound : (x : CutSlot) → Memᴰ x todo → Sound x
    unfolding todo
    sound x m = ⊎_elim
        (λ k. let w = mapped_e stayed A x k in rw w.2 (in_A w.0 w.1))
        (λ k. let w = mapped_e grown B x k in rw w.2 (in_B w.0 w.1))
        (merge_e key (map stayed A) (map grown B) x m)

    key_is : (x : CutSlot) → Sound x → key x ≡ list_of n (cut_of x)
    unfolding key
    key_is x h = slot_key x h

    -- one order for the cuts and for where the event leads from them
    grown_order : (S Q : Cut) → T (before (list_of n S) (list_of n Q)) → T (before (list_of n (apply e S)) (list_of n (apply e Q)))
    unfolding apply
    grown_order S Q t = rw (before-add n (λ p. one (involved e p)) S Q) t

    -- an old cut is no new one: it lacks the event
    old-new : (S Q : Cut) → Consistent ts S → Ready e Q → list_of n S ≡ list_of n (apply e Q) → ⊥
    old-new S Q c r q =
        let o : ℕ = f.occupied.0 in
        let b : involved e o ≡ true = T_true (involved e o) f.occupied.1 in
        let l : o < n = involved_below n e f o b in
        omega (arith, sym (get_d_list_of n S o 0 l) ∙ ap (λ (xs : List ℕ). get_or xs o 0) q ∙ get_d_list_of n (apply e Q) o 0 l, c.within o, apply_next e Q o b, ready-same e Q (taken ts) r tk.ready o b)
      where
        f : WellFormed n e
        f = formed

    todo_sorted : SortedBy key todo
    unfolding todo
    todo_sorted = merge_sorted key (map stayed A) (map grown B)
        (sorted_map (list_of n) key stayed A (λ S Q m k t. rw (key_is (stayed S) (in_A S m), key_is (stayed Q) (in_A Q k)) t) (unfold A in (sorted_filtered (list_of n) stays_cut R.cuts R.sorted)))
        (sorted_map (list_of n) key grown B (λ S Q m k t. rw (key_is (grown S) (in_B S m), key_is (grown Q) (in_B Q k)) (grown_order S Q t)) (unfold B in (sorted_filtered (list_of n) grows_cut R.cuts R.sorted)))
        apart
      where
        apart : (x y : CutSlot) → Memᴰ x (map stayed A) → Memᴰ y (map grown B) → before (key y) (key x) ≡ false → T (before (key x) (key y))
        apart x y m k h =
            let a = mapped_e stayed A x m in
            let b = mapped_e grown B y k in
            let p : key x ≡ list_of n a.0 = ap key a.2 ∙ key_is (stayed a.0) (in_A a.0 a.1) in
            let q : key y ≡ list_of n (apply e b.0) = ap key b.2 ∙ key_is (grown b.0) (in_B b.0 b.1) in
            rw (p, q) (⊎_elim (λ t. t) (⊎_elim (λ z. absurd (old-new a.0 b.0 (in_A a.0 a.1).0.consistent (in_B b.0 b.1).1 z)) (λ t. absurd (subst T (rw (p, q) at h) t)))
            (compare_cuts n a.0 (apply e b.0)))

    -- ---- the cuts to be laid down are the kept cuts of the longer history
    todo_kept : (C : Cut) → Memᴰ C (map cut_of todo) → KeptIn W us C
    todo_kept C m = let w = mapped_e cut_of todo C m in rw w.2 (each w.0 (sound w.0 w.1))
      where
        each : (x : CutSlot) → Sound x → KeptIn W us (cut_of x)
        each (stayed S) h = record { consistent = consistent-old e ts S h.0.consistent; kept = h.1 }
        each (grown S) h = record { consistent = consistent-new e ts S tk.ready h.0.consistent h.1; kept = new_kept W.processes (open_in W) e ts follows in_open S h.1 }

    todo_has : (C : Cut) → KeptIn W us C → Memᴰ C (map cut_of todo)
    unfolding todo A B stays_cut grows_cut
    todo_has C k = ⊎_elim
        (λ w. mapped_i cut_of todo (stayed C) (merge_i key (map stayed A) (map grown B) (stayed C) (inl (mapped_i stayed A C
        (filtered_i stays_cut R.cuts C (R.complete C w.0) ((stays-test C w.0.consistent).1 w.1))))))
        (λ w. rw w.3 (mapped_i cut_of todo (grown w.0) (merge_i key (map stayed A) (map grown B) (grown w.0) (inr (mapped_i grown B w.0
        (filtered_i grows_cut R.cuts w.0 (R.complete w.0 w.1) ((enabled_test w.0 w.1.consistent).1 w.2)))))))
        ((kept_step W.processes (open_in W) e ts follows in_open causal.1 C).0 k)

    cuts_sorted : Sorted n (map cut_of todo)
    cuts_sorted = sorted_map key (list_of n) cut_of todo (λ x y a b t. rw (key_is x (sound x a), key_is y (sound y b)) at t) todo_sorted

    -- ---- Theorem
    pub step_represents : Represents W us (stepped s fs)
    unfolding stepped
    step_represents = record {
      cuts = map cut_of todo;
      are = ap (lay s [] (replicate n 0)) slots_are ∙ lay_right todo [] (replicate n 0) sound (record { sorted = cuts_sorted; kept = todo_kept; has = todo_has });
      sorted = cuts_sorted;
      kept = todo_kept;
      complete = todo_has;
    }
