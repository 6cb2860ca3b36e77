-- What a take does to a watch written by calls only: what it decides, and the watch after it.
use Rattle.std.specs.Prelude.{ℕ, ◌≤◌, ◌<◌, suc, ◌*◌, ◌≡◌, refl, ◌⊎◌, ◌≢◌, true, false, cond, get_or}
use Rattle.std.proofs.Common.{arith, sym, ◌∙◌, inl, inr}
use Rattle.std.proofs.Math.Path.{ap, fun_ext}
use mathlib.Core.List.Memᴰ
use mathlib.Core.List.{List, [], ◌∷◌, Memᴰ}
use Rattle.std.proofs.Math.Logic.{⊎_elim}
use Rattle.std.proofs.Math.ListN.{length}
use Rattle.pactl.specs.declared.Line.{Line}
use Rattle.clocks.specs.declared.Event.{Event}
use Rattle.frontiers.specs.WindowLaws.{length-window_bytes, replaced-window_bytes}
use Rattle.window_laws.specs.Represents.{Proper, Represents, setting_of}
use Rattle.window_laws.specs.FrontierOf.{World}
use Rattle.frontiers.specs.ListLaws.{place_member}
use Rattle.frontiers.specs.Bytes.{window_bytes, replaced, frontier_length}
use Rattle.clocks.specs.History.{taken, clock_of, last_clock, In}
use Rattle.clocks.specs.Causal.{Causal}
use Rattle.clocks.specs.Event.{Cut, Ready, count, involved, apply}
use Rattle.clocks.specs.Valid.{Takeable, History}
use Rattle.frontiers.specs.declared.Frontier.{Frontier}
use Rattle.window_laws.specs.StepTheorem.{step_represents}
use Rattle.frontiers.specs.Shaped.{AllShaped}
use Rattle.window.specs.Step.{stepped}
use Rattle.clocks.specs.validity.ClockRule.{history_causal}
use Rattle.clocks.specs.cuts.EventLaws.{either, ready_next}
use Rattle.clocks.specs.cuts.Step.{clock_old}
use Rattle.clocks.specs.cuts.HistoryLaws.{taken_next, taken_other, event_next}
use Rattle.clocks.specs.cuts.CausalLaws.{clock_some}
use Rattle.window_laws.specs.Verdict.{some_frontier}
use Rattle.demands.specs.Watching.{Rule, Watching}
use Rattle.records.specs.Record.{removed, counted}
use Rattle.demands.specs.calls.PendingOrder.{remove_ordered, clear_remove, clear_other, remove_e}
use Rattle.demands.specs.Ledger.{Ledger}
use Rattle.demands.specs.Status.{remove_at, Status, record_bytes}
use Rattle.demands.specs.bytes.InsertLaws.{length-remove_at}
use Rattle.demands.specs.bytes.PendingLaws.{removed-record_bytes}
use Rattle.demands.specs.bytes.SetterLaws.{counted-record_bytes}
use Rattle.demands.specs.calls.StoredFits.{proper, kept_shaped, sized, all_shaped}
use Rattle.demands.specs.World.{world_of, status_of, Valid}
use Rattle.demands.specs.bytes.Sized.{Storable, with_pending, Sized}
use Rattle.demands.specs.calls.ValidRule.{valid_rule}

-- an event's clock is the last one of its processes; the others' last clocks are what they were
last_next : (e : Event) (ts : List Event) (p : ℕ)
    → last_clock (e ∷ ts) p ≡ cond (involved e p) (count e) (last_clock ts p)
unfolding last_clock
last_next e ts p = go (either (involved e p))
  where
    go : (involved e p ≡ true) ⊎ (involved e p ≡ false)
        → clock_of (e ∷ ts) p (taken (e ∷ ts) p) ≡ cond (involved e p) (count e) (clock_of ts p (taken ts p))
    go (inl b) =
        rw (b, taken_next e ts p b) (fun_ext (clock_some (e ∷ ts) p (suc (taken ts p)) e (event_next e ts p b)))
    go (inr b) = rw (b, taken_other e ts p b) (fun_ext (clock_old e ts p (taken ts p) (omega arith)))

module _ (w k : ℕ) (table : List Line) (start : Cut) (R : Rule w k table start) (L : Ledger) (bytes window : List ℕ)
    (X : Watching w k table start L bytes window) where
  abbrev ts : List Event
  ts = L.history

  abbrev world : World
  world = world_of k L.closed table start

  P : Proper world Valid ts
  P = proper w k table start R L bytes window X

  -- ---- an event taken
  module _ (i : ℕ) (d : Event) (l : i < length L.pending) where
    abbrev e : Event
    e = get_or L.pending i d

    m : Memᴰ e L.pending
    m = place_member L.pending i d l

    -- ... or gone with a false clock
    module _ (r : Ready e (taken ts)) (n : Valid ts e → ⊥) where
      abbrev without : Ledger
      without = record {
        history = ts;
        pending = remove_at i L.pending;
        falsified = e ∷ L.falsified;
        closed = L.closed;
      }

      pub falsified_watching : (total : ℕ) → length window ≤ total
          → Watching w k table start without (removed w bytes i) (window_bytes w total X.kept)
      falsified_watching total g = record {
        kept = X.kept;
        bytes_are =
            ap (λ (s : List ℕ). removed w s i) X.bytes_are
            ∙ removed-record_bytes w (status_of k table (length X.kept) L)
            (sized w k table start R L bytes window X) i l;
        window_is = ap (λ (t : ℕ). window_bytes w t X.kept) (sym long);
        room = omega (arith, long, X.room);
        few = X.few;
        represents = X.represents;
        right = record {
          by_rule = X.right.by_rule;
          formed = λ f q. X.right.formed f (remove_e i L.pending f q);
          untaken = λ f q. X.right.untaken f (remove_e i L.pending f q);
          was_ready = λ f q. ⊎_elim (λ s. rw s ([], ts, refl, r, n)) (X.right.was_ready f) (Memᴰ.cases_cons q);
          eight = λ f. ⊎_elim (λ q. X.right.eight f (inl q))
              (⊎_elim (λ q. X.right.eight f (inr (inl (remove_e i L.pending f q))))
              (λ q. ⊎_elim (λ s. rw s (X.right.eight e (inr (inl m)))) (λ o. X.right.eight f (inr (inr o)))
              (Memᴰ.cases_cons q)));
        };
        ordered = remove_ordered i L.pending X.ordered;
        clear = clear_remove i L.pending X.clear;
        faultless = λ f. ⊎_elim (λ q. X.faultless f (inl q)) (λ q. X.faultless f (inr (remove_e i L.pending f q)));
        storable = λ f. ⊎_elim (λ q. X.storable f (inl q)) (λ q. X.storable f (inr (remove_e i L.pending f q)));
        many = omega (arith, X.many, length-remove_at i L.pending l);
        closed_below = X.closed_below;
        names_open = λ f q. X.names_open f (remove_e i L.pending f q);
      }
        where
          long : length (window_bytes w total X.kept) ≡ total
          long =
              length-window_bytes w total X.kept (kept_shaped w k table start R L bytes window X)
              (omega (arith, X.room))

    -- ---- taken
    module _ (r : Ready e (taken ts)) (j : Valid ts e) where
      abbrev with_event : Ledger
      with_event = record {
        history = e ∷ ts;
        pending = remove_at i L.pending;
        falsified = L.falsified;
        closed = L.closed;
      }

      tk : Takeable k Valid ts e
      tk = record { formed = X.right.formed e m; ready = r; true_clock = j }

      later : History k Valid (e ∷ ts)
      later = (tk, X.right.by_rule)

      causal : Causal (e ∷ ts)
      causal = history_causal k Valid (valid_rule k) (e ∷ ts) later

      abbrev gs : List Frontier
      gs = stepped (setting_of world ts e) X.kept

      pub stepped_right : Represents world (e ∷ ts) gs
      stepped_right =
          step_represents world Valid ts e P tk (λ p b. rw (X.names_open e m p b) tt) X.kept X.represents

      pub stepped-some : 0 < length gs
      stepped-some =
          let Q : Proper world Valid (e ∷ ts) = record {
            some_process = P.some_process;
            room = P.room;
            rule = P.rule;
            by_rule = later;
            good = P.good;
          } in
          some_frontier world Valid (e ∷ ts) Q gs stepped_right

      storable_later : (f : Event) → In f (e ∷ ts) → Storable w f
      storable_later f q =
          ⊎_elim (λ s. rw s (X.storable e (inr m))) (λ n. X.storable f (inl n)) (Memᴰ.cases_cons q)

      shaped : AllShaped w gs
      shaped =
          all_shaped w (e ∷ ts) causal storable_later k L.closed table start R.short R.labels_fit
          gs stepped_right

      -- the bytes behind the old frontiers were 0, so those behind the new ones are
      pub taken_window : length gs * frontier_length w ≤ length window
          → replaced w window (length X.kept) gs ≡ window_bytes w (length window) gs
      taken_window g =
          ap (λ (v : List ℕ). replaced w v (length X.kept) gs) X.window_is
          ∙ replaced-window_bytes w (length window) X.kept gs (kept_shaped w k table start R L bytes window X) shaped
          X.room g

      -- pending events that are left have other counts than the one taken
      still_untaken : (f : Event) → Memᴰ f (remove_at i L.pending) → (p : ℕ) → involved f p ≡ true
          → taken (e ∷ ts) p < count f p
      still_untaken f q p b = go (either (involved e p))
        where
          go : (involved e p ≡ true) ⊎ (involved e p ≡ false) → taken (e ∷ ts) p < count f p
          go (inr a) = omega (arith, taken_other e ts p a, X.right.untaken f (remove_e i L.pending f q) p b)
          go (inl a) =
              let n : count e p ≢ count f p = clear_other i L.pending d X.clear l f q p a b in
              omega (
                arith,
                n,
                taken_next e ts p a,
                ready_next e (taken ts) r p a,
                X.right.untaken f (remove_e i L.pending f q) p b,
              )

      pub taken_watching : (total : ℕ) → length gs * frontier_length w ≤ total → length gs ≤ 1024
          → Watching w k table start with_event (counted w (removed w bytes i) e (length gs)) (window_bytes w total gs)
      unfolding taken apply
      taken_watching total g few = record {
        kept = gs;
        bytes_are = bytes_right;
        window_is = ap (λ (t : ℕ). window_bytes w t gs) (sym long);
        room = omega (arith, long);
        few = few;
        represents = stepped_right;
        right = record {
          by_rule = later;
          formed = λ f q. X.right.formed f (remove_e i L.pending f q);
          untaken = still_untaken;
          was_ready = λ f q.
              let u = X.right.was_ready f q in
              (e ∷ u.0, u.1, ap (λ (zs : List Event). e ∷ zs) u.2, u.3, u.4);
          eight = λ f.
              ⊎_elim (λ q. ⊎_elim (λ s. rw s (X.right.eight e (inr (inl m)))) (λ o. X.right.eight f (inl o))
              (Memᴰ.cases_cons q))
              (⊎_elim (λ q. X.right.eight f (inr (inl (remove_e i L.pending f q))))
              (λ q. X.right.eight f (inr (inr q))));
        };
        ordered = remove_ordered i L.pending X.ordered;
        clear = clear_remove i L.pending X.clear;
        faultless = λ f.
            ⊎_elim (λ q. ⊎_elim (λ s. rw s (X.faultless e (inr m))) (λ n. X.faultless f (inl n))
            (Memᴰ.cases_cons q))
            (λ q. X.faultless f (inr (remove_e i L.pending f q)));
        storable = λ f. ⊎_elim (storable_later f) (λ q. X.storable f (inr (remove_e i L.pending f q)));
        many = omega (arith, X.many, length-remove_at i L.pending l);
        closed_below = X.closed_below;
        names_open = λ f q. X.names_open f (remove_e i L.pending f q);
      }
        where
          long : length (window_bytes w total gs) ≡ total
          long = length-window_bytes w total gs shaped g

          old : Status
          old = status_of k table (length X.kept) L

          smaller : Status
          smaller = with_pending old (remove_at i L.pending)

          smaller_sized : Sized w smaller
          smaller_sized =
              let z = sized w k table start R L bytes window X in
              record {
                processes_fit = z.processes_fit;
                short = z.short;
                line_bytes = z.line_bytes;
                closed_fits = z.closed_fits;
                kept_fits = z.kept_fits;
                counts_fit = z.counts_fit;
                clocks_fit = z.clocks_fit;
                few = omega (arith, X.many, length-remove_at i L.pending l);
                storable = λ f q. X.storable f (inr (remove_e i L.pending f q));
              }

          bytes_right : counted w (removed w bytes i) e (length gs)
              ≡ record_bytes w (status_of k table (length gs) with_event)
          bytes_right =
              ap (λ (s : List ℕ). counted w (removed w s i) e (length gs)) X.bytes_are
              ∙ ap (λ (s : List ℕ). counted w s e (length gs))
              (removed-record_bytes w old (sized w k table start R L bytes window X) i l)
              ∙ counted-record_bytes w smaller smaller_sized e (length gs) (X.storable e (inr m)).eight_counts
              ∙ ap (λ (c : ℕ → Cut). record_bytes w (record {
                processes = k;
                table = table;
                closed = L.closed;
                kept = length gs;
                counts = taken (e ∷ ts);
                clocks = c;
                pending = remove_at i L.pending;
              }))
              (fun_ext (λ p. sym (last_next e ts p)))
