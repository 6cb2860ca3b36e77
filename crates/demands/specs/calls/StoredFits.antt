-- What a watch stores fits its bytes: the counts, clocks and frontiers made from events that fit; and what the
-- invariant says at once.
use Rattle.std.specs.Prelude.{ℕ, ◌^◌, ◌≤◌, ◌<◌, ◌≡◌, refl, List, length}
use native.Mathlib.Omega.{arith}
use Rattle.std.proofs.Math.Decide.{dec_lt}
use Rattle.std.proofs.Common.{inl, inr}
use Rattle.std.proofs.Math.Option.{Option, none, some}
use Rattle.std.proofs.Math.ListN.{get_or}
use Rattle.std.proofs.Math.Pow.{pow_mono}
use Rattle.frontiers.specs.declared.Frontier.{Frontier}
use Rattle.pactl.specs.declared.Line.{Line}
use Rattle.clocks.specs.declared.Event.{Event}
use Rattle.codec.specs.LittleLaws.{pow_256_pos}
use Rattle.window_laws.specs.Represents.{Represents, Proper}
use Rattle.window_laws.specs.FrontierOf.{World, model_of, frontier_of}
use Rattle.clocks.specs.Event.{count, Cut}
use Rattle.clocks.specs.History.{taken, clock_of, last_clock, event, of_event, mask_of, label_of, Consistent, In}
use Rattle.clocks.specs.Causal.{Causal}
use Rattle.clocks.specs.validity.ClockRule.{history_causal}
use Rattle.clocks.specs.cuts.HistoryLaws.{event_exists, event_numbered}
use Rattle.clocks.specs.Valid.{History}
use Rattle.clocks.specs.cuts.CausalLaws.{clock_some, clock_cases, count-number}
use Rattle.window_laws.specs.FrontierLaws.{word_of-lt}
use Rattle.window.specs.Lists.{mapped_e}
use Rattle.frontiers.specs.Shaped.{Shaped, AllShaped}
use Rattle.pactl.specs.Truth.{line_truth}
use Rattle.clocks.specs.Counts.{at, list_of}
use Rattle.clocks.specs.stored.CountsLaws.{length-list_of, at-list_of, at_beyond}
use Rattle.demands.specs.Ledger.{Ledger}
use Rattle.demands.specs.Watching.{Rule, Watching}
use Rattle.demands.specs.World.{world_of, status_of, Valid}
use Rattle.demands.specs.bytes.Sized.{Storable, Sized}
use Rattle.demands.specs.calls.ValidRule.{valid_rule}

-- ---- stored events fit: so do the counts, clocks and frontiers made from them
module _ (w : ℕ) (ts : List Event) (c : Causal ts) (s : (e : Event) → In e ts → Storable w e) where
  pub clock_fits : (p n q : ℕ) → clock_of ts p n q < 256 ^ w
  unfolding count
  clock_fits p n q =
      clock_cases (λ x. x < 256 ^ w) ts p n q (pow_256_pos w)
      (λ f h. (s f (event_numbered ts p n f h).among).counts_fit q)

  pub taken-fits : (p : ℕ) → taken ts p < 256 ^ w
  taken-fits p = go (dec_lt 0 (taken ts p))
    where
      go : Dec (0 < taken ts p) → taken ts p < 256 ^ w
      go (yes l) = let f = event_exists ts p (taken ts p) l (omega arith) in
          omega (
            arith,
            clock_fits p (taken ts p) p,
            clock_some ts p (taken ts p) f.0 f.1 p,
            count-number ts c p (taken ts p) f.0 f.1,
          )
      go (no l) = omega (arith, pow_256_pos w)

  -- what is read off a last event is a byte where the event's is
  view_fits : (d : ℕ) (v : Event → ℕ) (b p n : ℕ) → d < b → ((f : Event) → Storable w f → v f < b)
      → of_event d v (event ts p n) < b
  view_fits d v b p n l h = go (event ts p n) refl
    where
      go : (o : Option Event) → event ts p n ≡ o → of_event d v o < b
      go none q = l
      go (some f) q = h f (s f (event_numbered ts p n f q).among)

  list-fits : (f : ℕ → ℕ) (b p : ℕ) → 0 < b → ((q : ℕ) → f q < b) → at (list_of 8 f) p < b
  list-fits f b p l h = go (dec_lt p 8)
    where
      go : Dec (p < 8) → at (list_of 8 f) p < b
      go (yes j) = rw (at-list_of 8 f p j) (h p)
      go (no j) = rw (at_beyond (list_of 8 f) p (omega (arith, length-list_of 8 f))) l

  pub frontier_shaped : (k closed : ℕ) (table : List Line) (start : Cut) → length table ≤ 64 → ((p : ℕ) → start p < 256)
      → (S : Cut) → Consistent ts S → Shaped w (frontier_of (world_of k closed table start) ts S)
  unfolding frontier_of label_of mask_of
  frontier_shaped k closed table start short labels S e = record {
    eight_counts = length-list_of 8 S;
    counts_fit = λ p. list-fits S (256 ^ w) p (pow_256_pos w) (λ q. omega (arith, e.within q, taken-fits q));
    eight_labels = length-list_of 8 (λ p. label_of start ts p (S p));
    labels_fit = λ i.
        list-fits (λ p. label_of start ts p (S p)) 256 i (omega arith)
        (λ q. view_fits (start q) (λ f. get_or f.labels q 0) 256 q (S q) (labels q) (λ f t. t.labels_fit q));
    eight_masks = length-list_of 8 (λ p. mask_of ts p (S p));
    masks_fit = λ i.
        list-fits (λ p. mask_of ts p (S p)) 256 i (omega arith)
        (λ q. view_fits 0 (λ f. f.mask) 256 q (S q) (omega arith) (λ f t. t.mask_fits));
    values_fit = omega (
      arith,
      word_of-lt (length table) (λ j. line_truth (model_of (world_of k closed table start) ts) table j S),
      pow_mono short,
    );
  }

  pub all_shaped : (k closed : ℕ) (table : List Line) (start : Cut) → length table ≤ 64 → ((p : ℕ) → start p < 256)
      → (fs : List Frontier) → Represents (world_of k closed table start) ts fs → AllShaped w fs
  all_shaped k closed table start short labels fs R f m =
      let u = mapped_e (frontier_of (world_of k closed table start) ts) R.cuts f (rw R.are at m) in
      rw u.2 (frontier_shaped k closed table start short labels u.0 (R.kept u.0 u.1).consistent)

-- ---- what follows from it
module _ (w k : ℕ) (table : List Line) (start : Cut) (R : Rule w k table start) (L : Ledger) (bytes window : List ℕ)
    (X : Watching w k table start L bytes window) where
  abbrev ts : List Event
  ts = L.history

  abbrev world : World
  world = world_of k L.closed table start

  pub by_history : History k Valid ts
  by_history = X.right.by_rule

  pub proper : Proper world Valid ts
  proper = record {
    some_process = R.some_process;
    room = R.eight_processes;
    rule = valid_rule k;
    by_rule = by_history;
    good = R.good;
  }

  pub causal_history : Causal ts
  causal_history = history_causal k Valid (valid_rule k) ts by_history

  pub kept_shaped : AllShaped w X.kept
  kept_shaped =
      all_shaped w ts causal_history (λ e m. X.storable e (inl m)) k L.closed table start R.short R.labels_fit
      X.kept X.represents

  pub sized : Sized w (status_of k table (length X.kept) L)
  unfolding last_clock
  sized = record {
    processes_fit = omega (arith, R.eight_processes);
    short = R.short;
    line_bytes = R.line_bytes;
    closed_fits = omega (arith, X.closed_below, pow_mono R.eight_processes);
    kept_fits = omega (arith, X.few);
    counts_fit = taken-fits w ts causal_history (λ e m. X.storable e (inl m));
    clocks_fit = λ p q. clock_fits w ts causal_history (λ e m. X.storable e (inl m)) p (taken ts p) q;
    few = X.many;
    storable = λ e m. X.storable e (inr m);
  }
