-- What an accepted close does to a watch written by calls only: one more process is closed, and the window holds the
-- cuts that are kept then.
use Rattle.std.specs.Prelude.{ℕ, ◌*◌, ◌^◌, ◌≤◌, ◌<◌, ◌≡◌, true, not, ◌||◌, ◌≢◌, length}
use Rattle.std.proofs.Common.{arith, le_trans, mul-le-mul_right, sym, ap, ◌∙◌, inl, leb-false}
use Rattle.std.proofs.Math.Path.{ap₂, subst}
use Rattle.std.proofs.Math.Bool.{false}
use mathlib.Core.List.{List, Memᴰ}
use Rattle.std.proofs.Math.Dec.{T, leb}
use Rattle.pactl.specs.declared.Line.{Line}
use Rattle.codec.specs.Bit.{bit}
use Rattle.codec.specs.BitLaws.{bit-or, bit_above, bit_power_other, lt_of_bits}
use Rattle.clocks.specs.declared.Event.{Event}
use Rattle.clocks.specs.Event.{Cut, involved}
use Rattle.clocks.specs.Counts.{at}
use Rattle.clocks.specs.cuts.EventLaws.{true-T}
use Rattle.clocks.specs.stored.BoundedLaws.{or-false_e, any_of_i}
use Rattle.frontiers.specs.declared.Frontier.{Frontier}
use Rattle.frontiers.specs.Bytes.{frontier_length, frontiers, window_bytes, replaced}
use Rattle.frontiers.specs.Shaped.{AllShaped}
use Rattle.frontiers.specs.WindowLaws.{length-window_bytes, replaced-window_bytes}
use Rattle.window.specs.Step.{kept_by, filtered}
use Rattle.window.specs.Lists.{length-filtered}
use Rattle.window_laws.specs.Represents.{open_in, Represents}
use Rattle.window_laws.specs.FrontierOf.{World}
use Rattle.window_laws.specs.CloseTheorem.{stays_in, close_represents}
use Rattle.records.specs.Record.{process_count, closed_mask, kept_count, pending_events, closed_set}
use Rattle.refusals.specs.Refusals.{not_open, named_by}
use Rattle.answers.specs.Answer.{process_closed}
use Rattle.call_close.specs.Close.{closing, remaining, close_process}
use Rattle.demands.specs.Ledger.{Ledger}
use Rattle.demands.specs.World.{world_of, status_of, Valid, Open}
use Rattle.demands.specs.Watching.{Rule, Watching}
use Rattle.demands.specs.bytes.SetterLaws.{closed_set-record_bytes}
use Rattle.demands.specs.calls.KeptCutsLaws.{open_bit}
use Rattle.demands.specs.calls.StoredFits.{proper, causal_history, kept_shaped, all_shaped}
use Rattle.demands.specs.calls.WatchingLaws.{says_processes, says_closed, says_pending, says_taken, says_frontiers}

-- ---- The closed processes and one more
module _ (closed p : ℕ) where
  pub still_open : (q : ℕ) → Open (closing closed p) q → Open closed q
  still_open q h = (or-false_e (bit closed q) (bit (2 ^ p) q) (sym (bit-or closed (2 ^ p) q) ∙ h)).0

  pub other_open : (q : ℕ) → q ≢ p → Open closed q → Open (closing closed p) q
  other_open q n h = rw (bit-or closed (2 ^ p) q, h, bit_power_other p q n)

  pub closing_below : (k : ℕ) → closed < 2 ^ k → p < k → closing closed p < 2 ^ k
  closing_below k l m =
      lt_of_bits k (closing closed p) (λ q h. other_open q (λ e. omega arith) (bit_above closed k q l h))

module _ (w k : ℕ) (table : List Line) (start : Cut) (R : Rule w k table start) (L : Ledger) (bytes window : List ℕ)
    (X : Watching w k table start L bytes window) (p : ℕ)
    (h41 : not_open (process_count bytes) (closed_mask bytes) p ≡ false)
    (h42 : named_by p (pending_events w bytes) ≡ false) where
  abbrev closed' : ℕ
  closed' = closing L.closed p

  abbrev shut : Ledger
  shut = record { history = L.history; pending = L.pending; falsified = L.falsified; closed = closed' }

  abbrev world : World
  world = world_of k L.closed table start

  -- ---- the process is there and open, and no pending event names it
  there : (p < k) × Open L.closed p
  unfolding not_open
  there =
      let h : leb k p || bit L.closed p ≡ false =
      rw (says_processes w k table start R L bytes window X, says_closed w k table start R L bytes window X) at h41 in
      let u = or-false_e (leb k p) (bit L.closed p) h in
      (leb-false k p u.0, u.1)

  unnamed : (e : Event) → Memᴰ e L.pending → involved e p ≡ true → ⊥
  unfolding named_by
  unnamed e m b =
      let h : named_by p L.pending ≡ false = rw (says_pending w k table start R L bytes window X) at h42 in
      subst T h (any_of_i (λ (f : Event). involved f p) L.pending e m (true-T b))

  -- ---- the frontiers that stay
  abbrev pub gs : List Frontier
  gs = filtered (stays_in world L.history closed') X.kept

  read : frontiers w window (kept_count bytes) ≡ X.kept
  read = ap (λ (s : List ℕ). frontiers w s (kept_count bytes)) X.window_is
      ∙ says_frontiers w k table start R L bytes window X (length window)

  remain : remaining w bytes closed' X.kept ≡ gs
  unfolding remaining
  remain =
      ap₂ (λ (n : ℕ) (c : Cut). filtered (λ f. kept_by 8 n closed' c (at f.counts)) X.kept)
      (says_processes w k table start R L bytes window X) (says_taken w k table start R L bytes window X)

  shrinks : (q : ℕ) → T (not (bit closed' q)) → T (open_in world q)
  shrinks q t = rw (still_open L.closed p q (open_bit (bit closed' q) t)) tt

  pub closed_represents : Represents (world_of k closed' table start) L.history gs
  closed_represents =
      close_represents world Valid L.history (proper w k table start R L bytes window X) closed' shrinks X.kept
      X.represents

  shaped : AllShaped w gs
  shaped =
      all_shaped w L.history (causal_history w k table start R L bytes window X) (λ e m. X.storable e (inl m)) k
      closed' table start R.short R.labels_fit gs closed_represents

  fewer : length gs ≤ length X.kept
  fewer = length-filtered (stays_in world L.history closed') X.kept

  room : length gs * frontier_length w ≤ length window
  room = le_trans (mul-le-mul_right (frontier_length w) fewer) X.room

  -- ---- what the call answers and leaves
  pub closed_are : close_process w p bytes window
      ≡ record {
        answer = process_closed (length gs);
        bytes = closed_set bytes closed' (length gs);
        window = window_bytes w (length window) gs;
      }
  unfolding close_process
  closed_are =
      rw (says_closed w k table start R L bytes window X, read, remain)
      (ap
      (λ (v : List ℕ).
      record { answer = process_closed (length gs); bytes = closed_set bytes closed' (length gs); window = v })
      (ap (λ (v : List ℕ). replaced w v (length X.kept) gs) X.window_is
      ∙ replaced-window_bytes w (length window) X.kept gs (kept_shaped w k table start R L bytes window X) shaped
      X.room room))

  pub closed_watching : Watching w k table start shut (closed_set bytes closed' (length gs))
      (window_bytes w (length window) gs)
  closed_watching = record {
    kept = gs;
    bytes_are = ap (λ (s : List ℕ). closed_set s closed' (length gs)) X.bytes_are
        ∙ closed_set-record_bytes w (status_of k table (length X.kept) L) closed' (length gs);
    window_is = ap (λ (t : ℕ). window_bytes w t gs) (sym long);
    room = omega (arith, long, room);
    few = le_trans fewer X.few;
    represents = closed_represents;
    right = record {
      by_rule = X.right.by_rule;
      formed = X.right.formed;
      untaken = X.right.untaken;
      was_ready = X.right.was_ready;
      eight = X.right.eight;
    };
    ordered = X.ordered;
    clear = X.clear;
    faultless = X.faultless;
    storable = X.storable;
    many = X.many;
    closed_below = closing_below L.closed p k X.closed_below there.0;
    names_open = λ e m q b.
        other_open L.closed p q (λ z. unnamed e m (subst (λ (x : ℕ). involved e x ≡ true) z b))
        (X.names_open e m q b);
  }
    where
      long : length (window_bytes w (length window) gs) ≡ length window
      long = length-window_bytes w (length window) gs shaped room
