-- A move leaves a watch that stands, with the same events, in the other form; and 43 comes exactly where a taken count,
-- or one of a pending event, is too large.
use Rattle.std.specs.Prelude.{ℕ, ◌+◌, ◌*◌, ◌^◌, ◌≤◌, ◌<◌, ◌≡◌, ◌||◌, ◌⊎◌, get_or}
use Rattle.std.proofs.Common.{arith, mul-le-mul_right, le-div_iff_mul-le, sym, ◌∙◌, subst, inl, inr}
use Rattle.std.proofs.Math.Decide.{dec_lt}
use Rattle.clocks.specs.stored.BoundedLaws.{or-false_e}
use Rattle.std.proofs.Math.Path.{ap}
use Rattle.std.proofs.Math.Bool.{false}
use mathlib.Core.List.{List, Memᴰ}
use Rattle.std.proofs.Math.ListN.{length}
use Rattle.codec.specs.Little.{number, Bytes}
use Rattle.codec.specs.LittleLaws.{pow_256_pos}
use Rattle.pactl.specs.declared.Line.{Line}
use Rattle.clocks.specs.declared.Event.{Event}
use Rattle.clocks.specs.Event.{Cut, count}
use Rattle.clocks.specs.History.{taken, last_clock}
use Rattle.clocks.specs.Counts.{at}
use Rattle.clocks.specs.cuts.CausalLaws.{count-within}
use Rattle.clocks.specs.stored.CountsLaws.{at_beyond, at-list_of}
use Rattle.clocks.specs.validity.ClockRule.{taken-silent}
use Rattle.frontiers.specs.ListLaws.{member_place}
use Rattle.frontiers.specs.Shaped.{AllShaped}
use Rattle.frontiers.specs.WindowLaws.{length-window_bytes}
use Rattle.frontiers.specs.Bytes.{frontier_length, window_bytes}
use Rattle.records.specs.Record.{pending_place, pending_at}
use Rattle.records.specs.RecordLaws.{taken_at}
use Rattle.refusals.specs.Refusals.{room_of, bad_window_length}
use Rattle.refusals.specs.RefusalLaws.{state-within}
use Rattle.call_move.specs.Parts.{record_parts, window_parts}
use Rattle.call_move.specs.PartLengths.{length_of}
use Rattle.call_move.specs.PartLaws.{length-record_parts, length-window_parts, length_moved}
use Rattle.call_move.specs.CountLaws.{none_too_large}
use Rattle.call_move.specs.BackLaws.{fit_again}
use Rattle.call_move.specs.PlaceLaws.{fit_at}
use Rattle.call_move.specs.StandLaws.{taken_stands, clock_stands}
use Rattle.call_move.specs.LengthLaws.{Lengths, right_lengths, window_whole}
use Rattle.call_move.specs.MoveCases.{Passes}
use Rattle.call_move.specs.Move.{moved, some_too_large, overflows}
use Rattle.demands.specs.Ledger.{Ledger}
use Rattle.demands.specs.Status.{Status, record_bytes}
use Rattle.demands.specs.World.{status_of, Valid}
use Rattle.demands.specs.Watching.{Rule, Watching}
use Rattle.demands.specs.bytes.Sized.{Storable, Sized}
use Rattle.demands.specs.bytes.MovedLaws.{record_moved, window_moved, Bytes-window_bytes}
use Rattle.demands.specs.bytes.RecordLaws.{length-record_bytes, Bytes-record_bytes}
use Rattle.demands.specs.calls.StoredFits.{sized, kept_shaped, all_shaped, taken-fits, clock_fits, causal_history, by_history}
use Rattle.demands.specs.calls.WatchingLaws.{bytes_long, says_taken, says_event, says_kept}

-- What an open guarantees holds in either form.
pub rule_moved : (v w k : ℕ) (table : List Line) (start : Cut) → 0 < w → Rule v k table start → Rule w k table start
rule_moved v w k table start pos R = record {
  some_byte = pos;
  some_process = R.some_process;
  eight_processes = R.eight_processes;
  good = R.good;
  some_line = R.some_line;
  short = R.short;
  line_bytes = R.line_bytes;
  labels_fit = R.labels_fit;
}

-- A count of a pending event, by its place.
pending_count_lem : (v : ℕ) (s : List ℕ) (i p : ℕ) → p < 8
    → at (pending_at v s i).clock p ≡ number s (pending_place v i + 8 + p * v) v
unfolding pending_at
pending_count_lem v s i p l = at-list_of 8 (λ q. number s (pending_place v i + 8 + q * v) v) p l

module _ (v w k : ℕ) (table : List Line) (start : Cut) (R : Rule v k table start) (L : Ledger) (bytes window : List ℕ)
    (X : Watching v k table start L bytes window) where
  abbrev status : Status
  status = status_of k table (length X.kept) L

  -- Every event, taken or pending, can be stored with counts of w bytes.
  abbrev pub AllFit : Type 0
  AllFit = (e : Event) → Memᴰ e L.history ⊎ Memᴰ e L.pending → Storable w e

  -- An event whose counts fit.
  refit : (e : Event) → Storable v e → ((p : ℕ) → at e.clock p < 256 ^ w) → Storable w e
  refit e z f = record {
    mask_fits = z.mask_fits;
    eight_counts = z.eight_counts;
    counts_fit = f;
    eight_labels = z.eight_labels;
    labels_fit = z.labels_fit;
  }

  -- ---- No count of the record is too large
  module _ (fits : some_too_large v w record_parts bytes ≡ false) where
    enough : length_of v record_parts ≤ length bytes
    enough = omega (arith, length-record_parts v, bytes_long v k table start R L bytes window X)

    taken_fit : (p : ℕ) → taken L.history p < 256 ^ w
    taken_fit p = go (dec_lt p 8)
      where
        go : Dec (p < 8) → taken L.history p < 256 ^ w
        go (yes l) =
            rw (← says_taken v k table start R L bytes window X, taken_at v bytes p l)
            (fit_at v w record_parts 8 8 8 bytes enough (taken_stands v w) fits p l)
        go (no l) =
            rw (taken-silent k Valid L.history (by_history v k table start R L bytes window X) p
            (omega (arith, R.eight_processes)))
            (pow_256_pos w)

    pending_fit : (e : Event) → Memᴰ e L.pending → (p : ℕ) → at e.clock p < 256 ^ w
    pending_fit e m p = go (dec_lt p 8)
      where
        r : (i : ℕ) × (i < length L.pending) × (get_or L.pending i e ≡ e)
        r = member_place L.pending e e m

        l : r.0 < 32
        l = omega (arith, r.1, X.many)

        is : pending_at v bytes r.0 ≡ e
        is = says_event v k table start R L bytes window X r.0 e r.1 ∙ r.2

        go : Dec (p < 8) → at e.clock p < 256 ^ w
        go (yes j) =
            rw (← is, pending_count_lem v bytes r.0 p j)
            (fit_at v w record_parts 8 (pending_place v r.0 + 8) (pending_place w r.0 + 8) bytes enough
            (clock_stands v w r.0 l) fits p j)
        go (no j) =
            rw (at_beyond e.clock p (omega (arith, (X.storable e (inr m)).eight_counts))) (pow_256_pos w)

  -- Where the taken counts and those of pending events fit, every event does: none that was taken counts more.
  pub all_fit : ((p : ℕ) → taken L.history p < 256 ^ w)
      → ((e : Event) → Memᴰ e L.pending → (p : ℕ) → count e p < 256 ^ w) → AllFit
  unfolding count
  all_fit f g e (inl m) =
      refit e (X.storable e (inl m))
      (λ p. omega (arith, f p, count-within L.history (causal_history v k table start R L bytes window X) e m p))
  all_fit f g e (inr m) = refit e (X.storable e (inr m)) (g e m)

  pub fit_all : AllFit
      → ((p : ℕ) → taken L.history p < 256 ^ w)
      × ((e : Event) → Memᴰ e L.pending → (p : ℕ) → count e p < 256 ^ w)
  unfolding count
  fit_all a = (
    taken-fits w L.history (causal_history v k table start R L bytes window X) (λ e m. a e (inl m)),
    λ e m p. (a e (inr m)).counts_fit p,
  )

  pub fit_where : overflows v w bytes window ≡ false → AllFit
  unfolding overflows count
  fit_where h =
      let fits = (or-false_e (some_too_large v w record_parts bytes) _ h).0 in
      all_fit (taken_fit fits) (pending_fit fits)

  -- ---- The watch in the other form
  module _ (fit : AllFit) (bytes' window' : List ℕ) (n : ℕ) (kept_few : length X.kept ≤ n)
      (bytes_are : bytes' ≡ record_bytes w status) (window_is : window' ≡ window_bytes w (n * frontier_length w) X.kept)
      (long : length window' ≡ n * frontier_length w) where
    pub other_form : Watching w k table start L bytes' window'
    other_form = record {
      kept = X.kept;
      bytes_are = bytes_are;
      window_is = rw long window_is;
      room = rw long (mul-le-mul_right (frontier_length w) kept_few);
      few = X.few;
      represents = X.represents;
      right = X.right;
      ordered = X.ordered;
      clear = X.clear;
      faultless = X.faultless;
      storable = fit;
      many = X.many;
      closed_below = X.closed_below;
      names_open = X.names_open;
    }

  -- ---- A move that is accepted
  module _ (t target : List ℕ) (p : Passes v w bytes window t target) where
    abbrev n : ℕ
    n = room_of v (length window)

    lengths : Lengths v w (length bytes) (length window) (length t) (length target)
    lengths = right_lengths v w (length bytes) (length window) (length t) (length target) p.lengths

    kept_few : length X.kept ≤ n
    kept_few = omega (arith, (state-within v n bytes p.state).4, says_kept v k table start R L bytes window X)

    pub moved_right : Watching w k table start L (moved v w record_parts bytes) (moved v w (window_parts n) window)
    unfolding overflows
    moved_right =
        let z = sized v k table start R L bytes window X in
        let shaped = kept_shaped v k table start R L bytes window X in
        other_form (fit_where p.fits) (moved v w record_parts bytes)
        (moved v w (window_parts n) window) n kept_few
        (ap (moved v w record_parts) X.bytes_are ∙ record_moved v w status z)
        (ap (moved v w (window_parts n)) (X.window_is ∙ ap (λ (m : ℕ). window_bytes v m X.kept) lengths.whole)
        ∙ window_moved v w n X.kept shaped kept_few)
        (length_moved v w (window_parts n) window (omega (arith, lengths.whole, length-window_parts v n))
        ∙ length-window_parts w n)

  -- ---- Record and window are bytes
  pub record_bytes_lem : Bytes bytes
  record_bytes_lem = rw X.bytes_are (Bytes-record_bytes v status (sized v k table start R L bytes window X))

  pub window_bytes_lem : Bytes window
  window_bytes_lem =
      subst Bytes (sym X.window_is)
      (Bytes-window_bytes v (length window) X.kept (kept_shaped v k table start R L bytes window X))

  -- ---- A window of a right length
  module _ (right : bad_window_length v (length window) ≡ false) where
    abbrev room : ℕ
    room = room_of v (length window)

    wide_enough : length window ≡ room * frontier_length v
    wide_enough = window_whole v (length window) right

    pub kept_within : length X.kept ≤ room
    unfolding room_of frontier_length
    kept_within =
        (le-div_iff_mul-le {k = 8 * v + 24} {x = length X.kept} {y = length window} (omega arith)).1 X.room

    -- where all events fit, no count is too large
    module _ (fit : AllFit) where
      abbrev bytes' : List ℕ
      bytes' = record_bytes w status

      abbrev window' : List ℕ
      window' = window_bytes w (room * frontier_length w) X.kept

      shaped : AllShaped v X.kept
      shaped = kept_shaped v k table start R L bytes window X

      z : Sized v status
      z = sized v k table start R L bytes window X

      -- the watch as it would be
      shaped' : AllShaped w X.kept
      shaped' = all_shaped w L.history (causal_history v k table start R L bytes window X) (λ e m. fit e (inl m)) k
          L.closed table start R.short R.labels_fit X.kept X.represents

      z' : Sized w status
      unfolding last_clock
      z' =
          let causal = causal_history v k table start R L bytes window X in
          record {
            processes_fit = z.processes_fit;
            short = z.short;
            line_bytes = z.line_bytes;
            closed_fits = z.closed_fits;
            kept_fits = z.kept_fits;
            counts_fit = taken-fits w L.history causal (λ e m. fit e (inl m));
            clocks_fit = λ p q. clock_fits w L.history causal (λ e m. fit e (inl m)) p (taken L.history p) q;
            few = z.few;
            storable = λ e m. fit e (inr m);
          }

      window_are : window ≡ window_bytes v (room * frontier_length v) X.kept
      window_are = X.window_is ∙ ap (λ (m : ℕ). window_bytes v m X.kept) wide_enough

      -- narrower: the bytes are those of the narrower form, moved
      narrower : w ≤ v → (some_too_large v w record_parts bytes || some_too_large v w (window_parts room) window) ≡ false
      narrower l =
          let long : length_of w record_parts ≤ length bytes' =
          omega (arith, length-record_parts w, length-record_bytes w status z') in
          let far : room * frontier_length w ≤ length window' =
          omega (
            arith,
            length-window_bytes w (room * frontier_length w) X.kept shaped'
                (mul-le-mul_right (frontier_length w) kept_within),
          ) in
          let b = Bytes-record_bytes w status z' in
          let c = Bytes-window_bytes w (room * frontier_length w) X.kept shaped' in
          let first : some_too_large v w record_parts bytes ≡ false =
          ap (some_too_large v w record_parts) (X.bytes_are ∙ sym (record_moved w v status z'))
          ∙ fit_again w v record_parts bytes' b long (none_too_large w v l record_parts bytes' b) in
          let second : some_too_large v w (window_parts room) window ≡ false =
          ap (some_too_large v w (window_parts room))
          (window_are ∙ sym (window_moved w v room X.kept shaped' kept_within))
          ∙ fit_again w v (window_parts room) window' c (omega (arith, far, length-window_parts w room))
          (none_too_large w v l (window_parts room) window' c) in
          rw (first, second)

      pub no_overflow : overflows v w bytes window ≡ false
      unfolding overflows
      no_overflow = go (dec_lt w v)
        where
          go : Dec (w < v)
              → (some_too_large v w record_parts bytes || some_too_large v w (window_parts room) window) ≡ false
          go (yes l) = narrower (omega arith)
          go (no l) =
              rw (
                none_too_large v w (omega arith) record_parts bytes record_bytes_lem,
                none_too_large v w (omega arith) (window_parts room) window window_bytes_lem,
              )
