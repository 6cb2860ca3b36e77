-- Order makes no difference (demand 3): two whole lists of calls that accepted the same events and end with "nothing
-- ready" end alike.
use Rattle.std.specs.Prelude.{ℕ, ◌≤◌, ◌*◌, ◌≡◌, Bool, false, List, take}
use Rattle.std.proofs.Common.{arith, sym, ◌∙◌, subst}
use Rattle.std.proofs.Math.Path.{ap, fun_ext}
use Rattle.std.proofs.Math.ListN.{length}
use Rattle.pactl.specs.declared.Line.{Line}
use Rattle.clocks.specs.declared.Event.{Event}
use Rattle.codec.specs.BitLaws.{bits_equal}
use Rattle.window_laws.specs.StoredCuts.{list_of_injective}
use Rattle.window_laws.specs.Represents.{Represents, Proper}
use Rattle.window_laws.specs.FrontierOf.{World, model_of}
use Rattle.frontiers.specs.Bytes.{frontiers, frontier_length, framed, window_bytes}
use Rattle.window_laws.specs.Unique.{window_unique}
use Rattle.rules.specs.Line.{lines_at}
use Rattle.pactl.specs.Truth.{holds}
use Rattle.pactl.specs.TruthLocal.{holds_local}
use Rattle.rules.specs.Formula.{Formula, meaning}
use Rattle.clocks.specs.History.{taken, last_clock, Consistent}
use Rattle.clocks.specs.Causal.{Causal}
use Rattle.clocks.specs.Event.{Cut}
use Rattle.clocks.specs.validity.ClockRule.{consistent-silent}
use Rattle.clocks.specs.cuts.SameEvents.{Same, same_taken, same-last, same_agree}
use Rattle.rules.specs.reading.ReaderAccepts.{reader_accepts}
use Rattle.rules.specs.Text.{text_of}
use Rattle.rules.specs.Reader.{read_rule, formed}
use Rattle.clocks.specs.Counts.{at}
use Rattle.demands.specs.Watching.{Watching}
use Rattle.demands.specs.lists.Delivery.{same_pending, same-taken_events}
use Rattle.records.specs.Record.{kept_count}
use Rattle.refusals.specs.Refusals.{bad_window_length}
use Rattle.call_find.specs.Find.{find_call}
use Rattle.demands.specs.calls.PendingOrder.{ordered_unique}
use Rattle.demands.specs.calls.WatchingLaws.{says_frontiers, says_kept}
use Rattle.demands.specs.Ledger.{Ledger, accounted, Settled}
use Rattle.demands.specs.Run.{Watch}
use Rattle.demands.specs.Status.{record_bytes}
use Rattle.demands.specs.calls.AfterCall.{WatchRight}
use Rattle.demands.specs.lists.SoundRun.{Sound, SoundAsRead, sound_run}
use Rattle.demands.specs.calls.StoredFits.{proper, causal_history, kept_shaped}
use Rattle.demands.specs.World.{world_of, status_of, Valid}
use Rattle.demands.specs.Verdict.{TrueVerdict}
use Rattle.demands.specs.EveryList.{at_end, EndsQuiet, SameAccepted, SameClosed}
use Rattle.std.proofs.Math.Seq.{take-append_seam}
use Rattle.frontiers.specs.WindowLaws.{length-framed}
use Rattle.demands.specs.statements.OrderIndependent.{Alike, OrderIndependent}
use Rattle.demands.specs.lists.WindowExact.{window_exact_of}
use Rattle.demands.specs.lists.Find.{answered, searched}
use Rattle.demands.specs.calls.ValidRule.{valid_rule}

-- ---- Proof
-- the texts of two formulas are the same only if the formulas are: what open reads is one
module _ (w k : ℕ) (f : Formula) (start : Cut) (Y Z : Watch) (S : Sound w k f start Y) (T' : Sound w k f start Z)
    (a : EndsQuiet Y) (b : EndsQuiet Z) (c : SameAccepted Y Z) (s : SameClosed Y Z) where
  abbrev table : List Line
  table = lines_at 0 f

  abbrev world : World
  world = world_of k Z.ledger.closed table start

  y : Settled Y.ledger
  y = S.reporting.quiet a.0 a.1

  z : Settled Z.ledger
  z = T'.reporting.quiet b.0 b.1

  counted-alike : (e : Event) → accounted e Y.ledger ≡ accounted e Z.ledger
  counted-alike e = S.balanced.each e ∙ c e ∙ sym (T'.balanced.each e)

  same : Same Y.ledger.history Z.ledger.history
  same =
      same-taken_events k Valid (valid_rule k) Y.ledger Z.ledger S.right.right T'.right.right y z
      counted-alike

  pending_alike : Y.ledger.pending ≡ Z.ledger.pending
  pending_alike = ordered_unique Y.ledger.pending Z.ledger.pending S.right.ordered T'.right.ordered
      (same_pending k Valid (valid_rule k) Y.ledger Z.ledger S.right.right T'.right.right y z
      counted-alike)

  causal_y : Causal Y.ledger.history
  causal_y = causal_history w k table start S.rule Y.ledger Y.bytes Y.window S.right

  causal_z : Causal Z.ledger.history
  causal_z = causal_history w k table start T'.rule Z.ledger Z.bytes Z.window T'.right

  closed_alike : Y.ledger.closed ≡ Z.ledger.closed
  closed_alike = bits_equal Y.ledger.closed Z.ledger.closed s

  kept_alike : S.right.kept ≡ T'.right.kept
  kept_alike = window_unique world Valid Y.ledger.history Z.ledger.history
      (subst (λ (c : ℕ). Proper (world_of k c table start) Valid Y.ledger.history) closed_alike
      (proper w k table start S.rule Y.ledger Y.bytes Y.window S.right))
      (proper w k table start T'.rule Z.ledger Z.bytes Z.window T'.right)
      same S.right.kept T'.right.kept
      (subst (λ (c : ℕ). Represents (world_of k c table start) Y.ledger.history S.right.kept) closed_alike
      S.right.represents) T'.right.represents

  status_alike : status_of k table (length S.right.kept) Y.ledger
      ≡ status_of k table (length T'.right.kept) Z.ledger
  status_alike =
      let t : taken Y.ledger.history ≡ taken Z.ledger.history =
      same_taken Y.ledger.history Z.ledger.history causal_y causal_z same in
      let l : last_clock Y.ledger.history ≡ last_clock Z.ledger.history =
      fun_ext (same-last Y.ledger.history Z.ledger.history causal_y causal_z same) in
      rw (closed_alike, kept_alike, t, l, pending_alike)

  bytes_alike : Y.bytes ≡ Z.bytes
  bytes_alike = S.right.bytes_are ∙ ap (record_bytes w) status_alike ∙ sym T'.right.bytes_are

  read_kept : (V' : Watch) (X : WatchRight w k table start V')
      → frontiers w V'.window (kept_count V'.bytes) ≡ X.kept
  read_kept V' X =
      ap (λ (s : List ℕ). frontiers w s (kept_count V'.bytes)) X.window_is
      ∙ says_frontiers w k table start S.rule V'.ledger V'.bytes V'.window X (length V'.window)

  -- the bytes of the kept frontiers are the first of the window
  kept_bytes : (V' : Watch) (X : WatchRight w k table start V')
      → take (kept_count V'.bytes * frontier_length w) V'.window ≡ framed w X.kept
  unfolding window_bytes
  kept_bytes V' X =
      let long : length (framed w X.kept) ≡ kept_count V'.bytes * frontier_length w =
      length-framed w X.kept (kept_shaped w k table start S.rule V'.ledger V'.bytes V'.window X)
      ∙ ap (λ (n : ℕ). n * frontier_length w)
      (sym (says_kept w k table start S.rule V'.ledger V'.bytes V'.window X)) in
      ap (take (kept_count V'.bytes * frontier_length w)) X.window_is
      ∙ rw (← long) (take-append_seam (framed w X.kept) _)

  frontiers-alike : frontiers w Y.window (kept_count Y.bytes) ≡ frontiers w Z.window (kept_count Z.bytes)
  frontiers-alike = read_kept Y S.right ∙ kept_alike ∙ sym (read_kept Z T'.right)

  -- the search is of the record's lines and of the kept frontiers alone
  finds-alike : bad_window_length w (length Y.window) ≡ false → bad_window_length w (length Z.window) ≡ false
      → (line : ℕ) → find_call w line Y.bytes Y.window ≡ find_call w line Z.bytes Z.window
  finds-alike h h' line =
      searched w k f start Y S h line ∙ ap (answered line Y.bytes) frontiers-alike
      ∙ ap (λ (s : List ℕ). answered line s (frontiers w Z.window (kept_count Z.bytes))) bytes_alike
      ∙ sym (searched w k f start Z T' h' line)

  -- a cut that both reported: PaCTL's truth there is the same in both histories
  verdict_alike : (counts : List ℕ) (t u : Bool) → TrueVerdict k f start Y.ledger.history counts t
      → TrueVerdict k f start Z.ledger.history counts u → t ≡ u
  verdict_alike counts t u p q =
      let s : p.cut ≡ q.cut = list_of_injective 8 p.cut q.cut
      (silent Y.ledger Y.bytes Y.window S.right p.cut p.consistent)
      (silent Z.ledger Z.bytes Z.window T'.right q.cut q.consistent)
      (sym p.counts_are ∙ q.counts_are) in
      p.truth_is
      ∙ holds_local k start Valid (valid_rule k) Y.ledger.history Z.ledger.history S.right.right.by_rule
      T'.right.right.by_rule (meaning f) p.cut p.consistent
      (same_agree Y.ledger.history Z.ledger.history causal_y causal_z same p.cut)
      ∙ ap (holds (model_of world Z.ledger.history) (meaning f)) s ∙ sym q.truth_is
    where
      silent : (L : Ledger) (bytes window : List ℕ) → Watching w k table start L bytes window → (C : Cut)
          → Consistent L.history C → (p : ℕ) → 8 ≤ p → C p ≡ 0
      silent L bytes window X C d p l =
          consistent-silent k Valid L.history X.right.by_rule C d p (omega (arith, S.rule.eight_processes))

  pub alike : Alike w k f start Y Z
  alike = record {
    same_record = bytes_alike;
    same_window = kept_bytes Y S.right ∙ ap (framed w) kept_alike ∙ sym (kept_bytes Z T'.right);
    same_frontiers = frontiers-alike;
    same_finds = finds-alike;
    first_exact = window_exact_of w k f start Y S;
    second_exact = window_exact_of w k f start Z T';
    same_events_taken = λ e. (same.there e, same.back e);
    same_pending_events = pending_alike;
    none_allowed = (y, z);
    first_truthful = S.reporting.truthful;
    second_truthful = T'.reporting.truthful;
    one_verdict = λ counts t u m n i j.
        verdict_alike counts t u (S.reporting.truthful counts t m i) (T'.reporting.truthful counts u n j);
  }

-- Of two sound watches that were opened with one text: the formula is the one that the reader reads.
pub alike_as_read : (w : ℕ) (text : List ℕ) (k : ℕ) (labels : List ℕ) (Y Z : Watch) → SoundAsRead w text k labels Y
    → SoundAsRead w text k labels Z → EndsQuiet Y → EndsQuiet Z → SameAccepted Y Z → SameClosed Y Z
    → (f : Formula) × (i : ℕ) × (read_rule text k ≡ formed i f) × (text_of f ≡ text) × Alike w k f (at labels) Y Z
alike_as_read w text k labels Y Z x y q q' same shut =
    let r : formed x.1 x.0 ≡ formed y.1 y.0 = sym x.2 ∙ y.2 in
    let e : x.0 ≡ y.0 = cc in (
      x.0,
      x.1,
      x.2,
      ((reader_accepts text k x.1 x.0).0 x.2).0,
      alike w k x.0 (at labels) Y Z x.3
          (subst (λ (g : Formula). Sound w k g (at labels) Z) (sym e) y.3) q q' same shut,
    )

-- ---- Theorem
pub order_independent : OrderIndependent
order_independent w pos text k labels eight s window a cs p s' window' a' cs' p' =
    alike_as_read w text k labels (at_end w text k labels s window cs) (at_end w text k labels s' window' cs')
    (sound_run w pos text k labels eight s window a cs p) (sound_run w pos text k labels eight s' window' a' cs' p')
