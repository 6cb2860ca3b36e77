-- What the bytes of a watch that was written by calls only say: they are never turned back by 34, and ready, valid and
-- the step as read from them are those of the taken events.
use Rattle.std.specs.Prelude.{ℕ, ◌≤◌, ◌<◌, ◌+◌, ◌-◌, ◌*◌, ◌≡◌, true, false, ◌↔◌, get_or, T}
use native.Mathlib.Omega.{arith}
use Rattle.std.proofs.Math.Path.{ap}
use Rattle.std.proofs.Common.{◌∙◌}
use mathlib.Core.List.{List, [], ◌++◌, append_assoc}
use Rattle.std.proofs.Math.ListN.{length, replicate}
use Rattle.std.proofs.lemmas.List.{replicate-append-replicate}
use borrow.Author.Tests.{le-ltb, ne_eqb}
use Rattle.pactl.specs.declared.Line.{Line}
use Rattle.clocks.specs.declared.Event.{Event}
use Rattle.window_laws.specs.Verdict.{some_frontier}
use Rattle.window_laws.specs.Represents.{Proper, setting_of}
use Rattle.window_laws.specs.FrontierOf.{World}
use Rattle.window_laws.specs.KnownCuts.{known_among}
use Rattle.clocks.specs.History.{taken, last_clock}
use Rattle.clocks.specs.Event.{Cut, Ready, apply, involved}
use Rattle.clocks.specs.validity.ClockRule.{taken-silent}
use Rattle.clocks.specs.Counts.{at, list_of, clock_rows}
use Rattle.clocks.specs.stored.CountsLaws.{get_d_list_of, at-list_of, at-list_of-all}
use Rattle.clocks.specs.Valid.{History, WellFormed}
use Rattle.clocks.specs.Joined.{joined_by}
use Rattle.clocks.specs.JoinedRule.{Joined}
use Rattle.clocks.specs.validity.JoinedTest.{joined_same, joined_test}
use Rattle.clocks.specs.stored.TestedLaws.{ready-test}
use Rattle.frontiers.specs.WindowLaws.{frontiers-window_bytes}
use Rattle.frontiers.specs.Bytes.{frontier_length, frontiers, framed, window_bytes}
use Rattle.demands.specs.Watching.{Rule, Watching}
use Rattle.records.specs.Record.{record_length, process_count, line_total, pending_count, closed_mask, kept_count, taken_counts, last_clocks, table_lines, pending_at, pending_events, ready_in}
use Rattle.refusals.specs.Refusals.{bad_processes, bad_state}
use Rattle.demands.specs.Ledger.{Ledger}
use Rattle.demands.specs.Status.{Status}
use Rattle.trial.specs.Trial.{valid_among, setting_in}
use Rattle.demands.specs.bytes.PendingLaws.{pending_at-record_bytes, pending_events-record_bytes}
use Rattle.demands.specs.bytes.RecordLaws.{process_count-record_bytes, line_total-record_bytes, pending_count-record_bytes, closed_mask-record_bytes, table_lines-record_bytes, length-record_bytes, kept_count-record_bytes, taken_counts-record_bytes, last_clocks-record_bytes}
use Rattle.demands.specs.calls.StoredFits.{proper, sized, kept_shaped}
use Rattle.demands.specs.World.{world_of, status_of, Valid, Open}
use Rattle.demands.specs.bytes.Sized.{Sized}

module _ (w k : ℕ) (table : List Line) (start : Cut) (R : Rule w k table start) (L : Ledger) (bytes window : List ℕ)
    (X : Watching w k table start L bytes window) where
  abbrev ts : List Event
  ts = L.history

  abbrev world : World
  world = world_of k L.closed table start

  abbrev status : Status
  status = status_of k table (length X.kept) L

  z : Sized w status
  z = sized w k table start R L bytes window X

  history : History k Valid ts
  history = X.right.by_rule

  P : Proper world Valid ts
  P = proper w k table start R L bytes window X

  -- ---- the fields
  pub bytes_long : length bytes ≡ record_length w
  bytes_long = ap length X.bytes_are ∙ length-record_bytes w status z

  pub says_processes : process_count bytes ≡ k
  says_processes = ap process_count X.bytes_are ∙ process_count-record_bytes w status

  pub says_lines : line_total bytes ≡ length table
  says_lines = ap line_total X.bytes_are ∙ line_total-record_bytes w status

  pub says_many : pending_count bytes ≡ length L.pending
  says_many = ap pending_count X.bytes_are ∙ pending_count-record_bytes w status

  pub says_closed : closed_mask bytes ≡ L.closed
  says_closed = ap closed_mask X.bytes_are ∙ closed_mask-record_bytes w status

  pub says_kept : kept_count bytes ≡ length X.kept
  says_kept = ap kept_count X.bytes_are ∙ kept_count-record_bytes w status z

  pub says_table : table_lines w bytes ≡ table
  says_table = ap (table_lines w) X.bytes_are ∙ table_lines-record_bytes w status

  pub says_pending : pending_events w bytes ≡ L.pending
  says_pending = ap (pending_events w) X.bytes_are ∙ pending_events-record_bytes w status z

  pub says_event : (i : ℕ) (d : Event) → i < length L.pending → pending_at w bytes i ≡ get_or L.pending i d
  says_event i d l = ap (λ (s : List ℕ). pending_at w s i) X.bytes_are ∙ pending_at-record_bytes w status z i d l

  -- the taken counts, from 8 up too
  pub says_taken : at (taken_counts w bytes) ≡ taken ts
  says_taken = ap (λ (s : List ℕ). at (taken_counts w s)) X.bytes_are ∙ ap at (taken_counts-record_bytes w status z)
      ∙ at-list_of-all 8 (taken ts) (λ p l. taken-silent k Valid ts history p (omega (arith, R.eight_processes)))

  pub says_clocks : (p q : ℕ) → p < 8 → q < 8 → clock_rows (last_clocks w bytes) p q ≡ last_clock ts p q
  says_clocks p q l j =
      ap (λ (cs : List (List ℕ)). clock_rows cs p q) (ap (last_clocks w) X.bytes_are
      ∙ last_clocks-record_bytes w status z)
      ∙ ap (λ (c : List ℕ). at c q) (get_d_list_of 8 (λ x. list_of 8 (last_clock ts x)) p [] l)
      ∙ at-list_of 8 (last_clock ts p) q j

  -- ---- 34 never comes
  pub never_34 : (room : ℕ) → length X.kept ≤ room → bad_state w room bytes ≡ false
  unfolding bad_state bad_processes
  never_34 room l = rw (
    says_processes,
    says_many,
    says_lines,
    says_kept,
    says_table,
    ne_eqb k 0 (λ q. omega (arith, R.some_process)),
    le-ltb 8 k R.eight_processes,
    le-ltb 32 (length L.pending) X.many,
    ne_eqb (length table) 0 (λ q. omega (arith, R.some_line)),
    le-ltb 64 (length table) R.short,
    ne_eqb (length X.kept) 0 (λ q. omega (arith, some_kept)),
    le-ltb 1024 (length X.kept) X.few,
    le-ltb room (length X.kept) l,
    R.good,
  )
    where
      some_kept : 0 < length X.kept
      some_kept = some_frontier world Valid ts P X.kept X.represents

  -- ---- ready, valid and the step are those of the taken events
  formed-eight : (e : Event) → WellFormed k e → WellFormed 8 e
  formed-eight e f = record {
    occupied = f.occupied;
    below = λ p l. f.below p (omega (arith, R.eight_processes));
    silent = λ p l. f.silent p (omega (arith, R.eight_processes));
  }

  pub ready_in_lem : (e : Event) → WellFormed k e → T (ready_in w bytes e) ↔ Ready e (taken ts)
  unfolding ready_in
  ready_in_lem e f = rw says_taken (ready-test 8 e (formed-eight e f) (taken ts))

  -- of an event that names open processes, as every pending one does
  pub valid_in : (e : Event) → WellFormed k e → ((p : ℕ) → involved e p ≡ true → Open L.closed p)
      → Ready e (taken ts) → T (valid_among X.kept e) ↔ Valid ts e
  unfolding valid_among
  valid_in e f o r = known_among world Valid ts P X.kept X.represents e f r (λ p b. rw (o p b) tt)

  -- ... and so is the test by the join of last clocks, which took its place before
  pub joined_in_lem : (e : Event) → WellFormed k e → T (joined_by 8 e (clock_rows (last_clocks w bytes))) ↔ Joined 8 ts e
  joined_in_lem e f =
      rw (joined_same 8 e (clock_rows (last_clocks w bytes)) (last_clock ts) says_clocks)
      (joined_test k 8 Valid ts R.eight_processes history e f)

  pub setting_in_lem : (e : Event) → setting_in w bytes e ≡ setting_of world ts e
  unfolding setting_in taken apply
  setting_in_lem e = rw (says_processes, says_closed, says_table, says_taken)

  -- ---- the window, also one lent longer
  pub lent_longer : (more : ℕ) → window ++ replicate more 0 ≡ window_bytes w (length window + more) X.kept
  unfolding window_bytes
  lent_longer more =
      let n : length X.kept * frontier_length w ≤ length window = X.room in
      ap (λ (s : List ℕ). s ++ replicate more 0) X.window_is
      ∙ append_assoc (framed w X.kept) (replicate (length window - length X.kept * frontier_length w) 0)
      (replicate more 0)
      ∙ ap (λ (s : List ℕ). framed w X.kept ++ s)
      (replicate-append-replicate (length window - length X.kept * frontier_length w) more 0
      ∙ ap (λ (m : ℕ). replicate m 0) (sums (length window) more (length X.kept * frontier_length w) n))
    where
      sums : (a b c : ℕ) → c ≤ a → a - c + b ≡ a + b - c
      sums a b c l = omega arith

  pub says_frontiers : (total : ℕ) → frontiers w (window_bytes w total X.kept) (kept_count bytes) ≡ X.kept
  says_frontiers total =
      rw says_kept (frontiers-window_bytes w total X.kept (kept_shaped w k table start R L bytes window X))
