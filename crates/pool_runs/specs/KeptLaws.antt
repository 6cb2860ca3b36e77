-- How many frontiers a written watch keeps is decided by its taken events and its closed processes; so an offer leaves
-- the number as it is, a take that takes nothing too, one that takes keeps within its cap, and a close keeps no more.
use Rattle.std.specs.Prelude.{ℕ, ◌≤◌, ◌≡◌, refl, Bool, true, false, cond, List, ◌∷◌, eqb, length, set}
use Rattle.std.proofs.Common.{arith, sym, ap, ◌∙◌, true≢false, length-set, eq-eqb, eqb-true}
use Rattle.std.proofs.Math.Nat.{min-le_left}
use Rattle.std.proofs.lemmas.List.{length-map}
use Rattle.codec.specs.Little.{bytes_of, value_of, number, put}
use Rattle.codec.specs.PutLaws.{number-put-same}
use Rattle.clocks.specs.declared.Event.{Event}
use Rattle.clocks.specs.Event.{Cut}
use Rattle.clocks.specs.Counts.{at}
use Rattle.frontiers.specs.Bytes.{frontiers}
use Rattle.frontiers.specs.WindowLaws.{length-frontiers}
use Rattle.pactl.specs.declared.Line.{Line}
use Rattle.rules.specs.Line.{lines_at}
use Rattle.rules.specs.Formula.{Formula}
use Rattle.records.specs.Record.{kept_count, closed_mask, closed_set}
use Rattle.refusals.specs.Refusals.{bad_window_length, room_of}
use Rattle.refusals.specs.RefusalLaws.{right_length}
use Rattle.answers.specs.Answer.{Answer, turned_back, state, nothing_ready, held, again, found, absent, process_closed}
use Rattle.answers.specs.Kinds.{is_held, is_state, is_false_clock}
use Rattle.call_open.specs.Open.{Opened, first_record, open_table, open_call}
use Rattle.call_offer.specs.Offer.{offer_call, offered_event}
use Rattle.call_close.specs.Close.{closing, remaining, close_process, close_call}
use Rattle.call_close.specs.CloseCases.{Case, turned, accepted, close_case}
use Rattle.call_close.specs.CloseReplyLaws.{few_remain}
use Rattle.demands.specs.Ledger.{Ledger}
use Rattle.demands.specs.Run.{Watch, offers, takes, closes, Passed, after, offered_ledger, taken_ledger, stopped_at, trial_of}
use Rattle.demands.specs.World.{KeptNumber, frontier_after}
use Rattle.demands.specs.EveryList.{Accepts, EightBytes, RightLengths, lent_window, next_take}
use Rattle.demands.specs.Written.{Written, calls}
use Rattle.demands.specs.statements.WindowExact.{WindowExact}
use Rattle.demands.specs.statements.EveryWatch.{WatchExact}
use Rattle.demands.specs.calls.KeptCutsLaws.{number_unique}
use Rattle.demands.specs.calls.OpenLaws.{OpenCase, open_case, turns_back, opens}
use Rattle.demands.specs.lists.Looked.{right_record}
use Rattle.demands.specs.forms.Moves.{written_sound}
use Rattle.demands.specs.forms.EveryWatch.{every-watch_exact}

-- ---- What calls leave of taken events and closed processes

-- Either of two ledgers with the same.
either : (b : Bool) (M N L : Ledger) → (M.closed ≡ L.closed) × (M.history ≡ L.history)
    → (N.closed ≡ L.closed) × (N.history ≡ L.history)
    → ((cond b M N).closed ≡ L.closed) × ((cond b M N).history ≡ L.history)
either true M N L m n = m
either false M N L m n = n

offered_same : (w : ℕ) (s : List ℕ) (e : Event) (L : Ledger) (a : Answer)
    → ((offered_ledger w s e L a).closed ≡ L.closed) × ((offered_ledger w s e L a).history ≡ L.history)
unfolding offered_ledger
offered_same w s e L a = either (is_held a) _ L L (refl, refl) (refl, refl)

taken-same : (w : ℕ) (s : List ℕ) (i : ℕ) (L : Ledger) (a : Answer) → is_state a ≡ false
    → ((taken_ledger w s i L a).closed ≡ L.closed) × ((taken_ledger w s i L a).history ≡ L.history)
unfolding taken_ledger
taken-same w s i L a h = rw h (either (is_false_clock a) _ L L (refl, refl) (refl, refl))

-- ---- Answers

state_form : (a : Answer) → is_state a ≡ true
    → (counts : List ℕ) × (truth : Bool) × (kept : ℕ) × (a ≡ state counts truth kept)
state_form (turned_back n i) h = absurd (true≢false (sym h))
state_form (state c t n) h = (c, t, n, refl)
state_form nothing_ready h = absurd (true≢false (sym h))
state_form (held n) h = absurd (true≢false (sym h))
state_form again h = absurd (true≢false (sym h))
state_form (found i) h = absurd (true≢false (sym h))
state_form absent h = absurd (true≢false (sym h))
state_form (process_closed n) h = absurd (true≢false (sym h))

-- A take that answers a state was lent right lengths.
lengths_right : (w : ℕ) (W : Watch) (more : ℕ) (scratch : List ℕ)
    {a : Answer} {counts : List ℕ} {truth : Bool} {kept : ℕ}
    → ((RightLengths w W more scratch → ⊥) → a ≡ turned_back 6 0) → a ≡ state counts truth kept
    → RightLengths w W more scratch
lengths_right w W more scratch {a} {counts} {truth} {kept} wrong q =
    go (bad_window_length w n) refl (eqb (length scratch) n) refl
  where
    n : ℕ
    n = length (lent_window W more)

    never : (RightLengths w W more scratch → ⊥) → ⊥
    never bad =
        let y : turned_back 6 0 ≡ state counts truth kept = sym (wrong bad) ∙ q in
        let z : ◌≡◌ {A = ℕ} 0 1 = cc in absurd (omega arith)

    go : (b : Bool) → bad_window_length w n ≡ b → (c : Bool) → eqb (length scratch) n ≡ c → RightLengths w W more scratch
    go false h true e = (h, eqb-true (length scratch) n e)
    go true h c e = absurd (never (λ r. true≢false (sym h ∙ r.0)))
    go false h false e = absurd (never (λ r. true≢false (sym (eq-eqb (length scratch) n r.1) ∙ e)))

-- ---- Bytes

-- What an accepted close leaves.
process_few : (w p : ℕ) (s window : List ℕ) → 8 ≤ length s → kept_count s ≤ 1024
    → kept_count (close_process w p s window).bytes ≤ kept_count s
unfolding close_process closed_set
process_few w p s window long few =
    let closed = closing (closed_mask s) p in
    let gs = remaining w s closed (frontiers w window (kept_count s)) in
    let fewer = few_remain w s closed window (kept_count s) in
    let stored : number (put (set s 3 closed) 4 4 (length gs)) 4 4 ≡ length gs =
    number-put-same (set s 3 closed) 4 4 (length gs) (simp length-set (omega arith)) (omega (arith, fewer)) in
    omega (arith, stored, fewer)

close_few : (w p : ℕ) (s window : List ℕ) → 8 ≤ length s → kept_count s ≤ 1024
    → kept_count (close_call w p s window).bytes ≤ kept_count s
close_few w p s window long few = go (close_case w p s window)
  where
    go : Case w p s window (close_call w p s window) → kept_count (close_call w p s window).bytes ≤ kept_count s
    go (turned n _ _ _ q) = rw q (omega arith)
    go (accepted _ _ q) = rw q (process_few w p s window long few)

-- What an open leaves.
table_keeps : (w : ℕ) (table : List Line) (k : ℕ) (labels : List ℕ) (n : ℕ)
    → kept_count (open_table w table k labels n).bytes ≡ 1
unfolding open_table first_record bytes_of number value_of
table_keeps w table k labels n = refl

-- ---- Written watches

-- The number in the record is that of the kept cuts.
kept_number : (w k : ℕ) (f : Formula) (start : Cut) (Z : Watch) → WindowExact w k f start Z
    → KeptNumber k Z.ledger.closed Z.ledger.history (kept_count Z.bytes)
kept_number w k f start Z X = (
  X.cuts,
  X.cuts_are,
  sym (length-map X.cuts (frontier_after k f start Z.ledger.history)) ∙ ap length (sym X.frontiers_are)
      ∙ ap length (sym X.read_back) ∙ length-frontiers w Z.window (kept_count Z.bytes),
)

module _ (text : List ℕ) (k : ℕ) (labels : List ℕ) (eight : EightBytes labels) (w : ℕ) where
  exact_at : (Z : Watch) → Written text k labels w Z → (f : Formula) × WatchExact w k f (at labels) Z
  exact_at Z x = let r = every-watch_exact text k labels eight w Z x in (r.0, r.4)

  pub written-number : (Z : Watch) → Written text k labels w Z
      → KeptNumber k Z.ledger.closed Z.ledger.history (kept_count Z.bytes)
  written-number Z x = let e = exact_at Z x in kept_number w k e.0 (at labels) Z e.1.window

  pub written_few : (Z : Watch) → Written text k labels w Z → kept_count Z.bytes ≤ 1024
  written_few Z x = (exact_at Z x).1.window.kept_few

  long : (Z : Watch) → Written text k labels w Z → 8 ≤ length Z.bytes
  long Z x =
      let r = written_sound text k labels eight w Z x in
      let n = right_length w (length Z.bytes) (right_record w k r.0 (at labels) Z r.3) in
      omega (arith, n)

  -- Where taken events and closed processes are the same, so is the number.
  same_kept : (Y Z : Watch) → Written text k labels w Y → Written text k labels w Z
      → Z.ledger.closed ≡ Y.ledger.closed → Z.ledger.history ≡ Y.ledger.history
      → kept_count Z.bytes ≡ kept_count Y.bytes
  same_kept Y Z y z c h =
      number_unique k Y.ledger.closed Y.ledger.history (kept_count Z.bytes) (kept_count Y.bytes)
      (rw (c, h) at (written-number Z z)) (written-number Y y)

  -- An offer takes nothing and closes nothing.
  pub offer_keeps : (W : Watch) → Written text k labels w W → (mask : ℕ) (clock marks : List ℕ)
      → Passed w (offers mask clock marks)
      → kept_count (after w (offers mask clock marks) W).bytes ≡ kept_count W.bytes
  unfolding after
  offer_keeps W x mask clock marks p =
      let s = offered_same w W.bytes (offered_event mask clock marks) W.ledger
      (offer_call w mask clock marks W.bytes).answer in
      same_kept W (after w (offers mask clock marks) W) x (calls w W x (offers mask clock marks) p) s.0 s.1

  module _ (W : Watch) (x : Written text k labels w W) (cap more : ℕ) (scratch : List ℕ) where
    abbrev answer : Answer
    answer = (next_take w W cap more scratch).answer

    abbrev later : Watch
    later = after w (takes cap more scratch) W

    later_written : Written text k labels w later
    later_written = calls w W x (takes cap more scratch) tt

    -- A take that takes no event.
    pub take_keeps : is_state answer ≡ false → kept_count later.bytes ≡ kept_count W.bytes
    unfolding after
    take_keeps h =
        let stopped = stopped_at (trial_of w cap W.bytes (lent_window W more)) in
        let s = taken-same w W.bytes stopped W.ledger answer h in
        same_kept W later x later_written s.0 s.1

    -- One that takes an event.
    pub take_within : is_state answer ≡ true → kept_count later.bytes ≤ cap
    take_within h =
        let E = exact_at W x in
        let q = state_form answer h in
        let right : RightLengths w W more scratch =
        lengths_right w W more scratch (E.1.takes.wrong_lengths cap more scratch).1 q.3 in
        let A = E.1.takes.right_lengths cap more scratch right in
        let T = (A.state_exactly q.0 q.1 q.2).0 q.3 in
        let next = A.ledger_state q.0 q.1 q.2 T in
        let same : kept_count later.bytes ≡ q.2 =
        number_unique k W.ledger.closed (T.event ∷ W.ledger.history) (kept_count later.bytes) q.2
        (rw next at (written-number later later_written)) T.kept_are in
        omega (arith, same, T.fits, min-le_left cap (room_of w (length (lent_window W more))))

  -- A close keeps no more than there were.
  pub close_keeps : (W : Watch) → Written text k labels w W → (p : ℕ)
      → kept_count (after w (closes p) W).bytes ≤ kept_count W.bytes
  unfolding after
  close_keeps W x p = close_few w p W.bytes W.window (long W x) (written_few W x)

-- A watch that was just opened keeps one.
pub open_keeps : (w : ℕ) (text : List ℕ) (k : ℕ) (labels s window : List ℕ) → Accepts w text k labels s window
    → kept_count (open_call w text k labels s window).bytes ≡ 1
open_keeps w text k labels s window a = go (open_case w text k labels s window)
  where
    go : OpenCase w text k labels s window → kept_count (open_call w text k labels s window).bytes ≡ 1
    go (turns_back n i q) =
        let y : turned_back n i ≡ state a.0 a.1 a.2 = sym (ap (λ (o : Opened). o.answer) q) ∙ a.3 in
        let z : ◌≡◌ {A = ℕ} 0 1 = cc in absurd (omega arith)
    go (opens f i h6 h5 h9 h q) =
        ap (λ (o : Opened). kept_count o.bytes) q ∙ table_keeps w (lines_at 0 f) k labels (length window)
