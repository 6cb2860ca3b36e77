-- A busiest day is taken whole: its events may be taken in the list's order, and the frontiers that they keep on the
-- way are never more than at its end.
use Rattle.std.specs.Prelude.{ℕ, zero, suc, ◌*◌, ◌≤◌, ◌<◌, ◌≡◌, length, replicate}
use Rattle.std.proofs.Common.{arith, suc-mul, sym, ◌∙◌, ⊎_elim}
use Rattle.std.proofs.Math.Path.{refl, ap}
use Rattle.std.proofs.Math.Bool.{false}
use mathlib.Core.List.Memᴰ
use mathlib.Core.List.{List, [], ◌∷◌, reverse, Memᴰ}
use Rattle.std.proofs.lemmas.List.{length-reverse}
use borrow.Author.Tests.{le-ltb, eq-eqb, ne_eqb}
use Rattle.clocks.specs.declared.Event.{Event}
use Rattle.clocks.specs.History.{taken, In}
use Rattle.clocks.specs.Valid.{History}
use Rattle.clocks.specs.Counts.{at, list_of}
use Rattle.clocks.specs.Refusal.{Faultless}
use Rattle.clocks.specs.cuts.EventLaws.{ready_next}
use Rattle.clocks.specs.stored.RefusalLaws.{start_labels_fine}
use Rattle.rules.specs.Line.{lines_at}
use Rattle.rules.specs.Formula.{Formula}
use Rattle.rules.specs.Text.{text_of, Grammatical, WithinLimits}
use Rattle.rules.specs.Reader.{formed}
use Rattle.rules.specs.reading.ReaderAccepts.{reader_accepts, accepts}
use Rattle.frontiers.specs.Bytes.{frontier_length}
use Rattle.records.specs.Record.{record_length}
use Rattle.refusals.specs.Refusals.{bad_record_length, bad_window_length, bad_processes}
use Rattle.answers.specs.Answer.{state_of}
use Rattle.call_open.specs.Open.{Opened, open_call, open_read, open_table}
use Rattle.call_busiest.specs.Sharing.{share, shares, product, sharing_keeps}
use Rattle.call_busiest.specs.SharingLaws.{kept_first, total-shares}
use Rattle.call_busiest.specs.Busiest.{single}
use Rattle.call_busiest.specs.BusiestExact.{Day}
use Rattle.call_busiest.specs.BusiestTheorem.{busiest_exact}
use Rattle.sharing_laws.specs.DayLaws.{day_member, length-day}
use Rattle.demands.specs.Ledger.{Ledger}
use Rattle.demands.specs.Run.{run, opened}
use Rattle.demands.specs.World.{Valid}
use Rattle.demands.specs.EveryList.{Accepts, EightBytes, at_end}
use Rattle.demands.specs.bytes.Sized.{Storable}
use Rattle.demands.specs.calls.OpenLaws.{OpenCase, open_case, turns_back, opens, opened_long}
use Rattle.demands.specs.calls.WindowRooms.{bad_length}
use Rattle.demands.specs.lists.SoundRun.{sound_run}
use Rattle.demands.specs.lists.DayListed.{there, value, storable, read, in_reverse, day_is_listed}
use Rattle.demands.specs.lists.Busiest.{busiest_kept_of}
use Rattle.demands.specs.statements.Busiest.{Gives, listed}
use Rattle.demands.specs.statements.BusiestTaken.{day_calls, DayIsTaken, DayFitsItsWindow}
use Rattle.demands.specs.lists.DayCalls.{Sendable, all_took, all_passed}

-- ---- The events of the day

at-zeros : (n q : ℕ) → at (replicate n 0) q ≡ 0
at-zeros zero q = refl
at-zeros (suc n) zero = refl
at-zeros (suc n) (suc q) = at-zeros n q

-- An event of a history whose labels are all 0 is without fault.
history_faultless : (k : ℕ) (ts : List Event) → History k Valid ts → (e : Event) → In e ts
    → ((p : ℕ) → at e.labels p ≡ 0) → Faultless k e
history_faultless k [] h e m z = absurd (Memᴰ.not-nil m)
history_faultless k (x ∷ ts) h e m z =
    ⊎_elim
    (λ q. rw q (record {
      formed = h.0.formed;
      counted = λ p b. omega (arith, ready_next x (taken ts) h.0.ready p b);
      unlabelled = λ p b. rw q at (z p);
    }))
    (λ i. history_faultless k ts h.1 e i z) (Memᴰ.cases_cons m)

module _ (v : ℕ) (wide : 2 ≤ v) (k n : ℕ) (events : List ℕ) (m : ℕ) (given : Gives v k n events m) where
  abbrev es : List Event
  es = listed v k n events

  d : Day k n
  d = there v k n events m given

  pub listed_many : length es ≡ n
  listed_many =
      ap length (read v wide k n events m given) ∙ length-day (share k n) k ∙ total-shares k n d.some_process

  pub listed_storable : (w : ℕ) → 2 ≤ w → (e : Event) → Memᴰ e es → Storable w e
  listed_storable w wider e i = storable w wider k n d e (rw (read v wide k n events m given) at i)

  listed_sendable : (w : ℕ) → 2 ≤ w → (e : Event) → Memᴰ e es → Sendable w k e
  unfolding single
  listed_sendable w wider e i =
      let r = day_member (share k n) k e (rw (read v wide k n events m given) at i) in
      record {
        fine =
            history_faultless k (reverse es) (day_is_listed v wide k n events m given).history e
            ((in_reverse e es).0 i) (λ p. rw r.4 (at-zeros 8 p));
        fits = listed_storable w wider e i;
      }

-- ---- Open

-- The window is as long as it was lent.
pub open_long : (w : ℕ) → 0 < w → (text : List ℕ) (k : ℕ) (labels : List ℕ) → EightBytes labels → (s window : List ℕ)
    → length (open_call w text k labels s window).window ≡ length window
unfolding open_table
open_long w pos text k labels eight s window = go (open_case w text k labels s window)
  where
    go : OpenCase w text k labels s window → length (open_call w text k labels s window).window ≡ length window
    go (turns_back n i q) = rw q
    go (opens f i h6 h5 h9 h q) =
        rw q (opened_long w text k labels window pos eight.0 eight.1 f i h6 h5 h)

-- ---- A day keeps some frontier

some_kept : (c : ℕ) (cs : List ℕ) → 1 ≤ sharing_keeps (c ∷ cs)
unfolding product
some_kept c [] = omega (arith, kept_first c [])
some_kept c (b ∷ cs) =
    omega (arith, kept_first c (b ∷ cs), some_kept b cs, suc-mul c (sharing_keeps (b ∷ cs)))

shares_keep : (k n : ℕ) → 1 ≤ k → 1 ≤ sharing_keeps (shares k n)
unfolding list_of
shares_keep zero n l = absurd (omega arith)
shares_keep (suc k) n l = some_kept _ _

given_some : (v k n : ℕ) (events : List ℕ) (m : ℕ) → Gives v k n events m → 1 ≤ m
given_some v k n events m given =
    omega (arith, value v k n events m given, shares_keep k n (there v k n events m given).some_process)

-- ---- Theorems

pub day_is_taken : DayIsTaken
unfolding run
day_is_taken v wide k n events m given w wider text labels eight s window a room more_than few more long scratch even =
    let es : List Event = listed v k n events in
    let d = there v k n events m given in
    let day = day_is_listed v wide k n events m given in
    let fine = listed_sendable v wide k n events m given w wider in
    let o = open_call w text k labels s window in
    let x = sound_run w (omega arith) text k labels eight s window a [] (λ c i. absurd (Memᴰ.not-nil i)) in
    let f = x.0 in
    let T = (all_took w k f (at labels) d.some_process d.eight_processes room
    (omega (arith, given_some v k n events m given)) few n (omega (arith, value v k n events m given)) scratch even
    (o.answer ∷ []) es [] day.history (λ e i. day.alone e ((in_reverse e es).1 i))
    (omega (arith, length-reverse es, listed_many v wide k n events m given)) fine more (opened o)
    (record {
      sound = x.3;
      ledger_is = refl;
      answers_are = refl;
      lent = omega (arith, long, open_long w (omega arith) text k labels eight s window);
    })
    ).1 in
    let same : (at_end w text k labels s window (day_calls more scratch es)).ledger.history ≡ reverse es =
    ap (λ (L : Ledger). L.history) T.ledger_is in (
      all_passed w k scratch es fine more,
      (
        f,
        x.1,
        x.2,
        ((reader_accepts text k x.1 f).0 x.2).0,
        record {
          all_taken = T.ledger_is;
          keeps =
              (busiest_kept_of w k f (at labels) (at_end w text k labels s window (day_calls more scratch es)) T.sound
              ).day_kept (ap (λ (L : Ledger). L.closed) T.ledger_is) v wide n events m given
              (λ e. (λ i. (in_reverse e es).1 (rw same at i), λ i. rw same ((in_reverse e es).0 i)));
          answered = T.answers_are;
        },
      ),
    )

-- Open accepts a window of m frontiers.
module _ (v k n : ℕ) (events : List ℕ) (m : ℕ) (given : Gives v k n events m) where
  given_few : m ≤ 1024
  given_few = omega (arith, value v k n events m given, (((busiest_exact v k n events).given m).0 given).1)

  right_window : (w : ℕ) → bad_window_length w (m * frontier_length w) ≡ false
  right_window w = bad_length w m ∙ rw (le-ltb m 1 (given_some v k n events m given), le-ltb 1024 m given_few)

  right_processes : bad_processes k ≡ false
  unfolding bad_processes
  right_processes =
      let d = there v k n events m given in
      let some : k ≡ 0 → ⊥ = λ q. omega (arith, d.some_process) in
      rw (ne_eqb k 0 some, le-ltb 8 k d.eight_processes)

  window_opens : (f : Formula) → Grammatical f → WithinLimits k f
      → (labels : List ℕ) → length labels ≡ 8 → ((p : ℕ) → k ≤ p → at labels p ≡ 0)
      → (w : ℕ) (s window : List ℕ) → length s ≡ record_length w → length window ≡ m * frontier_length w
      → Accepts w (text_of f) k labels s window
  unfolding open_call open_read open_table state_of bad_record_length
  window_opens f grammatical within labels eight above w s window long wide =
      let fits : bad_window_length w (length window) ≡ false = rw wide (right_window w) in
      let opens_so : open_call w (text_of f) k labels s window ≡ open_table w (lines_at 0 f) k labels (length window) =
      rw (
        eq-eqb (length s) (record_length w) long,
        fits,
        right_processes,
        (start_labels_fine k labels (omega arith)).1 above,
        accepts (text_of f) k f refl grammatical within,
      ) in
      (_, _, _, ap (λ (o : Opened). o.answer) opens_so)

pub day-fits_its_window : DayFitsItsWindow
day-fits_its_window v wide k n events m given f grammatical within labels eight above w wider s window scratch long
    lent even =
    let a = window_opens v k n events m given f grammatical within labels eight.0 above w s window long lent in
    let r = day_is_taken v wide k n events m given w wider (text_of f) labels eight s window a m (omega arith)
    (given_few v k n events m given) 0 (omega (arith, lent)) scratch even in
    let q : formed r.1.1 r.1.0 ≡ formed (length (text_of f)) f =
    sym r.1.2 ∙ accepts (text_of f) k f refl grammatical within in
    let same : r.1.0 ≡ f = cc in
    (a, r.0, rw same at r.1.4)
