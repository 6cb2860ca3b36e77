-- The answers of the next take after a list of calls, and exactly when each comes: from the cases of its trial.
use Rattle.std.specs.Prelude.{ℕ, ◌≡◌, refl, true, ◌||◌, List, ◌∷◌, ◌++◌, ◌↔◌, ◌⊎◌, ◌≢◌, eqb, length}
use Rattle.std.proofs.Common.{arith, sym, ap, ◌∙◌, inr, inl}
use Rattle.std.proofs.Math.Bool.{Bool, false, not}
use borrow.Author.Tests.{eq-eqb, eqb-true, not-false}
use Rattle.clocks.specs.declared.Event.{Event}
use Rattle.window_laws.specs.FrontierOf.{model_of}
use Rattle.clocks.specs.History.{taken}
use Rattle.clocks.specs.Event.{Cut}
use Rattle.clocks.specs.Counts.{list_of}
use Rattle.demands.specs.Watching.{Rule, Watching}
use Rattle.call_take.specs.Take.{allowed_of, take_capped, Taken}
use Rattle.records.specs.Record.{record_length}
use Rattle.refusals.specs.Refusals.{bad_record_length, bad_window_length}
use Rattle.answers.specs.Answer.{turned_back, state, nothing_ready}
use Rattle.demands.specs.calls.WatchingLaws.{bytes_long}
use Rattle.demands.specs.Ledger.{Ledger, Settled}
use Rattle.demands.specs.calls.AfterCall.{bad_lengths, lengthened, take_6, ledger_then}
use Rattle.demands.specs.World.{world_of}
use Rattle.clocks.specs.stored.BoundedLaws.{or-false_e}
use Rattle.rules.specs.Formula.{Formula, meaning}
use Rattle.rules.specs.Line.{lines_at}
use Rattle.pactl.specs.Truth.{holds}
use Rattle.demands.specs.Run.{Watch, after}
use Rattle.demands.specs.EveryList.{lent_window, RightLengths, next_take}
use Rattle.demands.specs.statements.TakeAnswers.{NoRoom, FalseClock, Takes, AnswersExact, TakeIsExact, falsified_ledger, chosen_ledger, TakeExact}
use Rattle.demands.specs.calls.KeptCutsLaws.{number_unique}
use Rattle.demands.specs.calls.TakeLowers.{take_lowers}
use Rattle.demands.specs.lists.SoundRun.{Sound, every-list}
use Rattle.demands.specs.lists.TakeCases.{stops_pending, one_stop, false_stopping, takes_stopping, not-both, Answered, answered, nothing, full, falsified, took}

-- ---- Each answer exactly if
module _ (w k : ℕ) (f : Formula) (start : Cut) (R : Rule w k (lines_at 0 f) start) (L : Ledger) (bytes lent : List ℕ)
    (X : Watching w k (lines_at 0 f) start L bytes lent) (cap : ℕ) (scratch : List ℕ)
    (h : bad_lengths w k (lines_at 0 f) start R L bytes lent X cap scratch ≡ false) where
  abbrev allowed : ℕ
  allowed = allowed_of w cap lent

  -- the ledger after it
  abbrev then : Ledger
  then = ledger_then w k (lines_at 0 f) start R L bytes lent X cap scratch

  abbrev Cases : Type 0
  Cases = Answered w k f start R L bytes lent X cap scratch h

  abbrev cases : Cases
  cases = answered w k f start R L bytes lent X cap scratch h

  pub nothing_exactly : ((take_capped w cap bytes lent scratch).answer ≡ nothing_ready) ↔ Settled L
  nothing_exactly = (there cases, back cases)
    where
      there : Cases → (take_capped w cap bytes lent scratch).answer ≡ nothing_ready → Settled L
      there (nothing a s) q = s
      there (full a x) q = let z : ◌≡◌ {A = ℕ} 0 1 = cc in absurd (omega arith)
      there (falsified a x o) q = let z : ◌≡◌ {A = ℕ} 0 1 = cc in absurd (omega arith)
      there (took c t n a x o) q = let z : ◌≡◌ {A = ℕ} 0 1 = cc in absurd (omega arith)

      back : Cases → Settled L → (take_capped w cap bytes lent scratch).answer ≡ nothing_ready
      back (nothing a x) s = a
      back (full a x) s = absurd (s x.0.0 x.0.1 x.0.2)
      back (falsified a x o) s = absurd (s x.0 (stops_pending k allowed L x.0 x.1) x.1.ready)
      back (took c t n a x o) s =
          absurd (s x.event (stops_pending k allowed L x.event x.stops) x.stops.ready)

  pub no_room_exactly : ((take_capped w cap bytes lent scratch).answer ≡ turned_back 36 0) ↔ NoRoom k allowed L
  no_room_exactly = (there cases, back cases)
    where
      there : Cases → (take_capped w cap bytes lent scratch).answer ≡ turned_back 36 0 → NoRoom k allowed L
      there (nothing a s) q = let z : ◌≡◌ {A = ℕ} 0 1 = cc in absurd (omega arith)
      there (full a x) q = x
      there (falsified a x o) q = let z : ◌≡◌ {A = ℕ} 35 36 = cc in absurd (omega arith)
      there (took c t n a x o) q = let z : ◌≡◌ {A = ℕ} 0 1 = cc in absurd (omega arith)

      back : Cases → NoRoom k allowed L → (take_capped w cap bytes lent scratch).answer ≡ turned_back 36 0
      back (nothing a s) y = absurd (s y.0.0 y.0.1 y.0.2)
      back (full a x) y = a
      back (falsified a x o) y =
          absurd (false_stopping k allowed L x (y.1 x.0 (stops_pending k allowed L x.0 x.1)))
      back (took c t n a x o) y =
          absurd (takes_stopping k allowed L f start c t n x
          (y.1 x.event (stops_pending k allowed L x.event x.stops)))

  pub false_clock_exactly : ((take_capped w cap bytes lent scratch).answer ≡ turned_back 35 0) ↔ FalseClock k allowed L
  false_clock_exactly = (there cases, back cases)
    where
      there : Cases → (take_capped w cap bytes lent scratch).answer ≡ turned_back 35 0 → FalseClock k allowed L
      there (nothing a s) q = let z : ◌≡◌ {A = ℕ} 0 1 = cc in absurd (omega arith)
      there (full a x) q = let z : ◌≡◌ {A = ℕ} 36 35 = cc in absurd (omega arith)
      there (falsified a x o) q = x
      there (took c t n a x o) q = let z : ◌≡◌ {A = ℕ} 0 1 = cc in absurd (omega arith)

      back : Cases → FalseClock k allowed L → (take_capped w cap bytes lent scratch).answer ≡ turned_back 35 0
      back (nothing a s) y = absurd (s y.0 (stops_pending k allowed L y.0 y.1) y.1.ready)
      back (full a x) y = absurd (false_stopping k allowed L y (x.1 y.0 (stops_pending k allowed L y.0 y.1)))
      back (falsified a x o) y = a
      back (took c t n a x o) y = absurd (not-both k allowed L f start c t n x y)

  pub takes_exactly : (counts : List ℕ) (truth : Bool) (kept : ℕ)
      → ((take_capped w cap bytes lent scratch).answer ≡ state counts truth kept)
      ↔ Takes k allowed f start L counts truth kept
  takes_exactly counts truth kept = (there cases, back cases)
    where
      there : Cases → (take_capped w cap bytes lent scratch).answer ≡ state counts truth kept
          → Takes k allowed f start L counts truth kept
      there (nothing a s) q = let z : ◌≡◌ {A = ℕ} 0 1 = cc in absurd (omega arith)
      there (full a x) q = let z : ◌≡◌ {A = ℕ} 0 1 = cc in absurd (omega arith)
      there (falsified a x o) q = let z : ◌≡◌ {A = ℕ} 0 1 = cc in absurd (omega arith)
      there (took c t n a x o) q =
          let i : counts ≡ c = cc in
          let j : truth ≡ t = cc in
          let m : kept ≡ n = cc in
          rw (i, j, m) x

      back : Cases → Takes k allowed f start L counts truth kept
          → (take_capped w cap bytes lent scratch).answer ≡ state counts truth kept
      back (nothing a s) y = absurd (s y.event (stops_pending k allowed L y.event y.stops) y.stops.ready)
      back (full a x) y =
          absurd (takes_stopping k allowed L f start counts truth kept y
          (x.1 y.event (stops_pending k allowed L y.event y.stops)))
      back (falsified a x o) y = absurd (not-both k allowed L f start counts truth kept y x)
      back (took c t n a x o) y =
          let x_stops = takes_stopping k allowed L f start c t n x in
          let y_stops = takes_stopping k allowed L f start counts truth kept y in
          let e : x.event ≡ y.event =
          (one_stop k allowed L x.event y.event x.stops x_stops y.stops y_stops).1 in
          let i : c ≡ counts =
          x.counts_are ∙ ap (λ (d : Event). list_of 8 (taken (d ∷ L.history))) e ∙ sym y.counts_are in
          let truth-at : Event → Bool = λ d.
          holds (model_of (world_of k 0 (lines_at 0 f) start) (d ∷ L.history)) (meaning f) (taken (d ∷ L.history)) in
          let j : t ≡ truth = x.truth_is ∙ ap truth-at e ∙ sym y.truth_is in
          let m : n ≡ kept =
          number_unique k L.closed (y.event ∷ L.history) n kept (rw (← e) x.kept_are) y.kept_are in
          a ∙ rw (i, j, m)

  pub false_ledger : (x : FalseClock k allowed L) → then ≡ falsified_ledger L x.0 (x.1.earlier ++ x.1.later)
  false_ledger y = go cases
    where
      go : Cases → then ≡ falsified_ledger L y.0 (y.1.earlier ++ y.1.later)
      go (nothing a s) = absurd (s y.0 (stops_pending k allowed L y.0 y.1) y.1.ready)
      go (full a x) = absurd (false_stopping k allowed L y (x.1 y.0 (stops_pending k allowed L y.0 y.1)))
      go (falsified a x o) =
          let x_stops = false_stopping k allowed L x in
          let u = one_stop k allowed L x.0 y.0 x.1 x_stops y.1 (false_stopping k allowed L y) in
          o ∙ rw (u.0, u.1, u.2)
      go (took c t n a x o) = absurd (not-both k allowed L f start c t n x y)

  pub state_ledger : (counts : List ℕ) (truth : Bool) (kept : ℕ) (x : Takes k allowed f start L counts truth kept)
      → then ≡ chosen_ledger L x.event (x.stops.earlier ++ x.stops.later)
  state_ledger counts truth kept y = go cases
    where
      go : Cases → then ≡ chosen_ledger L y.event (y.stops.earlier ++ y.stops.later)
      go (nothing a s) = absurd (s y.event (stops_pending k allowed L y.event y.stops) y.stops.ready)
      go (full a x) =
          absurd (takes_stopping k allowed L f start counts truth kept y
          (x.1 y.event (stops_pending k allowed L y.event y.stops)))
      go (falsified a x o) = absurd (not-both k allowed L f start counts truth kept y x)
      go (took c t n a x o) =
          let x_stops = takes_stopping k allowed L f start c t n x in
          let y_stops = takes_stopping k allowed L f start counts truth kept y in
          let u = one_stop k allowed L x.event y.event x.stops x_stops y.stops y_stops in
          o ∙ rw (u.0, u.1, u.2)

  pub no_other_answer : ((take_capped w cap bytes lent scratch).answer ≡ nothing_ready)
      ⊎ (((take_capped w cap bytes lent scratch).answer ≡ turned_back 36 0)
      ⊎ (((take_capped w cap bytes lent scratch).answer ≡ turned_back 35 0)
      ⊎ ((counts : List ℕ) × (truth : Bool) × (kept : ℕ)
      × ((take_capped w cap bytes lent scratch).answer ≡ state counts truth kept))))
  no_other_answer = go cases
    where
      go : Cases → ((take_capped w cap bytes lent scratch).answer ≡ nothing_ready)
          ⊎ (((take_capped w cap bytes lent scratch).answer ≡ turned_back 36 0)
          ⊎ (((take_capped w cap bytes lent scratch).answer ≡ turned_back 35 0)
          ⊎ ((counts : List ℕ) × (truth : Bool) × (kept : ℕ)
          × ((take_capped w cap bytes lent scratch).answer ≡ state counts truth kept))))
      go (nothing a s) = inl a
      go (full a x) = inr (inl a)
      go (falsified a x o) = inr (inr (inl a))
      go (took c t n a x o) = inr (inr (inr (c, t, n, a)))

  -- 6 and 34 do not come
  pub other_number : (m : ℕ) → m ≢ 35 → m ≢ 36 → (take_capped w cap bytes lent scratch).answer ≢ turned_back m 0
  other_number m n35 n36 q = go cases
    where
      go : Cases → ⊥
      go (nothing a s) = let z : ◌≡◌ {A = ℕ} 0 1 = cc in absurd (omega arith)
      go (full a x) = n36 (cc)
      go (falsified a x o) = n35 (cc)
      go (took c t n a x o) = let z : ◌≡◌ {A = ℕ} 0 1 = cc in absurd (omega arith)

-- ---- After a list of calls
module _ (w k : ℕ) (f : Formula) (start : Cut) (Z : Watch) (S : Sound w k f start Z) (cap more : ℕ)
    (scratch : List ℕ) where
  abbrev lent : List ℕ
  lent = lent_window Z more

  -- the watch with a window lent longer
  abbrev longer : Watching w k (lines_at 0 f) start Z.ledger Z.bytes lent
  longer = lengthened w k (lines_at 0 f) start S.rule Z.ledger Z.bytes Z.window S.right more

  abbrev wrong : Bool
  wrong = bad_lengths w k (lines_at 0 f) start S.rule Z.ledger Z.bytes lent longer cap scratch

  -- the record's length is right
  long : length Z.bytes ≡ record_length w
  long = bytes_long w k (lines_at 0 f) start S.rule Z.ledger Z.bytes Z.window S.right

  pub lengths_right : RightLengths w Z more scratch → wrong ≡ false
  unfolding bad_lengths bad_record_length
  lengths_right h =
      rw (eq-eqb (length Z.bytes) (record_length w) long, h.0, eq-eqb (length scratch) (length lent) h.1)

  pub lengths_known : wrong ≡ false → RightLengths w Z more scratch
  unfolding bad_lengths bad_record_length
  lengths_known h =
      let b : Bool = bad_window_length w (length lent) in
      let c : Bool = not (eqb (length scratch) (length lent)) in
      let u = or-false_e b c (or-false_e (not (eqb (length Z.bytes) (record_length w))) (b || c) h).1 in
      (u.0, eqb-true (length scratch) (length lent) (not-false _ u.1))

  abbrev six : wrong ≡ true → (next_take w Z cap more scratch).answer ≡ turned_back 6 0
  six b =
      ap (λ (x : Taken). x.answer)
      (take_6 w k (lines_at 0 f) start S.rule Z.ledger Z.bytes lent longer cap scratch b).0

  pub six_exactly : ((next_take w Z cap more scratch).answer ≡ turned_back 6 0) ↔ (RightLengths w Z more scratch → ⊥)
  six_exactly = (
    (λ q r. other_number w k f start S.rule Z.ledger Z.bytes lent longer cap scratch (lengths_right r) 6
        (λ z. omega arith) (λ z. omega arith) q),
    λ n. go n wrong refl,
  )
    where
      go : (RightLengths w Z more scratch → ⊥) → (b : Bool) → wrong ≡ b
          → (next_take w Z cap more scratch).answer ≡ turned_back 6 0
      go n true b = six b
      go n false b = absurd (n (lengths_known b))

  pub not_34 : (next_take w Z cap more scratch).answer ≢ turned_back 34 0
  not_34 q = go wrong refl
    where
      go : (b : Bool) → wrong ≡ b → ⊥
      go true b = let z : ◌≡◌ {A = ℕ} 6 34 = (let y = six b in cc) in absurd (omega arith)
      go false b =
          other_number w k f start S.rule Z.ledger Z.bytes lent longer cap scratch b 34
          (λ z. omega arith) (λ z. omega arith) q

  pub nothing_after : RightLengths w Z more scratch
      → ((next_take w Z cap more scratch).answer ≡ nothing_ready) ↔ Settled Z.ledger
  nothing_after h =
      nothing_exactly w k f start S.rule Z.ledger Z.bytes lent longer cap scratch (lengths_right h)

  answers_exact : RightLengths w Z more scratch → AnswersExact w k f start Z cap more scratch
  unfolding after
  answers_exact h =
      let b : wrong ≡ false = lengths_right h in
      record {
        nothing_exactly = nothing_exactly w k f start S.rule Z.ledger Z.bytes lent longer cap scratch b;
        full_exactly = no_room_exactly w k f start S.rule Z.ledger Z.bytes lent longer cap scratch b;
        false_exactly = false_clock_exactly w k f start S.rule Z.ledger Z.bytes lent longer cap scratch b;
        state_exactly = takes_exactly w k f start S.rule Z.ledger Z.bytes lent longer cap scratch b;
        no_other = no_other_answer w k f start S.rule Z.ledger Z.bytes lent longer cap scratch b;
        ledger_false = false_ledger w k f start S.rule Z.ledger Z.bytes lent longer cap scratch b;
        ledger_state = state_ledger w k f start S.rule Z.ledger Z.bytes lent longer cap scratch b;
      }

pub take_exact_of : (w k : ℕ) (f : Formula) (start : Cut) (Z : Watch) → Sound w k f start Z → TakeExact w k f start Z
take_exact_of w k f start Z S = record {
  wrong_lengths = six_exactly w k f start Z S;
  right_lengths = answers_exact w k f start Z S;
  never_34 = not_34 w k f start Z S;
  lowers =
      λ cap more scratch. take_lowers w k (lines_at 0 f) start S.rule Z.ledger Z.bytes (lent_window Z more)
      (lengthened w k (lines_at 0 f) start S.rule Z.ledger Z.bytes Z.window S.right more) cap scratch;
}

-- ---- Theorem
pub take_exact : TakeIsExact
take_exact = every-list _ take_exact_of
