-- The balance of the ledger: every accepted event was taken, left with a false clock, or is pending (01, The calls).
use Prim.Native.Nat.{ℕ, ◌+◌, ◌<◌}
use Rattle.std.proofs.Common.{arith, sym, ap, ◌∙◌, take-append-drop}
use Rattle.std.specs.Prelude.{◌≡◌, Bool, true, false, List, [], ◌∷◌, ◌++◌, length, get_or, take, drop, replicate}
use Rattle.std.proofs.Math.Path.{refl}
use Rattle.pactl.specs.declared.Line.{Line}
use Rattle.clocks.specs.declared.Event.{Event}
use Rattle.clocks.specs.Event.{Cut, one}
use Rattle.clocks.specs.SameEvent.{same_event}
use Rattle.demands.specs.bytes.InsertLaws.{length-insert_at, length-remove_at, insert_at-remove_at}
use Rattle.demands.specs.Watching.{Rule, Watching}
use Rattle.records.specs.Record.{pending_at, pending_events}
use Rattle.call_take.specs.Take.{allowed_of}
use Rattle.trial.specs.Trial.{valid_among}
use Rattle.trial.specs.TrialLaws.{Outcome, none_decides, falsifies, chooses}
use Rattle.demands.specs.calls.WatchingLaws.{says_event}
use Rattle.call_offer.specs.Offer.{place_among, offered_event}
use Rattle.call_close.specs.Close.{close_process}
use Rattle.call_close.specs.CloseCases as closing
use Rattle.call_close.specs.CloseCases.{CloseCase, close_case}
use Rattle.demands.specs.Ledger.{occurrences, Ledger}
use Rattle.demands.specs.Run.{Call, Watch, offered_ledger, accepted_by, closed_ledger, after, offers, takes, finds, closes, mislends}
use Rattle.demands.specs.Status.{insert_at, remove_at}
use Rattle.call_offer.specs.OfferCases.{OfferCase, offer_case, turned, repeats, accepted}
use Rattle.demands.specs.calls.AfterCall.{WatchRight, no_event, lengthened, bad_lengths, take_6, decision, take-else, trial, ledger_then}
use Rattle.demands.specs.calls.TakeLedger.{ledger_after}
use Rattle.demands.specs.statements.Balance.{Balanced}

-- ---- occurrences in a list with one element more or less
pub occurs_append : (e : Event) (xs ys : List Event) → occurrences e (xs ++ ys) ≡ occurrences e xs + occurrences e ys
unfolding occurrences
occurs_append e [] ys = omega arith
occurs_append e (x ∷ xs) ys = omega (arith, occurs_append e xs ys)

pub occurs_insert : (e : Event) (i : ℕ) (x : Event) (xs : List Event)
    → occurrences e (insert_at i x xs) ≡ one (same_event e x) + occurrences e xs
unfolding insert_at occurrences
occurs_insert e i x xs = omega (
  arith,
  occurs_append e (take i xs) (x ∷ drop i xs),
  occurs_append e (take i xs) (drop i xs),
  ap (occurrences e) (take-append-drop i xs),
)

pub occurs_remove : (e : Event) (i : ℕ) (xs : List Event) (d : Event) → i < length xs
    → one (same_event e (get_or xs i d)) + occurrences e (remove_at i xs) ≡ occurrences e xs
occurs_remove e i xs d l =
    sym (occurs_insert e i (get_or xs i d) (remove_at i xs)) ∙ ap (occurrences e) (insert_at-remove_at i xs d l)

-- ---- The balance of a watch
abbrev pub WatchBalanced : Watch → Type 0
WatchBalanced W = Balanced W.ledger W.accepted

-- ---- Every call keeps it
module _ (w k : ℕ) (table : List Line) (start : Cut) (R : Rule w k table start) where
  after_offer : (W : Watch) → WatchRight w k table start W → WatchBalanced W → (mask : ℕ) (clock labels : List ℕ)
      → WatchBalanced (after w (offers mask clock labels) W)
  unfolding after offered_ledger accepted_by occurrences
  after_offer W X B mask clock labels = go (offer_case w mask clock labels W.bytes)
    where
      go : OfferCase w mask clock labels W.bytes → WatchBalanced (after w (offers mask clock labels) W)
      go (turned n some small other q) = rw q B
      go (repeats h7 h q) = rw q B
      go (accepted h7 h8 h9 h42 h31 h32 h33 q) =
          let new : Event = offered_event mask clock labels in
          let place : ℕ = place_among new (pending_events w W.bytes) in
          rw q (record {
            each = λ e. omega (arith, B.each e, occurs_insert e place new W.ledger.pending);
            total = omega (arith, B.total, length-insert_at place new W.ledger.pending);
          })

  after-take : (W : Watch) → WatchRight w k table start W → WatchBalanced W → (cap more : ℕ) (scratch : List ℕ)
      → WatchBalanced (after w (takes cap more scratch) W)
  unfolding after ledger_after occurrences
  after-take W X B cap more scratch = go (bad_lengths w k table start R L bytes lent X' cap scratch) refl
    where
      L : Ledger
      L = W.ledger

      bytes : List ℕ
      bytes = W.bytes

      lent : List ℕ
      lent = W.window ++ replicate more 0

      X' : Watching w k table start L bytes lent
      X' = lengthened w k table start R L bytes W.window X more

      event_is : (j : ℕ) → j < length L.pending → pending_at w bytes j ≡ get_or L.pending j no_event
      event_is j l = says_event w k table start R L bytes lent X' j no_event l

      decide : Outcome w bytes (valid_among X'.kept) (allowed_of w cap lent) X'.kept 0 false L.pending no_event
          → ledger_then w k table start R L bytes lent X' cap scratch
          ≡ ledger_after w bytes L (decision w k table start R L bytes lent X' cap scratch)
          → WatchBalanced (after w (takes cap more scratch) W)
      decide (none_decides b q u o) t = rw (t, q) B
      decide (falsifies j l q r n x) t =
          let i : 0 + j ≡ j = omega arith in
          rw (t, q, i, event_is j l)
          (record {
            each = λ e. omega (arith, B.each e, occurs_remove e j L.pending no_event l);
            total = omega (arith, B.total, length-remove_at j L.pending l);
          })
      decide (chooses j l q r v f x) t =
          let i : 0 + j ≡ j = omega arith in
          rw (t, q, i, event_is j l)
          (record {
            each = λ e. omega (arith, B.each e, occurs_remove e j L.pending no_event l);
            total = omega (arith, B.total, length-remove_at j L.pending l);
          })

      go : (b : Bool) → bad_lengths w k table start R L bytes lent X' cap scratch ≡ b
          → WatchBalanced (after w (takes cap more scratch) W)
      go true h = rw (take_6 w k table start R L bytes lent X' cap scratch h).1 B
      go false h =
          decide (trial w k table start R L bytes lent X' cap scratch)
          (take-else w k table start R L bytes lent X' cap scratch h).1

  after_close_lem : (W : Watch) → WatchBalanced W → (p : ℕ) → WatchBalanced (after w (closes p) W)
  unfolding after closed_ledger close_process
  after_close_lem W B p = go (close_case w p W.bytes W.window)
    where
      go : CloseCase w p W.bytes W.window → WatchBalanced (after w (closes p) W)
      go (closing.turned n some small other q) = rw q B
      go (closing.accepted h41 h42 q) = rw q (record { each = B.each; total = B.total })

  pub after_balanced : (W : Watch) → WatchRight w k table start W → WatchBalanced W → (c : Call)
      → WatchBalanced (after w c W)
  after_balanced W X B (offers mask clock labels) = after_offer W X B mask clock labels
  after_balanced W X B (takes cap more scratch) = after-take W X B cap more scratch
  after_balanced W X B (closes p) = after_close_lem W B p
  after_balanced W X B (finds line) = unfold after in record { each = B.each; total = B.total }
  after_balanced W X B (mislends m) = unfold after in record { each = B.each; total = B.total }
