-- The ledger of a list of calls lists as many events as the answers say: each call's answer goes with what it does to
-- the ledger.
use Rattle.std.specs.Prelude.{ℕ, ◌+◌, ◌≡◌, Bool, true, false, cond, ◌||◌, List, [], ◌∷◌, ◌++◌, leb, length, replicate}
use Rattle.std.proofs.Common.{arith, inl, inr}
use Rattle.std.proofs.Math.Path.{refl}
use Rattle.frontiers.specs.declared.Frontier.{Frontier}
use Rattle.frontiers.specs.Bytes.{frontiers}
use Rattle.pactl.specs.declared.Line.{Line}
use Rattle.clocks.specs.declared.Event.{Event}
use Rattle.clocks.specs.Event.{Cut}
use Rattle.codec.specs.Bit.{bit}
use Rattle.records.specs.Record.{line_total, kept_count}
use Rattle.refusals.specs.Refusals.{room_of, bad_record_length, bad_window_length, bad_state}
use Rattle.answers.specs.Answer.{Answer, turned_back, again, found, absent, state_of}
use Rattle.trial.specs.Trial.{Decision, undecided, false_clock, chosen}
use Rattle.call_take.specs.Take.{decided}
use Rattle.call_find.specs.Find.{find_from, find_call}
use Rattle.call_close.specs.Close.{close_process}
use Rattle.call_close.specs.CloseCases as closing
use Rattle.call_close.specs.CloseCases.{CloseCase, close_case}
use Rattle.demands.specs.Ledger.{Ledger}
use Rattle.demands.specs.Run.{Watch, Call, Passed, offers, takes, finds, closes, mislends, offered_ledger, accepted_by, closed_ledger, after}
use Rattle.demands.specs.Mislent.{Mislent, TurnedAway, answer_to}
use Rattle.demands.specs.Watching.{Rule, Watching}
use Rattle.demands.specs.statements.Balance.{how_many}
use Rattle.answers.specs.Kinds.{is_held, is_state, is_false_clock}
use Rattle.call_offer.specs.OfferCases.{OfferCase, offer_case, turned, repeats, accepted}
use Rattle.demands.specs.calls.TakeLedger.{ledger_after}
use Rattle.demands.specs.calls.AfterCall.{WatchRight, lengthened, bad_lengths, decision, take_6, take-else}

-- The ledger lists as many events as the answers say.
pub record Said (L : Ledger) (accepted : List Event) (answers : List Answer) : Type 0 where
  pub accepted_said : how_many is_held answers ≡ length accepted
  pub taken_said : how_many is_state answers ≡ length L.history + 1
  pub falsified_said : how_many is_false_clock answers ≡ length L.falsified

-- an answer of none of the three kinds changes nothing
plain : (L : Ledger) (es : List Event) (answers : List Answer) → Said L es answers → (a : Answer) → is_held a ≡ false
    → is_state a ≡ false → is_false_clock a ≡ false → Said L es (a ∷ answers)
unfolding how_many
plain L es answers Y a x y z = record {
  accepted_said = rw x (omega (arith, Y.accepted_said));
  taken_said = rw y (omega (arith, Y.taken_said));
  falsified_said = rw z (omega (arith, Y.falsified_said));
}

-- ---- offer
offer_said : (w : ℕ) (W : Watch) → Said W.ledger W.accepted W.answers → (mask : ℕ) (clock labels : List ℕ)
    → Said (after w (offers mask clock labels) W).ledger (after w (offers mask clock labels) W).accepted
    (after w (offers mask clock labels) W).answers
unfolding after offered_ledger accepted_by how_many
offer_said w W Y mask clock labels = go (offer_case w mask clock labels W.bytes)
  where
    go : OfferCase w mask clock labels W.bytes
        → Said (after w (offers mask clock labels) W).ledger (after w (offers mask clock labels) W).accepted
        (after w (offers mask clock labels) W).answers
    go (turned n some small other q) =
        rw q (plain W.ledger W.accepted W.answers Y (turned_back n 0) refl refl other)
    go (repeats h7 h q) = rw q (plain W.ledger W.accepted W.answers Y again refl refl refl)
    go (accepted h7 h8 h9 h42 h31 h32 h33 q) = rw q (record {
      accepted_said = omega (arith, Y.accepted_said);
      taken_said = omega (arith, Y.taken_said);
      falsified_said = omega (arith, Y.falsified_said);
    })

-- ---- find
find_from_said : (line i : ℕ) (fs : List Frontier) (L : Ledger) (es : List Event) (answers : List Answer)
    → Said L es answers → Said L es (find_from line i fs ∷ answers)
unfolding find_from
find_from_said line i [] L es answers Y = plain L es answers Y absent refl refl refl
find_from_said line i (g ∷ fs) L es answers Y =
    go (bit g.values line) (find_from_said line (i + 1) fs L es answers Y)
  where
    go : (b : Bool) → Said L es (find_from line (i + 1) fs ∷ answers)
        → Said L es (cond b (found i) (find_from line (i + 1) fs) ∷ answers)
    go true r = plain L es answers Y (found i) refl refl refl
    go false r = r

find_said : (w line : ℕ) (s window : List ℕ) (L : Ledger) (es : List Event) (answers : List Answer)
    → Said L es answers → Said L es (find_call w line s window ∷ answers)
unfolding find_call
find_said w line s window L es answers Y =
    go (bad_record_length w (length s) || bad_window_length w (length window)) (bad_state w (room_of w (length window)) s)
    (leb (line_total s) line)
  where
    go : (a b c : Bool)
        → Said L es (cond a (turned_back 6 0) (cond b (turned_back 34 0)
        (cond c (turned_back 11 0) (find_from line 0 (frontiers w window (kept_count s))))) ∷ answers)
    go true b c = plain L es answers Y (turned_back 6 0) refl refl refl
    go false true c = plain L es answers Y (turned_back 34 0) refl refl refl
    go false false true = plain L es answers Y (turned_back 11 0) refl refl refl
    go false false false = find_from_said line 0 (frontiers w window (kept_count s)) L es answers Y

-- ---- close
close_said : (w : ℕ) (W : Watch) → Said W.ledger W.accepted W.answers → (p : ℕ)
    → Said (after w (closes p) W).ledger (after w (closes p) W).accepted (after w (closes p) W).answers
unfolding after closed_ledger close_process how_many
close_said w W Y p = go (close_case w p W.bytes W.window)
  where
    go : CloseCase w p W.bytes W.window
        → Said (after w (closes p) W).ledger (after w (closes p) W).accepted (after w (closes p) W).answers
    go (closing.turned n some small other q) =
        rw q (plain W.ledger W.accepted W.answers Y (turned_back n 0) refl refl other)
    go (closing.accepted h41 h42 q) = rw q (record {
      accepted_said = omega (arith, Y.accepted_said);
      taken_said = omega (arith, Y.taken_said);
      falsified_said = omega (arith, Y.falsified_said);
    })

-- ---- lent other buffers
mislent_said : (w : ℕ) (m : Mislent) → TurnedAway w m → (L : Ledger) (es : List Event) (answers : List Answer)
    → Said L es answers → Said L es (answer_to w m ∷ answers)
mislent_said w m (inl q) L es answers Y = rw q (plain L es answers Y (turned_back 6 0) refl refl refl)
mislent_said w m (inr q) L es answers Y = rw q (plain L es answers Y (turned_back 34 0) refl refl refl)

-- ---- take
decided_said : (w : ℕ) (s window : List ℕ) (fs : List Frontier) (L : Ledger) (es : List Event) (answers : List Answer)
    → Said L es answers → (d : Decision)
    → Said (ledger_after w s L d) es ((decided w s window fs d).answer ∷ answers)
unfolding decided ledger_after state_of how_many
decided_said w s window fs L es answers Y (undecided true) = record {
  accepted_said = omega (arith, Y.accepted_said);
  taken_said = omega (arith, Y.taken_said);
  falsified_said = omega (arith, Y.falsified_said);
}
decided_said w s window fs L es answers Y (undecided false) = record {
  accepted_said = omega (arith, Y.accepted_said);
  taken_said = omega (arith, Y.taken_said);
  falsified_said = omega (arith, Y.falsified_said);
}
decided_said w s window fs L es answers Y (false_clock i) = record {
  accepted_said = omega (arith, Y.accepted_said);
  taken_said = omega (arith, Y.taken_said);
  falsified_said = omega (arith, Y.falsified_said);
}
decided_said w s window fs L es answers Y (chosen i) = record {
  accepted_said = omega (arith, Y.accepted_said);
  taken_said = omega (arith, Y.taken_said);
  falsified_said = omega (arith, Y.falsified_said);
}

module _ (w k : ℕ) (table : List Line) (start : Cut) (R : Rule w k table start) where
  take_said : (W : Watch) → WatchRight w k table start W → Said W.ledger W.accepted W.answers
      → (cap more : ℕ) (scratch : List ℕ)
      → Said (after w (takes cap more scratch) W).ledger (after w (takes cap more scratch) W).accepted
      (after w (takes cap more scratch) W).answers
  unfolding after
  take_said W X Y cap more scratch = go (bad_lengths w k table start R L bytes lent X' cap scratch) refl
    where
      L : Ledger
      L = W.ledger

      bytes : List ℕ
      bytes = W.bytes

      lent : List ℕ
      lent = W.window ++ replicate more 0

      X' : Watching w k table start L bytes lent
      X' = lengthened w k table start R L bytes W.window X more

      go : (b : Bool) → bad_lengths w k table start R L bytes lent X' cap scratch ≡ b
          → Said (after w (takes cap more scratch) W).ledger (after w (takes cap more scratch) W).accepted
          (after w (takes cap more scratch) W).answers
      go true h =
          let t = take_6 w k table start R L bytes lent X' cap scratch h in
          rw (t.1, t.0) (plain L W.accepted W.answers Y (turned_back 6 0) refl refl refl)
      go false h =
          let t = take-else w k table start R L bytes lent X' cap scratch h in
          rw (t.1, t.0)
          (decided_said w bytes lent X'.kept L W.accepted W.answers Y
          (decision w k table start R L bytes lent X' cap scratch))

  pub after_said : (W : Watch) → WatchRight w k table start W → Said W.ledger W.accepted W.answers → (c : Call)
      → Passed w c → Said (after w c W).ledger (after w c W).accepted (after w c W).answers
  after_said W X Y (offers mask clock labels) h = offer_said w W Y mask clock labels
  after_said W X Y (takes cap more scratch) h = take_said W X Y cap more scratch
  after_said W X Y (closes p) h = close_said w W Y p
  after_said W X Y (mislends m) h =
      unfold after in mislent_said w m h W.ledger W.accepted W.answers Y
  after_said W X Y (finds line) h =
      unfold after in find_said w line W.bytes W.window W.ledger W.accepted W.answers Y

-- ---- open
pub open_said : (lines : ℕ) (counts : List ℕ) (fs : List Frontier)
    → Said (record { history = []; pending = []; falsified = []; closed = 0 }) [] (state_of lines counts fs ∷ [])
unfolding state_of how_many
open_said lines counts fs = record { accepted_said = refl; taken_said = refl; falsified_said = refl }
