-- A take that answers neither "nothing ready" nor 6, 34 or 36 lowers the number of pending events by exactly 1 (01, The
-- calls: take), so that takes one after the other come to an end. In a watch written by calls 34 never comes.
use Rattle.std.specs.Prelude.{ℕ, ◌+◌, ◌<◌, ◌≡◌, Bool, false, true, List, ◌≢◌, length}
use Rattle.std.proofs.Common.{arith, ap, ◌∙◌}
use Rattle.std.proofs.Math.Path.{refl}
use Rattle.pactl.specs.declared.Line.{Line}
use Rattle.clocks.specs.Event.{Cut}
use Rattle.demands.specs.Watching.{Rule, Watching}
use Rattle.records.specs.Record.{pending_count}
use Rattle.demands.specs.bytes.RecordLaws.{pending_count-record_bytes}
use Rattle.demands.specs.Status.{remove_at}
use Rattle.trial.specs.Trial.{valid_among, Decision, undecided}
use Rattle.call_take.specs.Take.{allowed_of, take_capped, Taken, decided}
use Rattle.answers.specs.Answer.{turned_back, nothing_ready}
use Rattle.trial.specs.TrialLaws.{Outcome, none_decides, falsifies, chooses}
use Rattle.demands.specs.Ledger.{Ledger}
use Rattle.demands.specs.bytes.InsertLaws.{length-remove_at}
use Rattle.demands.specs.calls.AfterCall.{no_event, bad_lengths, decision, take_6, take-else, take_right, trial}
use Rattle.demands.specs.calls.TakeLedger.{ledger_after}

module _ (w k : ℕ) (table : List Line) (start : Cut) (R : Rule w k table start) (L : Ledger) (bytes lent : List ℕ)
    (X : Watching w k table start L bytes lent) (cap : ℕ) (scratch : List ℕ) where
  abbrev took : Taken
  took = take_capped w cap bytes lent scratch

  -- the record's number of pending events is the ledger's
  many : (M : Ledger) (s window : List ℕ) → Watching w k table start M s window → pending_count s ≡ length M.pending
  many M s window Y = ap pending_count Y.bytes_are ∙ pending_count-record_bytes w _

  -- ---- Theorem
  pub take_lowers : took.answer ≢ nothing_ready → took.answer ≢ turned_back 6 0 → took.answer ≢ turned_back 36 0
      → pending_count took.bytes + 1 ≡ pending_count bytes
  unfolding decided ledger_after
  take_lowers n0 n6 n36 = lengths (bad_lengths w k table start R L bytes lent X cap scratch) refl
    where
      D : Decision
      D = decision w k table start R L bytes lent X cap scratch

      lengths : (b : Bool) → bad_lengths w k table start R L bytes lent X cap scratch ≡ b
          → pending_count took.bytes + 1 ≡ pending_count bytes
      lengths true h =
          absurd (n6 (ap (λ (x : Taken). x.answer) (take_6 w k table start R L bytes lent X cap scratch h).0))
      lengths false h = go (trial w k table start R L bytes lent X cap scratch)
        where
          t : took ≡ decided w bytes lent X.kept D
          t = (take-else w k table start R L bytes lent X cap scratch h).0

          answered : (d : Decision) → D ≡ d → took.answer ≡ (decided w bytes lent X.kept d).answer
          answered d q = ap (λ (x : Taken). x.answer) (t ∙ ap (decided w bytes lent X.kept) q)

          after : pending_count took.bytes ≡ length (ledger_after w bytes L D).pending
          after =
              ap (λ (x : Taken). pending_count x.bytes) t
              ∙ many (ledger_after w bytes L D) _ _ (take_right w k table start R L bytes lent X cap scratch h)

          -- event j is no longer there
          without : (j : ℕ) → j < length L.pending → (ledger_after w bytes L D).pending ≡ remove_at (0 + j) L.pending
              → pending_count took.bytes + 1 ≡ pending_count bytes
          without j l q =
              let u : length (ledger_after w bytes L D).pending ≡ length (remove_at (0 + j) L.pending) =
              ap length q in
              let v = length-remove_at (0 + j) L.pending (omega arith) in
              omega (arith, after, u, v, many L bytes lent X)

          go : Outcome w bytes (valid_among X.kept) (allowed_of w cap lent) X.kept 0 false L.pending no_event
              → pending_count took.bytes + 1 ≡ pending_count bytes
          go (none_decides false q u o) = absurd (n0 (answered (undecided false) q))
          go (none_decides true q u o) = absurd (n36 (answered (undecided true) q))
          go (falsifies j l q r n u) = without j l (ap (λ (d : Decision). (ledger_after w bytes L d).pending) q)
          go (chooses j l q r v f u) = without j l (ap (λ (d : Decision). (ledger_after w bytes L d).pending) q)
