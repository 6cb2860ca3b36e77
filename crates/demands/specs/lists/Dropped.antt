-- A cut that was dropped stays dropped, whatever is called later: the taken events only grow, and no process is opened
-- again.
use Rattle.std.specs.Prelude.{ℕ, ◌≡◌, refl, not, List, [], ◌∷◌, ◌++◌, T, eqb}
use Rattle.std.proofs.Common.{sym, ap, subst, ◌∙◌, append_assoc}
use Rattle.codec.specs.Bit.{bit}
use Rattle.clocks.specs.declared.Event.{Event}
use Rattle.clocks.specs.Causal.{Causal}
use Rattle.clocks.specs.Kept.{Kept}
use Rattle.clocks.specs.cuts.KeptStep.{dropped_stays}
use Rattle.clocks.specs.Event.{Cut}
use Rattle.rules.specs.Formula.{Formula}
use Rattle.rules.specs.Line.{lines_at}
use Rattle.answers.specs.Answer.{Answer, turned_back, state, nothing_ready, held, again, found, absent, process_closed}
use Rattle.answers.specs.Turns.{by_test}
use Rattle.demands.specs.Ledger.{Ledger}
use Rattle.demands.specs.World.{Open}
use Rattle.demands.specs.Run.{Call, offers, takes, finds, closes, mislends, Watch, taken_ledger, offered_ledger, closed_ledger, after, run}
use Rattle.demands.specs.statements.Close.{StaysDropped, DroppedStaysDropped}
use Rattle.demands.specs.calls.CloseLaws.{still_open}
use Rattle.demands.specs.calls.KeptCutsLaws.{stays_kept, open_bit}
use Rattle.demands.specs.calls.StoredFits.{causal_history}
use Rattle.demands.specs.lists.SoundRun.{Sound, run_sound, every-list}

-- Events were taken, and processes were closed.
record Later (L M : Ledger) : Type 0 where
  newer : List Event
  history_is : M.history ≡ newer ++ L.history
  shrinks : (p : ℕ) → Open M.closed p → Open L.closed p

no_later : (L : Ledger) → Later L L
no_later L = record { newer = []; history_is = refl; shrinks = λ p h. h }

later_still : (L M N : Ledger) → Later L M → Later M N → Later L N
later_still L M N a b = record {
  newer = b.newer ++ a.newer;
  history_is = b.history_is ∙ ap (λ (ts : List Event). b.newer ++ ts) a.history_is
      ∙ sym (append_assoc b.newer a.newer L.history);
  shrinks = λ p h. a.shrinks p (b.shrinks p h);
}

-- ---- Call by call
take_later : (w : ℕ) (s : List ℕ) (i : ℕ) (L : Ledger) (a : Answer) → Later L (taken_ledger w s i L a)
unfolding taken_ledger
take_later w s i L (state c t k) = record { newer = _ ∷ []; history_is = refl; shrinks = λ p h. h }
take_later w s i L (turned_back n j) =
    by_test (Later L) (eqb n 35) _ L (λ _. record { newer = []; history_is = refl; shrinks = λ p h. h })
    (λ _. no_later L)
take_later w s i L nothing_ready = no_later L
take_later w s i L (held n) = no_later L
take_later w s i L again = no_later L
take_later w s i L (found j) = no_later L
take_later w s i L absent = no_later L
take_later w s i L (process_closed n) = no_later L

offer_later : (w : ℕ) (s : List ℕ) (e : Event) (L : Ledger) (a : Answer) → Later L (offered_ledger w s e L a)
unfolding offered_ledger
offer_later w s e L (held n) = record { newer = []; history_is = refl; shrinks = λ p h. h }
offer_later w s e L again = no_later L
offer_later w s e L (turned_back n i) = no_later L
offer_later w s e L (state c t k) = no_later L
offer_later w s e L nothing_ready = no_later L
offer_later w s e L (found i) = no_later L
offer_later w s e L absent = no_later L
offer_later w s e L (process_closed n) = no_later L

close_later : (p : ℕ) (L : Ledger) (a : Answer) → Later L (closed_ledger p L a)
unfolding closed_ledger
close_later p L (process_closed n) = record { newer = []; history_is = refl; shrinks = still_open L.closed p }
close_later p L (turned_back n i) = no_later L
close_later p L (state c t k) = no_later L
close_later p L nothing_ready = no_later L
close_later p L (held n) = no_later L
close_later p L again = no_later L
close_later p L (found i) = no_later L
close_later p L absent = no_later L

after_later : (w : ℕ) (c : Call) (W : Watch) → Later W.ledger (after w c W).ledger
unfolding after
after_later w (offers mask clock labels) W = offer_later w W.bytes _ W.ledger _
after_later w (takes cap _ scratch) W = take_later w W.bytes _ W.ledger _
after_later w (finds line) W = no_later W.ledger
after_later w (closes p) W = close_later p W.ledger _
after_later w (mislends m) W = no_later W.ledger

run_later : (w : ℕ) (cs : List Call) (W : Watch) → Later W.ledger (run w cs W).ledger
unfolding run
run_later w [] W = no_later W.ledger
run_later w (c ∷ cs) W =
    later_still W.ledger (after w c W).ledger (run w cs (after w c W)).ledger (after_later w c W)
    (run_later w cs (after w c W))

-- ---- Theorem
pub stays_dropped_of : (w k : ℕ) (f : Formula) (start : Cut) (Y : Watch) → Sound w k f start Y
    → StaysDropped w k f start Y
stays_dropped_of w k f start Y sound cs p S consistent dropped stays =
    let Z = run w cs Y in
    let later = run_sound w k f start cs Y p sound in
    let causal = causal_history w k (lines_at 0 f) start later.rule Z.ledger Z.bytes Z.window
    later.right in
    dropped_stays k (λ q. not (bit Y.ledger.closed q)) (λ q. not (bit Z.ledger.closed q)) grown.newer
    Y.ledger.history (subst Causal grown.history_is causal) shrinks S consistent
    (λ h. dropped ((stays_kept k Y.ledger.closed Y.ledger.history S).1 h))
    (subst (λ (ts : List Event). Kept k (λ q. not (bit Z.ledger.closed q)) ts S) grown.history_is
    ((stays_kept k Z.ledger.closed Z.ledger.history S).0 stays))
  where
    grown : Later Y.ledger (run w cs Y).ledger
    grown = run_later w cs Y

    shrinks : (q : ℕ) → T (not (bit (run w cs Y).ledger.closed q)) → T (not (bit Y.ledger.closed q))
    shrinks q t = rw (grown.shrinks q (open_bit _ t)) tt

pub dropped_for_good : DroppedStaysDropped
dropped_for_good = every-list _ stays_dropped_of
