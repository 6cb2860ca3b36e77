-- Lists of calls by the rule for valid clocks that stood before 02 [2]: the join of the last clocks (01, Clocks and
-- cuts: its clock is true). Take alone differs. They are kept to say what the change left as it was:
-- statements/Earlier.
use Rattle.std.specs.Prelude.{ℕ, Bool, cond, ◌||◌, List, [], ◌∷◌, ◌++◌, length, replicate}
use Rattle.clocks.specs.declared.Event.{Event}
use Rattle.clocks.specs.Counts.{clock_rows}
use Rattle.clocks.specs.Joined.{joined_by}
use Rattle.frontiers.specs.Bytes.{frontiers}
use Rattle.records.specs.Record.{kept_count, last_clocks}
use Rattle.refusals.specs.Refusals.{room_of, bad_state}
use Rattle.trial.specs.Trial.{Decision, trial_by}
use Rattle.call_open.specs.Open.{open_call}
use Rattle.call_take.specs.Take.{Taken, decided, bad_lengths, allowed_of, take_capped}
use Rattle.demands.specs.Run.{Call, offers, takes, finds, closes, mislends, Watch, after_take, after, opened}

-- The clock is the largest of the last clocks, in the record, of the processes that take part, plus 1 there.
unfoldable pub joined_in : (w : ℕ) (s : List ℕ) (e : Event) → Bool
joined_in w s e = joined_by 8 e (clock_rows (last_clocks w s))

-- Take's trial of the pending events by this rule.
unfoldable pub earlier_trial : (w cap : ℕ) (s window : List ℕ) → Decision
earlier_trial w cap s window =
    trial_by w s (joined_in w s) (allowed_of w cap window) (frontiers w window (kept_count s))

-- Take by it: turned back as it is now, and else as the trial decides.
unfoldable pub earlier_take : (w cap : ℕ) (s window scratch : List ℕ) → Taken
earlier_take w cap s window scratch =
    cond (bad_lengths w (length s) (length window) (length scratch) || bad_state w (room_of w (length window)) s)
    (take_capped w cap s window scratch)
    (decided w s window (frontiers w window (kept_count s)) (earlier_trial w cap s window))

-- Calls, and a list of them, by it.
unfoldable pub earlier_after : (w : ℕ) (c : Call) (W : Watch) → Watch
earlier_after w (takes cap more scratch) W =
    let lent = W.window ++ replicate more 0 in
    after_take w (earlier_take w cap W.bytes lent scratch) (earlier_trial w cap W.bytes lent) W
earlier_after w (offers mask clock labels) W = after w (offers mask clock labels) W
earlier_after w (finds line) W = after w (finds line) W
earlier_after w (closes p) W = after w (closes p) W
earlier_after w (mislends m) W = after w (mislends m) W

unfoldable pub earlier_run : (w : ℕ) (cs : List Call) (W : Watch) → Watch
earlier_run w [] W = W
earlier_run w (c ∷ cs) W = earlier_run w cs (earlier_after w c W)

abbrev pub earlier_at_end : (w : ℕ) (text : List ℕ) (k : ℕ) (labels s window : List ℕ) (cs : List Call) → Watch
earlier_at_end w text k labels s window cs = earlier_run w cs (opened (open_call w text k labels s window))
