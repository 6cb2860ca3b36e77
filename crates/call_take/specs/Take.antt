-- Take (01, The calls): the pending events are tried, and the one that this decides on is taken, or leaves with a false
-- clock.
use Rattle.std.specs.Prelude.{ℕ, min, Bool, not, cond, ◌||◌, List, eqb, length, replicate}
use Rattle.frontiers.specs.declared.Frontier.{Frontier}
use Rattle.window.specs.Step.{stepped}
use Rattle.frontiers.specs.Bytes.{frontiers, replaced}
use Rattle.clocks.specs.Event.{apply}
use Rattle.clocks.specs.Counts.{at, list_of}
use Rattle.records.specs.Record.{line_total, kept_count, taken_counts, pending_at, removed, counted}
use Rattle.trial.specs.Trial.{setting_in, Decision, undecided, false_clock, chosen, trial}
use Rattle.refusals.specs.Refusals.{bad_record_length, bad_window_length, room_of, bad_state}
use Rattle.answers.specs.Answer.{Answer, turned_back, nothing_ready, state_of}
use Rattle.numbers.specs.Refusal.{false_clock_number, length_number, no_room_number, state_number}

-- What take answers and leaves in the three buffers that it is lent.
pub record Taken : Type 0 where
  pub answer : Answer
  pub bytes : List ℕ
  pub window : List ℕ
  pub scratch : List ℕ

-- What a decision leads to. The scratch is all 0 afterwards.
unfoldable pub decided : (w : ℕ) (s window : List ℕ) (fs : List Frontier) (d : Decision) → Taken
decided w s window fs (undecided seen) = record { answer = cond seen (turned_back no_room_number 0) nothing_ready; bytes = s; window = window; scratch = replicate (length window) 0 }
decided w s window fs (false_clock i) = record { answer = turned_back false_clock_number 0; bytes = removed w s i; window = window; scratch = replicate (length window) 0 }
decided w s window fs (chosen i) =
    let e = pending_at w s i in
    let gs = stepped (setting_in w s e) fs in
    record {
      answer = state_of (line_total s) (list_of 8 (apply e (at (taken_counts w s)))) gs;
      bytes = counted w (removed w s i) e (length gs);
      window = replaced w window (length fs) gs;
      scratch = replicate (length window) 0;
    }

-- Take, where at most so many frontiers of the lent window may be used.
unfoldable pub take_within : (w allowed : ℕ) (s window : List ℕ) → Taken
take_within w allowed s window =
    let fs = frontiers w window (kept_count s) in
    decided w s window fs (trial w s allowed fs)

-- 6: the record, the window or the scratch, by their lengths in this order, has a wrong one.
abbrev pub bad_lengths : (w s window scratch : ℕ) → Bool
bad_lengths w s window scratch = bad_record_length w s || (bad_window_length w window || not (eqb scratch window))

-- How many frontiers a take may use: no more than the cap, and no more than the lent window has room for.
abbrev pub allowed_of : (w cap : ℕ) (window : List ℕ) → ℕ
allowed_of w cap window = min cap (room_of w (length window))

-- Take under a cap.
unfoldable pub take_capped : (w cap : ℕ) (s window scratch : List ℕ) → Taken
take_capped w cap s window scratch =
    let turned : ℕ → Taken = λ n. record { answer = turned_back n 0; bytes = s; window = window; scratch = scratch } in
    cond (bad_lengths w (length s) (length window) (length scratch)) (turned length_number)
    (cond (bad_state w (room_of w (length window)) s) (turned state_number)
    (take_within w (allowed_of w cap window) s window))

-- The call of 01 has the cap 1,024: no window has room for more.
abbrev pub take_call : (w : ℕ) (s window scratch : List ℕ) → Taken
take_call w s window scratch = take_capped w 1024 s window scratch
