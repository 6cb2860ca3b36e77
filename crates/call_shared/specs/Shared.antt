-- Open, take and close of a watch that shares a pool (02 [10]): the plain calls, lent the pool and the watch's number.
-- 6 is there also a pool of a wrong length, and 34, directly after 6, also a number without a share.
use Rattle.std.specs.Prelude.{ℕ, cond, ◌||◌, List, length}
use Rattle.records.specs.Record.{kept_count}
use Rattle.refusals.specs.Refusals.{bad_record_length, bad_window_length, room_of, bad_state}
use Rattle.answers.specs.Answer.{Answer, turned_back}
use Rattle.answers.specs.Kinds.{is_turned_back}
use Rattle.numbers.specs.Refusal.{length_number, state_number}
use Rattle.pool.specs.Pool.{bad_pool_length, no_share, allowance, brought_up}
use Rattle.call_open.specs.Open.{Opened, open_call}
use Rattle.call_take.specs.Take.{Taken, bad_lengths, take_capped}
use Rattle.call_close.specs.Close.{Closed, close_call}

-- What such a call answers and leaves: what a plain call does, and the pool.
pub record Shared (A : Type 0) : Type 0 where
  pub call : A
  pub pool : List ℕ

-- The pool after a call of watch i: as it was after a refusal, else with the record's number of frontiers kept.
unfoldable pub pool_after : (pool : List ℕ) (i : ℕ) (a : Answer) (s : List ℕ) → List ℕ
pool_after pool i a s = cond (is_turned_back a) pool (brought_up pool i (kept_count s))

unfoldable pub shared_open : (w : ℕ) (text : List ℕ) (k : ℕ) (labels s window pool : List ℕ) (i : ℕ) → Shared Opened
shared_open w text k labels s window pool i =
    let turned : ℕ → Shared Opened = λ n.
    record { call = record { answer = turned_back n 0; bytes = s; window = window }; pool = pool } in
    let o = open_call w text k labels s window in
    cond (bad_record_length w (length s) || (bad_window_length w (length window) || bad_pool_length (length pool)))
    (turned length_number)
    (cond (no_share pool i) (turned state_number)
    (record { call = o; pool = pool_after pool i o.answer o.bytes }))

-- Take under the cap that the pool allows: the window fits exactly if its lent bytes hold it and it passes its watch's
-- share by no more than the unpromised frontiers that no other watch is using.
unfoldable pub shared_take : (w : ℕ) (s window scratch pool : List ℕ) (i : ℕ) → Shared Taken
shared_take w s window scratch pool i =
    let turned : ℕ → Shared Taken = λ n.
    record { call = record { answer = turned_back n 0; bytes = s; window = window; scratch = scratch }; pool = pool } in
    let t = take_capped w (allowance pool i) s window scratch in
    cond (bad_lengths w (length s) (length window) (length scratch) || bad_pool_length (length pool)) (turned length_number)
    (cond (bad_state w (room_of w (length window)) s || no_share pool i) (turned state_number)
    (record { call = t; pool = pool_after pool i t.answer t.bytes }))

unfoldable pub shared_close : (w p : ℕ) (s window pool : List ℕ) (i : ℕ) → Shared Closed
shared_close w p s window pool i =
    let turned : ℕ → Shared Closed = λ n.
    record { call = record { answer = turned_back n 0; bytes = s; window = window }; pool = pool } in
    let c = close_call w p s window in
    cond (bad_record_length w (length s) || (bad_window_length w (length window) || bad_pool_length (length pool)))
    (turned length_number)
    (cond (bad_state w (room_of w (length window)) s || no_share pool i) (turned state_number)
    (record { call = c; pool = pool_after pool i c.answer c.bytes }))
