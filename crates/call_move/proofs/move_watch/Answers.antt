-- A number turns the move back; else record and window are moved: the laws `move_turned` and `move_whole`.
use Rattle.std.proofs.Common.{◌≡◌, length, sym, ◌∙◌, arith}
use Rattle.numbers.specs.RefusalLaws.{some_number}
use Rattle.call_move.specs.MoveCode.{move_fault}
use Rattle.call_move.proofs.CallSteps.{move_turned, move_right, move_fits, window_asked, move_whole}
use Rattle.call_move.proofs.move_watch.Goals as goal
use Rattle.call_move.proofs.move_watch.Goals.{In_default}

-- Nothing turns the move back.
none : (c : In_default) → let a = c.args in
    move_fault a.v a.w a.«record».now a.window.now (length a.target.now) (length a.target_window.now) ≡ 0
none c = rw (c.of-from_width.ensures, c.of-to_width.ensures) at (sym c.in_default.ensures)

-- ---- The goals

pub returns-in-Err : goal.returns-in-Err
returns-in-Err c =
    let a = c.args in
    let some = some_number c.in-Err.refusal in
    let fault = rw (c.of-from_width.ensures, c.of-to_width.ensures) at c.in-Err.ensures in
    let back =
    move_turned a.v a.w a.«record».now a.window.now a.target.now a.target_window.now _ fault (λ z. omega arith) in
    record { reply = c.from.ensures ∙ back.0; bytes = back.1; window = back.2 }

pub move_record-requires : goal.move_record-requires
move_record-requires c =
    let a = c.args in
    let passed = none (goal.at.move_record-requires c).In_default in
    let right = move_right a.v a.w a.«record».now a.window.now a.target.now a.target_window.now passed in
    let fits = move_fits a.v a.w a.«record».now a.window.now a.target.now a.target_window.now passed in
    record {
      record_len = rw c.of-from_width.ensures right.source;
      target_len = rw c.of-to_width.ensures right.target;
      record_value = rw (c.of-from_width.ensures, c.of-to_width.ensures) fits.0;
    }

pub move_window-requires : goal.move_window-requires
move_window-requires c =
    let a = c.args in
    let asked =
    window_asked a.v a.w a.«record».now a.window.now a.target.now a.target_window.now _
    (none (goal.at.move_window-requires c).In_default) (rw c.of-from_width.ensures at c.room_of-n.ensures) in
    record {
      n_bound = asked.0;
      v_in_bounds = rw c.of-from_width.ensures asked.1;
      w_in_bounds = rw c.of-to_width.ensures asked.2;
      window_value = rw (c.of-from_width.ensures, c.of-to_width.ensures) asked.3;
    }

pub returns : goal.returns
returns c =
    let a = c.args in
    let whole =
    move_whole a.v a.w a.«record».now a.window.now a.target.now a.target_window.now _ _ _
    (none (goal.at.returns c).In_default) (rw c.of-from_width.ensures at c.room_of-n.ensures)
    (rw (c.of-from_width.ensures, c.of-to_width.ensures) at c.move_record.ensures)
    (rw (c.of-from_width.ensures, c.of-to_width.ensures) at c.move_window.ensures) in
    record { reply = whole.0; bytes = whole.1; window = whole.2 }
