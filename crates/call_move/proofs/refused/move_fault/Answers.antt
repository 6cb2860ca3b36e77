-- The tests, one after the other. Where counts do not become narrower none is too large: the law `none_too_large`.
use Rattle.std.proofs.Common.{◌≡◌, true, false, ◌||◌, length, sym, ◌∙◌, arith}
use Rattle.codec.specs.Little.{Bytes}
use Rattle.refusals.specs.Refusals.{room_of, bad_state}
use Rattle.call_move.specs.Parts.{record_parts, window_parts}
use Rattle.call_move.specs.Move.{some_too_large, overflows}
use Rattle.call_move.specs.MoveCode.{move_fault}
use Rattle.call_move.specs.CountLaws.{none_too_large}
use Rattle.call_move.specs.LengthLaws.{frontiers-within, Lengths, right_lengths}
use Rattle.call_move.proofs.CallSteps.{first_holds, second_decides}
use Rattle.call_move.proofs.refused.move_fault.Goals as goal
use Rattle.call_move.proofs.refused.move_fault.Goals.{Else-bad_lengths, Else-bad_state, then-record_too_large, else-record_too_large, else-bytes-via-then-bytes+else-window_too_large, else-bytes-via-else-bytes}

right : (c : Else-bad_lengths) → let a = c.args in
    Lengths a.v a.w (length a.«record».now) (length a.window.now) a.target_len a.target_window_len
right c =
    let a = c.args in
    right_lengths a.v a.w (length a.«record».now) (length a.window.now) a.target_len a.target_window_len
    (sym c.if-bad_lengths.ensures)

-- The state is judged with the window's room.
sound : (c : Else-bad_state) → let a = c.args in
    bad_state a.v (room_of a.v (length a.window.now)) a.«record».now ≡ false
sound c =
    let a = c.args in
    let h : false ≡ bad_state a.v c.room_of-n.result a.«record».now = c.if-bad_state.ensures in
    sym (rw c.room_of-n.ensures at h)

-- ---- The goals

pub returns-then-bad_lengths : goal.returns-then-bad_lengths
unfolding move_fault
returns-then-bad_lengths c = rw (sym c.if-bad_lengths.ensures)

pub bad_state-requires : goal.bad_state-requires
bad_state-requires c = record { record_len = (right (goal.at.bad_state-requires c).Else-bad_lengths).source }

pub returns-then-bad_state : goal.returns-then-bad_state
unfolding move_fault
returns-then-bad_state c =
    let a = c.args in
    let h : true ≡ bad_state a.v c.room_of-n.result a.«record».now = c.if-bad_state.ensures in
    let damaged = sym (rw c.room_of-n.ensures at h) in
    rw (sym c.if-bad_lengths.ensures, damaged)

pub record_too_large-requires : goal.record_too_large-requires
record_too_large-requires c =
    record { record_len = (right (goal.at.record_too_large-requires c).Else-bad_lengths).source }

pub window_too_large-requires-clause-n_bound : goal.window_too_large-requires-clause-n_bound
window_too_large-requires-clause-n_bound c =
    let r = right (goal.at.window_too_large-requires-clause-n_bound c).Else-bad_lengths in
    omega (arith, c.room_of-n.ensures, r.few)

pub window_too_large-requires-clause-v_in_bounds : goal.window_too_large-requires-clause-v_in_bounds
window_too_large-requires-clause-v_in_bounds c =
    let r = right (goal.at.window_too_large-requires-clause-v_in_bounds c).Else-bad_lengths in
    let within = frontiers-within c.args.v _ _ _ c.room_of-n.ensures r.whole in
    within

pub returns-then-window_too_large : goal.returns-then-window_too_large
unfolding move_fault overflows
returns-then-window_too_large c =
    let a = c.args in
    let s = a.«record».now in
    let both : c.if-record_too_large.value
    ≡ (some_too_large a.v a.w record_parts s || some_too_large a.v a.w (window_parts c.room_of-n.result) a.window.now) =
    elim c.if-record_too_large.branch [
      | then-record_too_large w ↦ first_holds _ c.record_too_large.ensures w.if-record_too_large.true w.value-is
      | else-record_too_large w ↦ second_decides c.record_too_large.ensures w.if-record_too_large.false w.window_too_large.ensures w.value-is
    ] in
    let large = sym (rw c.room_of-n.ensures at both) ∙ c.if-window_too_large.true in
    rw (sym c.if-bad_lengths.ensures, sound (goal.at.returns-then-window_too_large c).Else-bad_state, large)

pub returns : goal.returns
unfolding move_fault overflows
returns c =
    let a = c.args in
    let s = a.«record».now in
    let h = (goal.at.returns c).Else-bad_state in
    let parts = window_parts (room_of a.v (length a.window.now)) in
    elim c.else-bytes.branch [
      | else-bytes-via-then-bytes+else-window_too_large w ↦
          let both : w.if-record_too_large.value
          ≡ (some_too_large a.v a.w record_parts s || some_too_large a.v a.w (window_parts c.room_of-n.result) a.window.now) =
          elim w.if-record_too_large.branch [
            | then-record_too_large u ↦ first_holds _ w.record_too_large.ensures u.if-record_too_large.true u.value-is
            | else-record_too_large u ↦ second_decides w.record_too_large.ensures u.if-record_too_large.false u.window_too_large.ensures u.value-is
          ] in
          let fits = sym (rw c.room_of-n.ensures at both) ∙ w.if-window_too_large.false in
          rw (sym c.if-bad_lengths.ensures, sound h, fits)
      | else-bytes-via-else-bytes w ↦
          let bytes : Bytes s = λ i. (c.type_inv.«record» i).fits in
          let window_bytes : Bytes a.window.now = λ i. (c.type_inv.window i).fits in
          let wider = rw (c.bytes.ensures.value, c.bytes-2.ensures.value) at w.if-bytes.false in
          rw (
            sym c.if-bad_lengths.ensures,
            sound h,
            none_too_large a.v a.w wider record_parts s bytes,
            none_too_large a.v a.w wider parts a.window.now window_bytes,
          )
    ]
