-- The tests, one after the other, each made only where none before it held.
use Rattle.std.proofs.Common.{◌≡◌, not, ◌||◌, eqb, refl, ◌∙◌}
use Rattle.refusals.specs.Refusals.{bad_record_length, bad_window_length, room_of}
use Rattle.call_move.specs.Move.{bad_move_lengths}
use Rattle.call_move.proofs.CallSteps.{first_holds, second_decides, five_tests}
use Rattle.call_move.proofs.refused.bad_lengths.Goals as goal
use Rattle.call_move.proofs.refused.bad_lengths.Goals.{Joined-bad_record_length-2, then-bad_record_length, else-bad_record_length, then-bad_window_length, else-bad_window_length, then-bad_record_length-2, else-bad_record_length-2}

-- What the first four tests come to, with the last one.
all : (c : Joined-bad_record_length-2) → let a = c.args in
    (c.if-bad_record_length-2.value || not (eqb (room_of a.v a.window_len) (room_of a.w a.target_window_len)))
    ≡ bad_move_lengths a.v a.w a.record_len a.window_len a.target_len a.target_window_len
unfolding bad_move_lengths
all c =
    let a = c.args in
    five_tests (bad_record_length a.v a.record_len) (bad_window_length a.v a.window_len)
    (bad_record_length a.w a.target_len) (bad_window_length a.w a.target_window_len) _ c.if-bad_record_length.value
    c.if-bad_window_length.value c.if-bad_record_length-2.value
    (elim c.if-bad_record_length.branch [
      | then-bad_record_length w ↦
          first_holds _ c.bad_record_length.ensures w.if-bad_record_length.true w.value-is
      | else-bad_record_length w ↦
          second_decides c.bad_record_length.ensures w.if-bad_record_length.false w.bad_window_length.ensures w.value-is
    ])
    (elim c.if-bad_window_length.branch [
      | then-bad_window_length w ↦ first_holds _ refl w.if-bad_window_length.true w.value-is
      | else-bad_window_length w ↦
          second_decides refl w.if-bad_window_length.false w.bad_record_length-else-bad_window_length.ensures w.value-is
    ])
    (elim c.if-bad_record_length-2.branch [
      | then-bad_record_length-2 w ↦ first_holds _ refl w.if-bad_record_length-2.true w.value-is
      | else-bad_record_length-2 w ↦
          second_decides refl w.if-bad_record_length-2.false w.bad_window_length-else-bad_record_length-2.ensures
          w.value-is
    ])

pub returns-then-bad_window_length-2 : goal.returns-then-bad_window_length-2
returns-then-bad_window_length-2 c =
    let every = all (goal.at.returns-then-bad_window_length-2 c).Joined-bad_record_length-2 in
    c.if-bad_window_length-2.true ∙ rw c.if-bad_window_length-2.true at every

pub returns-else-bad_window_length-2 : goal.returns-else-bad_window_length-2
returns-else-bad_window_length-2 c =
    let every = all (goal.at.returns-else-bad_window_length-2 c).Joined-bad_record_length-2 in
    rw (c.room_of.ensures, c.room_of-else-bad_window_length-2.ensures) (rw c.if-bad_window_length-2.false at every)
