-- A wrong length of the record, of the window or of the scratch.
use mathlib.Core.Path.{sym}
use lib.ListN.{length}
use Rattle.std.proofs.Common.{rules}
use borrow.Author.Tests.{ne_eqb}
use Rattle.refusals.specs.RefusalLaws.{right_length}
use Rattle.call_take.specs.TakeCode.{take_fault}
use Rattle.call_take.proofs.take_fault.Goals as goal
use Rattle.call_take.proofs.take_fault.Goals.{then-bad_record_length-via-then-bad_record_length, then-bad_record_length-via-else-bad_record_length+then-bad_window_length, then-bad_record_length-via-else-bad_record_length+else-bad_window_length+then-m-n}

pub returns-then-bad_record_length : goal.returns-then-bad_record_length
unfolding take_fault
returns-then-bad_record_length c =
    elim c.then-bad_record_length.branch [
      | then-bad_record_length-via-then-bad_record_length w ↦ rw (sym w.if-bad_record_length.ensures)
      | then-bad_record_length-via-else-bad_record_length+then-bad_window_length w ↦
          rw (sym w.if-bad_record_length.ensures, sym w.if-bad_window_length.ensures)
      | then-bad_record_length-via-else-bad_record_length+else-bad_window_length+then-m-n w ↦
          rw (sym w.if-bad_record_length.ensures, sym w.if-bad_window_length.ensures, ne_eqb _ _ w.if-m-n.true)
    ]

pub bad_state-requires : goal.bad_state-requires
bad_state-requires c = record { record_len = right_length c.args.w (length c.args.«record».now) (sym c.if-bad_record_length.ensures) }

pub returns-then-bad_state : goal.returns-then-bad_state
unfolding take_fault
returns-then-bad_state c = search rules

pub returns : goal.returns
unfolding take_fault
returns c = search rules
