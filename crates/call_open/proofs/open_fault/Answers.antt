-- Each return is a number's turn.
use native.Mathlib.Omega.{arith}
use mathlib.Core.Path.{sym}
use Rattle.refusals.specs.RefusalLaws.{processes_within}
use Rattle.call_open.specs.OpenCode.{open_fault}
use Rattle.call_open.proofs.open_fault.Goals as goal
use Rattle.call_open.proofs.open_fault.Goals.{then-bad_record_length-via-then-bad_record_length, then-bad_record_length-via-else-bad_record_length+then-bad_window_length}

pub returns-then-bad_record_length : goal.returns-then-bad_record_length
unfolding open_fault
returns-then-bad_record_length c =
    elim c.then-bad_record_length.branch [
      | then-bad_record_length-via-then-bad_record_length w ↦ rw (← w.if-bad_record_length.ensures)
      | then-bad_record_length-via-else-bad_record_length+then-bad_window_length w ↦
          rw (← w.if-bad_record_length.ensures, ← w.if-bad_window_length.ensures)
    ]

pub returns-then-bad_processes : goal.returns-then-bad_processes
unfolding open_fault
returns-then-bad_processes c =
    rw (← c.if-bad_record_length.ensures, ← c.if-bad_window_length.ensures, ← c.if-bad_processes.ensures)

pub overflow_cast-k : goal.overflow_cast-k
overflow_cast-k c = omega (arith, (processes_within c.args.k (sym c.if-bad_processes.ensures)).1)

pub returns-then-bad_start : goal.returns-then-bad_start
unfolding open_fault
returns-then-bad_start c =
    rw (
      ← c.if-bad_record_length.ensures,
      ← c.if-bad_window_length.ensures,
      ← c.if-bad_processes.ensures,
      ← c.if-bad_start.ensures,
    )

pub returns : goal.returns
unfolding open_fault
returns c =
    rw (
      ← c.if-bad_record_length.ensures,
      ← c.if-bad_window_length.ensures,
      ← c.if-bad_processes.ensures,
      ← c.if-bad_start.ensures,
    )
