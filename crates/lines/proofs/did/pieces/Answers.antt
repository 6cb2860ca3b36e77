-- The pieces are read one after the other, as the definition says; a fault stays. The whole line stands first: where
-- several goals fail, rt names the first.
use Rattle.std.proofs.Common.{refl, ◌∙◌}
use Rattle.line_pieces.specs.Reading.{value_read, then_byte, then_bytes, then_end}
use Rattle.line_pieces.specs.NumberList.{then_list, then_close}
use Rattle.lines.specs.Lines.{did_of}
use Rattle.lines.specs.LinesCode.{did_line_of}
use Rattle.lines.proofs.did.DidSteps.{did_made, did_eight}
use Rattle.lines.proofs.did.pieces.Goals as goal
use Rattle.lines.proofs.LineSteps.{fault_kept, list_values}

pub returns : goal.returns
unfolding value_read did_of
returns c =
    c.did_of.ensures
    ∙ rw (list_values c.in_ok-processes.ensures, list_values c.in_ok-counts.ensures, list_values c.in_ok-labels.ensures)
    (did_eight c.in_ok-first.first.value _ _ _ c.in_ok-then_end.field-0.place c.in_ok-then_end.field-0.value
    c.in_ok-first.ensures.few)
    ∙ did_made c.args.line.now c.args.k c.in_ok-word.ensures c.in_ok-processes.ensures c.in_ok-first.ensures.value
    c.in_ok-second.ensures c.in_ok-counts.ensures c.in_ok-third.ensures.value c.in_ok-fourth.ensures
    c.in_ok-labels.ensures c.in_ok-last.ensures.value c.in_ok-bracket.ensures c.in_ok-then_end.ensures

pub returns-in_err-word : goal.returns-in_err-word
unfolding did_of then_list then_close then_bytes then_byte then_end
returns-in_err-word c =
    fault_kept did_line_of _ _ c.from_residual.ensures.1
    (did_made c.args.line.now c.args.k c.in_err-word.ensures refl refl refl refl refl refl refl refl refl refl)

pub returns-in_err-processes : goal.returns-in_err-processes
unfolding did_of then_close then_bytes then_list then_byte then_end
returns-in_err-processes c =
    fault_kept did_line_of _ _ c.from_residual-in_err-processes.ensures.1
    (did_made c.args.line.now c.args.k c.in_ok-word.ensures c.in_err-processes.ensures refl refl refl refl refl refl
    refl refl refl)

pub returns-in_err-first : goal.returns-in_err-first
unfolding did_of then_bytes then_list then_close then_byte then_end
returns-in_err-first c =
    fault_kept did_line_of _ _ c.from_residual-in_err-first.ensures.1
    (did_made c.args.line.now c.args.k c.in_ok-word.ensures c.in_ok-processes.ensures c.in_err-first.ensures.value
    refl refl refl refl refl refl refl refl)

pub returns-in_err-second : goal.returns-in_err-second
unfolding did_of then_list then_close then_bytes then_byte then_end
returns-in_err-second c =
    fault_kept did_line_of _ _ c.from_residual-in_err-second.ensures.1
    (did_made c.args.line.now c.args.k c.in_ok-word.ensures c.in_ok-processes.ensures c.in_ok-first.ensures.value
    c.in_err-second.ensures refl refl refl refl refl refl refl)

pub returns-in_err-counts : goal.returns-in_err-counts
unfolding did_of then_close then_bytes then_list then_byte then_end
returns-in_err-counts c =
    fault_kept did_line_of _ _ c.from_residual-in_err-counts.ensures.1
    (did_made c.args.line.now c.args.k c.in_ok-word.ensures c.in_ok-processes.ensures c.in_ok-first.ensures.value
    c.in_ok-second.ensures c.in_err-counts.ensures refl refl refl refl refl refl)

pub returns-in_err-third : goal.returns-in_err-third
unfolding did_of then_bytes then_list then_close then_byte then_end
returns-in_err-third c =
    fault_kept did_line_of _ _ c.from_residual-in_err-third.ensures.1
    (did_made c.args.line.now c.args.k c.in_ok-word.ensures c.in_ok-processes.ensures c.in_ok-first.ensures.value
    c.in_ok-second.ensures c.in_ok-counts.ensures c.in_err-third.ensures.value refl refl refl refl refl)

pub returns-in_err-fourth : goal.returns-in_err-fourth
unfolding did_of then_list then_close then_byte then_end
returns-in_err-fourth c =
    fault_kept did_line_of _ _ c.from_residual-in_err-fourth.ensures.1
    (did_made c.args.line.now c.args.k c.in_ok-word.ensures c.in_ok-processes.ensures c.in_ok-first.ensures.value
    c.in_ok-second.ensures c.in_ok-counts.ensures c.in_ok-third.ensures.value c.in_err-fourth.ensures refl refl refl
    refl)

pub returns-in_err-labels : goal.returns-in_err-labels
unfolding did_of then_close then_byte then_end
returns-in_err-labels c =
    fault_kept did_line_of _ _ c.from_residual-in_err-labels.ensures.1
    (did_made c.args.line.now c.args.k c.in_ok-word.ensures c.in_ok-processes.ensures c.in_ok-first.ensures.value
    c.in_ok-second.ensures c.in_ok-counts.ensures c.in_ok-third.ensures.value c.in_ok-fourth.ensures
    c.in_err-labels.ensures refl refl refl)

pub returns-in_err-last : goal.returns-in_err-last
unfolding value_read did_of then_byte then_end
returns-in_err-last c =
    fault_kept did_line_of _ _ c.from_residual-in_err-last.ensures.1
    (did_made c.args.line.now c.args.k c.in_ok-word.ensures c.in_ok-processes.ensures c.in_ok-first.ensures.value
    c.in_ok-second.ensures c.in_ok-counts.ensures c.in_ok-third.ensures.value c.in_ok-fourth.ensures
    c.in_ok-labels.ensures c.in_err-last.ensures.value refl refl)

pub returns-in_err-bracket : goal.returns-in_err-bracket
unfolding value_read did_of then_end
returns-in_err-bracket c =
    fault_kept did_line_of _ _ c.from_residual-in_err-bracket.ensures.1
    (did_made c.args.line.now c.args.k c.in_ok-word.ensures c.in_ok-processes.ensures c.in_ok-first.ensures.value
    c.in_ok-second.ensures c.in_ok-counts.ensures c.in_ok-third.ensures.value c.in_ok-fourth.ensures
    c.in_ok-labels.ensures c.in_ok-last.ensures.value c.in_err-bracket.ensures refl)

pub returns-in_err-then_end : goal.returns-in_err-then_end
unfolding value_read did_of
returns-in_err-then_end c =
    fault_kept did_line_of _ _ c.from_residual-in_err-then_end.ensures.1
    (did_made c.args.line.now c.args.k c.in_ok-word.ensures c.in_ok-processes.ensures c.in_ok-first.ensures.value
    c.in_ok-second.ensures c.in_ok-counts.ensures c.in_ok-third.ensures.value c.in_ok-fourth.ensures
    c.in_ok-labels.ensures c.in_ok-last.ensures.value c.in_ok-bracket.ensures c.in_err-then_end.ensures)
