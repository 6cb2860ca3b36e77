-- The pieces are read one after the other, as the definition says; a fault stays. The whole line stands first: where
-- several goals fail, rt names the first.
use Rattle.std.proofs.Common.{refl}
use Rattle.line_pieces.specs.Reading.{then_end}
use Rattle.line_pieces.specs.NumberList.{then_spaced_list, then_close}
use Rattle.lines.specs.Lines.{start_of}
use Rattle.lines.specs.LinesCode.{start_line_of}
use Rattle.lines.proofs.start.StartSteps.{start_made}
use Rattle.lines.proofs.start.pieces.Goals as goal
use Rattle.lines.proofs.LineSteps.{fault_kept, list_values}

pub returns : goal.returns
unfolding start_of
returns c =
    rw (c.word_of.ensures, list_values c.in_ok-labels.ensures)
    (start_made c.args.line.now c.args.k c.in_ok-word.ensures c.in_ok-labels.ensures c.in_ok-bracket.ensures.value
    c.in_ok-then_end.ensures)

pub returns-in_err-word : goal.returns-in_err-word
unfolding start_of then_spaced_list then_close then_end
returns-in_err-word c =
    fault_kept start_line_of _ _ c.from_residual.ensures.1
    (start_made c.args.line.now c.args.k c.in_err-word.ensures refl refl refl)

pub returns-in_err-labels : goal.returns-in_err-labels
unfolding start_of then_close then_end
returns-in_err-labels c =
    fault_kept start_line_of _ _ c.from_residual-in_err-labels.ensures.1
    (start_made c.args.line.now c.args.k c.in_ok-word.ensures c.in_err-labels.ensures refl refl)

pub returns-in_err-bracket : goal.returns-in_err-bracket
unfolding start_of then_end
returns-in_err-bracket c =
    fault_kept start_line_of _ _ c.from_residual-in_err-bracket.ensures.1
    (start_made c.args.line.now c.args.k c.in_ok-word.ensures c.in_ok-labels.ensures c.in_err-bracket.ensures.value
    refl)

pub returns-in_err-then_end : goal.returns-in_err-then_end
unfolding start_of
returns-in_err-then_end c =
    fault_kept start_line_of _ _ c.from_residual-in_err-then_end.ensures.1
    (start_made c.args.line.now c.args.k c.in_ok-word.ensures c.in_ok-labels.ensures c.in_ok-bracket.ensures.value
    c.in_err-then_end.ensures)
