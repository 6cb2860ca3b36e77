-- The pieces are read one after the other, as the definition says; a fault stays. The whole line stands first: where
-- several goals fail, rt names the first.
use Rattle.std.proofs.Common.{refl}
use Rattle.line_pieces.specs.Reading.{value_read, then_byte, then_number, then_end}
use Rattle.lines.specs.Lines.{watch_of}
use Rattle.lines.specs.LinesCode.{watch_line_of}
use Rattle.lines.proofs.LineSteps.{fault_kept}
use Rattle.lines.proofs.watch.WatchSteps.{watch_made}
use Rattle.lines.proofs.watch.pieces.Goals as goal

pub returns : goal.returns
unfolding value_read watch_of
returns c =
    watch_made c.args.line.now c.in_ok-word.ensures c.in_ok-k.ensures c.in_ok-space.ensures c.in_ok-room.ensures
    c.in_ok-bracket.ensures c.in_ok-end.ensures

pub returns-in_err-word : goal.returns-in_err-word
unfolding watch_of then_byte then_number then_end
returns-in_err-word c =
    fault_kept watch_line_of _ _ c.from_residual.ensures.1
    (watch_made c.args.line.now c.in_err-word.ensures refl refl refl refl refl)

pub returns-in_err-k : goal.returns-in_err-k
unfolding watch_of then_byte then_number then_end
returns-in_err-k c =
    fault_kept watch_line_of _ _ c.from_residual-in_err-k.ensures.1
    (watch_made c.args.line.now c.in_ok-word.ensures c.in_err-k.ensures refl refl refl refl)

pub returns-in_err-space : goal.returns-in_err-space
unfolding watch_of then_byte then_number then_end
returns-in_err-space c =
    fault_kept watch_line_of _ _ c.from_residual-in_err-space.ensures.1
    (watch_made c.args.line.now c.in_ok-word.ensures c.in_ok-k.ensures c.in_err-space.ensures refl refl refl)

pub returns-in_err-room : goal.returns-in_err-room
unfolding watch_of then_byte then_end
returns-in_err-room c =
    fault_kept watch_line_of _ _ c.from_residual-in_err-room.ensures.1
    (watch_made c.args.line.now c.in_ok-word.ensures c.in_ok-k.ensures c.in_ok-space.ensures c.in_err-room.ensures refl
    refl)

pub returns-in_err-bracket : goal.returns-in_err-bracket
unfolding watch_of then_end
returns-in_err-bracket c =
    fault_kept watch_line_of _ _ c.from_residual-in_err-bracket.ensures.1
    (watch_made c.args.line.now c.in_ok-word.ensures c.in_ok-k.ensures c.in_ok-space.ensures c.in_ok-room.ensures
    c.in_err-bracket.ensures refl)

pub returns-in_err-end : goal.returns-in_err-end
unfolding watch_of
returns-in_err-end c =
    fault_kept watch_line_of _ _ c.from_residual-in_err-end.ensures.1
    (watch_made c.args.line.now c.in_ok-word.ensures c.in_ok-k.ensures c.in_ok-space.ensures c.in_ok-room.ensures
    c.in_ok-bracket.ensures c.in_err-end.ensures)
