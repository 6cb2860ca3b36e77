-- The events behind are moved down, then the last place is cleared: the law `stored_removed`.
use mathlib.Core.Path.{sym}
use Rattle.updates.proofs.UpdateSteps.{stored_removed}
use Rattle.std.proofs.Common.{rules}
use Rattle.updates.proofs.remove_event.Goals as goal

-- By rewriting and not by `cc`, as in insert_event.
pub returns : goal.returns
returns c =
    let a = c.args in
    let n = c.pending_count-n.result in
    rw (
      c.clear.ensures,
      c.move_down.ensures,
      c.event_length-size.ensures.0,
      c.pending_place-freed.ensures.0,
      c.pending_place-place.ensures.0,
    )
    (stored_removed a.w a.i n a.«record».now (sym
    c.pending_count-n.ensures.0) (search rules) (search rules) (search rules))
