-- The record cleared, then its numbers and its table stored: the law `stored_record`.
use Prim.Native.Nat.{◌*◌}
use mathlib.Core.Path.{◌∙◌}
use Rattle.call_open.proofs.OpenSteps.{copied, stored_record}
use Rattle.std.proofs.Common.{rules}
use Rattle.call_open.proofs.write_record.Goals as goal

-- By rewriting and not by `cc`: of a wrong byte `cc` only says that it met a bound of its own.
pub returns : goal.returns
returns c =
    let a = c.args in
    let part = copied c.write_u32.new.s c.copy_from_slice.new.self c.table_place-place.result (3 * a.lines) (search rules) (search rules) in
    let stored = stored_record a.w a.k a.lines a.«record».now a.table.now (search rules) (search rules) (search rules) in
    part
    ∙ rw (
      c.copy_from_slice.ensures.after,
      c.write_u32.ensures,
      c.clear_all.ensures,
      c.table_place-place.ensures.0,
    ) stored
