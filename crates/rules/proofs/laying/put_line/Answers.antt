-- Three stores are the line's three bytes.
use Prim.Native.Nat.{suc, ◌+◌, ◌*◌}
use native.Mathlib.Numerals.{add-one}
use native.Mathlib.Omega.{arith}
use mathlib.Core.Path.{◌≡◌, refl}
use Rattle.pactl.specs.Table.{table_bytes}
use Rattle.rules.specs.Laying.{lay}
use Rattle.rules.proofs.laying.put_line.Goals as goal

pub returns : goal.returns
unfolding lay table_bytes
returns c =
    let e : 3 * c.args.n + 2 ≡ suc (suc (3 * c.args.n)) = omega arith in
    record { count = refl; few = omega arith; table = rw (e, add-one (3 * c.args.n)) }
