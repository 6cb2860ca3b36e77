-- Each return is the definition under the tests of the byte.
use Prim.Native.Nat.{◌-◌}
use native.Mathlib.Omega.{arith}
use mathlib.Core.Path.{refl, sym, ap, ◌∙◌}
use borrow.Author.Tests.{le-leb, lt-leb, lt-ltb, le-ltb}
use Rattle.rules.specs.Laying.{digit_at}
use Rattle.rules.specs.ReaderCode.{byte_of}
use Rattle.rules.specs.Text.{byte_at}
use Rattle.rules.proofs.forms.read_digit.Goals as goal

pub returns-in_default : goal.returns-in_default
unfolding digit_at
returns-in_default c =
    let x = byte_at c.args.text.now c.args.place in
    (rw (lt-leb 48 x (omega (arith, c.in_default.ensures))), refl)

pub returns-in_default-2 : goal.returns-in_default-2
unfolding digit_at
returns-in_default-2 c =
    let x = byte_at c.args.text.now c.args.place in
    let same = c.in_default.ensures in
    (rw (le-leb 48 x (omega (arith, same)), lt-leb x 57 (omega (arith, same))), refl)

pub returns-in_default-3 : goal.returns-in_default-3
unfolding digit_at
returns-in_default-3 c = (rw (sym c.byte_at.ensures ∙ ap byte_of c.in_default.is), refl)

pub returns-then-from-bound : goal.returns-then-from-bound
unfolding digit_at
returns-then-from-bound c =
    let x = c.in-Some-48-to-57.byte in
    rw (
      ← c.in-Some-48-to-57.ensures,
      le-leb 48 x (omega arith),
      le-leb x 57 (omega arith),
      lt-ltb (x - 48) c.args.bound (omega arith),
      c.from-then-from-bound.ensures,
    )

pub returns-else-from-bound : goal.returns-else-from-bound
unfolding digit_at
returns-else-from-bound c =
    let x = c.in-Some-48-to-57.byte in (
      rw (
        ← c.in-Some-48-to-57.ensures,
        le-leb 48 x (omega arith),
        le-leb x 57 (omega arith),
        le-ltb (x - 48) c.args.bound (omega arith),
      ),
      refl,
    )
