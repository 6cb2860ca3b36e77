-- The test as a number is 1 or 0.
use Prim.Native.Nat.{ℕ, ◌+◌}
use native.Mathlib.Omega.{arith}
use mathlib.Core.Path.{◌≡◌, refl}
use mathlib.Core.Bool.{Bool, true, false}
use lib.Dec.{ltb}
use mir.Val.{bool_byte}
use Rattle.clocks.specs.Event.{one}
use Rattle.call_busiest.specs.Sharing.{evenly}
use Rattle.call_busiest.specs.SharingLaws.{evenly_most}
use Rattle.call_busiest.proofs.EvenShares.of.Goals as goal

byte_one : (b : Bool) → bool_byte b ≡ one b
byte_one true = refl
byte_one false = refl

-- What is added up is the share.
is : (each more p : ℕ) → each + bool_byte (ltb p more) ≡ evenly each more p
unfolding evenly
is each more p = omega (arith, byte_one (ltb p more))

pub overflow_add-result : goal.overflow_add-result
overflow_add-result c =
    let a = c.args in
    record { fits = omega (arith, is a.self.each a.self.more a.p, evenly_most a.self.each a.self.more a.p) }

pub returns : goal.returns
returns c =
    let a = c.args in
    let e : a.self.each + c.from.result ≡ evenly a.self.each a.self.more a.p = rw c.from.ensures (is a.self.each a.self.more a.p) in
    (e, omega (arith, e, evenly_most a.self.each a.self.more a.p))
