-- Two stores make the event, since all else of it is 0 already: the law `single_laid`.
use native.Mathlib.Omega.{arith}
use mathlib.Core.Path.{ap, ◌∙◌}
use Prim.Native.Nat.{ℕ, ◌+◌, ◌*◌}
use lib.ListN.{set, length-set}
use Rattle.codec.specs.Little.{put}
use Rattle.call_busiest.specs.DayBytes.{number_fits}
use Rattle.call_busiest.proofs.EventSteps.{single_laid, count-there}
use Rattle.std.proofs.Common.{rules}
use Rattle.call_busiest.proofs.put_single.Goals as goal

pub overflow_mul-p : goal.overflow_mul-p
overflow_mul-p c =
    let a = c.args in
    record { fits = rw c.bytes.ensures.value (omega (arith, count-there a.w a.p (search rules))) }

pub overflow_add-place-2 : goal.overflow_add-place-2
overflow_add-place-2 c =
    let a = c.args in
    record { fits = rw c.bytes.ensures.value (omega (arith, count-there a.w a.p (search rules))) }

pub write_count-requires-clause-w_in_bounds : goal.write_count-requires-clause-w_in_bounds
write_count-requires-clause-w_in_bounds c =
    let a = c.args in
    rw c.bytes.ensures.value
    (omega (arith, count-there a.w a.p (search rules), length-set a.events.now a.place a.mask))

pub write_count-requires-clause-c_bound : goal.write_count-requires-clause-c_bound
write_count-requires-clause-c_bound c =
    let a = c.args in
    number_fits a.w a.number (search rules) (omega arith)

pub shape_of-events : goal.shape_of-events
shape_of-events c =
    let a = c.args in
    omega (arith, length-set a.events.now a.place a.mask)

pub returns : goal.returns
returns c =
    let a = c.args in
    c.write_count.ensures
    ∙ ap (λ (k : ℕ). put (set a.events.now a.place a.mask) (a.place + 8 + a.p * k) a.w a.number) c.bytes.ensures.value
    ∙ ap (λ (m : ℕ). put (set a.events.now a.place m) (a.place + 8 + a.p * a.w) a.w a.number)
    (search rules)
    ∙ single_laid a.w a.p a.number a.events.now a.place (search rules) (search rules)
