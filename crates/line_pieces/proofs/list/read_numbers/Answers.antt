use Rattle.std.proofs.Common.{sym, ◌∙◌, ◌≡◌, Ok, arith, rules}
use Rattle.std.proofs.lemmas.Result.{err_from_is_err_and}
use Rattle.line_pieces.specs.NumberLaws.{number-after}
use Rattle.line_pieces.specs.ReadingCode.{fault_of, read_of}
use Rattle.line_pieces.proofs.list.ListSteps.{going_start, going_refused, going_last, going_on}
use Rattle.line_pieces.proofs.list.read_numbers.Goals as goal

pub loop-found-init : goal.loop-found-init
loop-found-init c = going_start _ _ _ _

pub returns-in_err-found : goal.returns-in_err-found
returns-in_err-found c =
    let bad = c.in_err-found.field-0.0 in
    let kept : bad.values ≡ c.loop-found.values = search rules in
    let met : fault_of bad.fault ≡ read_of c.read_number.result = search rules in
    let p = err_from_is_err_and c.from_residual.result c.from_residual.ensures.1 in
    rw (p.1, p.2) (going_refused c.loop-found.invariant bad kept (met ∙ c.read_number.ensures))

pub returns-then-not-has_byte : goal.returns-then-not-has_byte
returns-then-not-has_byte c =
    let found : c.read_number.result ≡ Ok c.in_ok-found.found = search rules in
    going_last c.loop-found.invariant _ _ _ (rw found at c.read_number.ensures)
    (sym c.has_byte.ensures.value ∙ c.if-not-has_byte.true) c.keep.ensures

pub least_after-least-requires : goal.least_after-least-requires
least_after-least-requires c =
    let found : c.read_number.result ≡ Ok c.in_ok-found.found = search rules in
    let h = number-after c.args.line.now _ _ _ _ _ (sym (rw found at c.read_number.ensures)) in
    omega (arith, h.high, c.requires)

pub loop-found-smaller : goal.loop-found-smaller
loop-found-smaller c =
    let found : c.read_number.result ≡ Ok c.in_ok-found.found = search rules in
    let h = number-after c.args.line.now _ _ _ _ _ (sym (rw found at c.read_number.ensures)) in
    omega (arith, h.behind, c.has_byte.ensures.within c.if-not-has_byte.false)

pub loop-found-preserved : goal.loop-found-preserved
loop-found-preserved c =
    let found : c.read_number.result ≡ Ok c.in_ok-found.found = search rules in
    going_on c.loop-found.invariant _ _ _ _ (rw found at c.read_number.ensures)
    (sym c.has_byte.ensures.value ∙ c.if-not-has_byte.false)
    (c.has_byte.ensures.within c.if-not-has_byte.false) c.keep.ensures c.least_after-least.ensures
