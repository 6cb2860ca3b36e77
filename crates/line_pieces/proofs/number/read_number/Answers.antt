-- Each return is the number's definition by the tests in the code's order, `number_step`. A number that is taken stands
-- first: where several goals fail, rt names the first.
use Rattle.std.proofs.Common.{◌≡◌, sym, ◌∙◌, ◌+◌, ◌&&◌, false, leb, ltb, eqb, rules}
use borrow.Author.Tests.{le-leb, lt-leb, lt-ltb, le-ltb}
use Rattle.rules.specs.Text.{byte_at}
use Rattle.line_pieces.proofs.number.NumberSteps.{number_step}
use Rattle.line_pieces.proofs.number.read_number.Goals as goal
use Rattle.line_pieces.proofs.number.read_number.Goals.{else-has_byte-via-then-has_byte+else-start-end, else-has_byte-via-else-has_byte}

pub returns : goal.returns
returns c =
    let a = c.args in
    let d = c.read_digits-end.result in
    let needless : (eqb (byte_at a.line.now a.start) 48 && ltb (a.start + 1) d.end) ≡ false =
    rw (← c.has_byte.ensures.value)
    (elim c.else-has_byte.branch [
      | else-has_byte-via-then-has_byte+else-start-end w ↦ rw (w.if-has_byte.true, le-ltb _ _ w.if-start-end.false)
      | else-has_byte-via-else-has_byte w ↦ rw w.if-has_byte.false
    ]) in
    let within : (leb a.least d.value && leb d.value a.most) ≡ c.contains.result = search rules in
    sym (number_step a.line.now _ _ _ _ _ c.read_digits-end.ensures c.requires
    ∙ rw (lt-leb _ _ c.if-end-start.false, needless, within, c.if-not-contains.false))

pub returns-then-end-start : goal.returns-then-end-start
returns-then-end-start c =
    sym (number_step c.args.line.now _ _ _ _ _ c.read_digits-end.ensures c.requires
    ∙ rw (le-leb _ _ c.if-end-start.true))

pub returns-then-start-end : goal.returns-then-start-end
returns-then-start-end c =
    sym (number_step c.args.line.now _ _ _ _ _ c.read_digits-end.ensures c.requires
    ∙ rw (
      lt-leb _ _ c.if-end-start.false,
      ← c.has_byte.ensures.value,
      c.if-has_byte.true,
      lt-ltb _ _ c.if-start-end.true,
    ))

pub returns-then-not-contains : goal.returns-then-not-contains
returns-then-not-contains c =
    let a = c.args in
    let d = c.read_digits-end.result in
    let needless : (eqb (byte_at a.line.now a.start) 48 && ltb (a.start + 1) d.end) ≡ false =
    rw (← c.has_byte.ensures.value)
    (elim c.else-has_byte.branch [
      | else-has_byte-via-then-has_byte+else-start-end w ↦ rw (w.if-has_byte.true, le-ltb _ _ w.if-start-end.false)
      | else-has_byte-via-else-has_byte w ↦ rw w.if-has_byte.false
    ]) in
    let within : (leb a.least d.value && leb d.value a.most) ≡ c.contains.result = search rules in
    sym (number_step a.line.now _ _ _ _ _ c.read_digits-end.ensures c.requires
    ∙ rw (lt-leb _ _ c.if-end-start.false, needless, within, c.if-not-contains.true))
