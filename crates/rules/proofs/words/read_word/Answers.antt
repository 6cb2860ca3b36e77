-- Each return is the definition at the letter of its arm; the last two, at none of them and after the end.
use Prim.Native.Nat.{◌+◌}
use native.Mathlib.Omega.{arith}
use mathlib.Core.Path.{◌≡◌, sym, ap, ◌∙◌}
use borrow.Author.Tests.{ne_eqb}
use Rattle.rules.specs.Reader.{word_at}
use Rattle.rules.specs.ReaderCode.{byte_of}
use Rattle.rules.proofs.words.read_word.Goals as goal

pub returns-in-Some-eq97 : goal.returns-in-Some-eq97
unfolding word_at
returns-in-Some-eq97 c = rw (sym c.in-Some-eq97.ensures ∙ c.in-Some-eq97.field-0-test) c.a_word.ensures

pub returns-in-Some-eq101 : goal.returns-in-Some-eq101
unfolding word_at
returns-in-Some-eq101 c = rw (sym c.in-Some-eq101.ensures ∙ c.in-Some-eq101.field-0-test) c.e_word.ensures

pub returns-in-Some-eq110 : goal.returns-in-Some-eq110
unfolding word_at
returns-in-Some-eq110 c =
    let end : c.args.i + 1 + 2 ≡ c.args.i + 3 = omega arith in
    rw (sym c.in-Some-eq110.ensures ∙ c.in-Some-eq110.field-0-test) (rw end at c.rest.ensures)

pub returns-in-Some-eq116 : goal.returns-in-Some-eq116
unfolding word_at
returns-in-Some-eq116 c =
    let end : c.args.i + 1 + 3 ≡ c.args.i + 4 = omega arith in
    rw (sym c.in-Some-eq116.ensures ∙ c.in-Some-eq116.field-0-test) (rw end at c.rest-in-Some-eq116.ensures)

pub returns-in-Some-eq102 : goal.returns-in-Some-eq102
unfolding word_at
returns-in-Some-eq102 c =
    let end : c.args.i + 1 + 4 ≡ c.args.i + 5 = omega arith in
    rw (sym c.in-Some-eq102.ensures ∙ c.in-Some-eq102.field-0-test) (rw end at c.rest-in-Some-eq102.ensures)

pub returns-in-Some-eq111 : goal.returns-in-Some-eq111
unfolding word_at
returns-in-Some-eq111 c =
    let end : c.args.i + 1 + 1 ≡ c.args.i + 2 = omega arith in
    rw (sym c.in-Some-eq111.ensures ∙ c.in-Some-eq111.field-0-test) (rw end at c.rest-in-Some-eq111.ensures)

pub returns-in_default : goal.returns-in_default
unfolding word_at
returns-in_default c =
    let none = c.in_default.field-0-test in
    rw (
      ← c.in_default.ensures,
      ne_eqb _ 97 none.0.0.0.0.0.1,
      ne_eqb _ 101 none.0.0.0.0.1,
      ne_eqb _ 110 none.0.0.0.1,
      ne_eqb _ 116 none.0.0.1,
      ne_eqb _ 102 none.0.1,
      ne_eqb _ 111 none.1,
    )

pub returns-in_default-2 : goal.returns-in_default-2
unfolding word_at
returns-in_default-2 c = rw (sym c.byte_at.ensures ∙ ap byte_of c.in_default.is)
