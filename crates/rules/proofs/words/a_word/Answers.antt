-- Each return is the definition at the letter of its arm; the last two, at none of them and after the end.
use Prim.Native.Nat.{◌+◌}
use native.Mathlib.Omega.{arith}
use mathlib.Core.Path.{◌≡◌, sym, ap, ◌∙◌}
use borrow.Author.Tests.{ne_eqb}
use Rattle.rules.specs.Reader.{a_word_at}
use Rattle.rules.specs.ReaderCode.{byte_of}
use Rattle.rules.proofs.words.a_word.Goals as goal

pub returns-in-Some-eq116 : goal.returns-in-Some-eq116
unfolding a_word_at
returns-in-Some-eq116 c = rw (sym c.in-Some-eq116.ensures ∙ c.in-Some-eq116.field-0-test)

pub returns-in-Some-eq115 : goal.returns-in-Some-eq115
unfolding a_word_at
returns-in-Some-eq115 c = rw (sym c.in-Some-eq115.ensures ∙ c.in-Some-eq115.field-0-test)

pub returns-in-Some-eq112 : goal.returns-in-Some-eq112
unfolding a_word_at
returns-in-Some-eq112 c = rw (sym c.in-Some-eq112.ensures ∙ c.in-Some-eq112.field-0-test)

pub returns-in-Some-eq121 : goal.returns-in-Some-eq121
unfolding a_word_at
returns-in-Some-eq121 c = rw (sym c.in-Some-eq121.ensures ∙ c.in-Some-eq121.field-0-test)

pub returns-in-Some-eq104 : goal.returns-in-Some-eq104
unfolding a_word_at
returns-in-Some-eq104 c = rw (sym c.in-Some-eq104.ensures ∙ c.in-Some-eq104.field-0-test)

pub returns-in-Some-eq110 : goal.returns-in-Some-eq110
unfolding a_word_at
returns-in-Some-eq110 c =
    let end : c.args.i + 1 + 1 ≡ c.args.i + 2 = omega arith in
    rw (sym c.in-Some-eq110.ensures ∙ c.in-Some-eq110.field-0-test) (rw end at c.rest.ensures)

pub returns-in_default : goal.returns-in_default
unfolding a_word_at
returns-in_default c =
    let none = c.in_default.field-0-test in
    rw (
      ← c.in_default.ensures,
      ne_eqb _ 116 none.0.0.0.0.0.1,
      ne_eqb _ 115 none.0.0.0.0.1,
      ne_eqb _ 112 none.0.0.0.1,
      ne_eqb _ 121 none.0.0.1,
      ne_eqb _ 104 none.0.1,
      ne_eqb _ 110 none.1,
    )

pub returns-in_default-2 : goal.returns-in_default-2
unfolding a_word_at
returns-in_default-2 c = rw (sym c.byte_at.ensures ∙ ap byte_of c.in_default.is)
