-- Each return is the definition at the letter of its arm; the last two, at none of them and after the end.
use mathlib.Core.Path.{sym, ap, ◌∙◌}
use borrow.Author.Tests.{ne_eqb}
use Rattle.rules.specs.Reader.{e_word_at}
use Rattle.rules.specs.ReaderCode.{byte_of}
use Rattle.rules.proofs.words.e_word.Goals as goal

pub returns-in-Some-eq121 : goal.returns-in-Some-eq121
unfolding e_word_at
returns-in-Some-eq121 c = rw (sym c.in-Some-eq121.ensures ∙ c.in-Some-eq121.field-0-test)

pub returns-in-Some-eq115 : goal.returns-in-Some-eq115
unfolding e_word_at
returns-in-Some-eq115 c = rw (sym c.in-Some-eq115.ensures ∙ c.in-Some-eq115.field-0-test)

pub returns-in-Some-eq112 : goal.returns-in-Some-eq112
unfolding e_word_at
returns-in-Some-eq112 c = rw (sym c.in-Some-eq112.ensures ∙ c.in-Some-eq112.field-0-test)

pub returns-in-Some-eq104 : goal.returns-in-Some-eq104
unfolding e_word_at
returns-in-Some-eq104 c = rw (sym c.in-Some-eq104.ensures ∙ c.in-Some-eq104.field-0-test)

pub returns-in_default : goal.returns-in_default
unfolding e_word_at
returns-in_default c =
    let none = c.in_default.field-0-test in
    rw (
      ← c.in_default.ensures,
      ne_eqb _ 121 none.0.0.0.1,
      ne_eqb _ 115 none.0.0.1,
      ne_eqb _ 112 none.0.1,
      ne_eqb _ 104 none.1,
    )

pub returns-in_default-2 : goal.returns-in_default-2
unfolding e_word_at
returns-in_default-2 c = rw (sym c.byte_at.ensures ∙ ap byte_of c.in_default.is)
