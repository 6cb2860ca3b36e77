use Rattle.std.proofs.Common.{refl, arith}
use Rattle.std.proofs.lemmas.List.{reverse-reverse}
use Rattle.std.proofs.lemmas.Iterator.Adapters.{YieldsList-from_rev_slice}
use Rattle.std.proofs.lemmas.Iterator.Consumers.{YieldsList-turn, YieldsList-end}
use Rattle.lines.specs.Words.{packed_word}
use Rattle.lines.proofs.words.WordSteps.{word_fits, word_next}
use Rattle.lines.proofs.words.word_of.Goals as goal

pub overflow_mul-word : goal.overflow_mul-word
overflow_mul-word c =
    let a = c.args in
    let l = c.loop-v in
    let t = YieldsList-turn (YieldsList-from_rev_slice a.values.now cc) l.yielded _ l.yielded_by _ _ c.in-Some.field-0
    c.in-Some.is c.next.ensures.steps in
    let fits = word_fits a.base 0 l.word a.values.now l.yielded c.requires.some c.requires.room t.0 l.invariant in
    omega (arith, fits.0)

pub overflow_add-word : goal.overflow_add-word
overflow_add-word c =
    let a = c.args in
    let l = c.loop-v in
    let v = c.in-Some.field-0 in
    let t = YieldsList-turn (YieldsList-from_rev_slice a.values.now cc) l.yielded _ l.yielded_by _ _ v c.in-Some.is
    c.next.ensures.steps in
    let fits = word_fits a.base v.now l.word a.values.now l.yielded c.requires.some c.requires.room t.0 l.invariant in
    omega (arith, fits.1)

pub loop-v-init : goal.loop-v-init
unfolding packed_word
loop-v-init c = refl

pub loop-v-preserved : goal.loop-v-preserved
loop-v-preserved c = word_next c.args.base _ c.loop-v.word c.loop-v.yielded c.loop-v.invariant c.in-Some.field-0 refl

pub returns : goal.returns
returns c =
    let l = c.loop-v in
    let t = YieldsList-end (YieldsList-from_rev_slice c.args.values.now cc) l.yielded _ l.yielded_by _ _ c.in-None.is
    c.next.ensures.steps in
    rw (l.invariant, t.0, reverse-reverse)
