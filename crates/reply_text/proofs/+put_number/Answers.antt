-- The digits before the last are laid by the call, which is allowed one digit less: `last_digit`.
use Rattle.std.proofs.Common.{take, arith}
use Rattle.reply_text.proofs.TextSteps.{no_digits, one_digit, last_digit}
use Rattle.reply_text.proofs.+put_number.Goals as goal

pub returns-then-most-eq0-clause-out_after : goal.returns-then-most-eq0-clause-out_after
returns-then-most-eq0-clause-out_after t c = let a = c.args in no_digits (take a.at a.out.now) a.most a.n c.if-most-eq0.true

pub returns-then-n-lt10-clause-out_after : goal.returns-then-n-lt10-clause-out_after
returns-then-n-lt10-clause-out_after t c =
    let a = c.args in
    one_digit a.out.now a.at a.most a.n (omega arith) (omega arith) c.if-n-lt10.true

pub returns-clause-out_after : goal.returns-clause-out_after
returns-clause-out_after t c =
    let a = c.args in
    let r = c.put_number-end in
    last_digit r.new.out (take a.at a.out.now) r.result a.most a.n (omega arith) (omega arith) (omega arith) r.ensures.out_after
