-- The number goes after the bytes.
use Rattle.reply_text.proofs.TextSteps.{behind}
use Rattle.codec.specs.Decimal.{numeral}
use Rattle.reply_text.proofs.piece.Goals as goal

pub returns-clause-out_after : goal.returns-clause-out_after
returns-clause-out_after c =
    let p = c.put-end in
    behind (numeral _) p.ensures.out_after c.put_number.ensures.out_after
