-- A mask has a bit from k up exactly if it is not 0 when shifted by k: the law `mask_shift`.
use Rattle.std.proofs.Common.{sym, rules}
use Rattle.clocks.specs.Refusal.{bad_mask}
use Rattle.clocks.specs.stored.RefusalLaws.{mask_shift}
use Rattle.clocks.proofs.refusal.bad_mask.Goals as goal

pub returns-then-mask-eq0 : goal.returns-then-mask-eq0
unfolding bad_mask
returns-then-mask-eq0 c = rw c.if-mask-eq0.true

pub returns-else-mask-eq0 : goal.returns-else-mask-eq0
returns-else-mask-eq0 c = sym (mask_shift c.args.k c.args.mask (search rules) c.if-mask-eq0.false)
