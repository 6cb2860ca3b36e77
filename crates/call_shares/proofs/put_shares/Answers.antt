use native.Mathlib.Omega.{arith}
use mathlib.Core.Path.{◌≡◌, refl, ◌∙◌}
use lib.ListN.{length, replicate}
use Rattle.call_shares.proofs.PutSteps.{share_step, all-written}
use Rattle.call_shares.specs.Shares.{shares_bytes}
use Rattle.std.proofs.Common.{rules}
use Rattle.call_shares.proofs.put_shares.Goals as goal

pub loop-i-init : goal.loop-i-init
unfolding shares_bytes
loop-i-init c =
    let cleared : c.clear_all.new.s ≡ replicate 32 0 = search rules in
    (search rules, search rules, cleared)

pub loop-i-preserved : goal.loop-i-preserved
loop-i-preserved c =
    let l = c.loop-i in
    let shares = c.args.shares.now in (
      search rules,
      search rules,
      c.write_u16.ensures ∙ share_step shares l.pool l.i _ (search rules) l.invariant.2 refl,
    )

pub returns : goal.returns
returns c =
    let l = c.loop-i in
    let shares = c.args.shares.now in
    let all : l.i ≡ length shares = omega arith in
    (rw all at l.invariant.2) ∙ all-written shares (search rules)
