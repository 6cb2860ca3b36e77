-- Past the end of the clock the count is 0.
use Rattle.std.proofs.Common.{◌≡◌, rules}
use Rattle.clocks.specs.Key.{lowest, key_of}
use Rattle.clocks.specs.Counts.{at}
use Rattle.clocks.proofs.order.key.Goals as goal

pub returns : goal.returns
unfolding key_of lowest
returns c =
    let e = c.args.e in
    let p : c.lowest_bit-process.result ≡ lowest e = c.lowest_bit-process.ensures.0 in
    let n : c.unwrap_or-count.result ≡ at e.clock (lowest e) = rw (← p) (search rules) in
    rw (n, p)
