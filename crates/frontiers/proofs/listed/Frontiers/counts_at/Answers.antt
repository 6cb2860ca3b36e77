-- The counts are read from the bytes.
use Rattle.std.proofs.Common.{◌∙◌}
use Rattle.frontiers.proofs.listed.ListedSteps.{few, stands, counts_read}
use Rattle.frontiers.proofs.listed.Frontiers.counts_at.Goals as goal

pub counts_at-requires-clause-i_bound : goal.counts_at-requires-clause-i_bound
counts_at-requires-clause-i_bound c = few c.self.inside c.args.self.now c.self.view_is c.self.invariant c.args.i c.requires

pub counts_at-requires-clause-w_in_bounds : goal.counts_at-requires-clause-w_in_bounds
counts_at-requires-clause-w_in_bounds c = stands c.self.inside c.args.self.now c.self.view_is c.self.invariant c.args.i c.requires

pub returns : goal.returns
returns c =
    c.counts_at.ensures ∙ counts_read c.self.inside c.args.self.now c.self.view_is c.self.invariant c.args.i c.requires
