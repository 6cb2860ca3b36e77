-- The values are read from the bytes.
use Rattle.std.proofs.Common.{arith, ◌∙◌}
use Rattle.frontiers.proofs.listed.ListedSteps.{few, long, stands, values_read}
use Rattle.frontiers.proofs.listed.Frontiers.values_at.Goals as goal

pub values_at-requires-clause-i_bound : goal.values_at-requires-clause-i_bound
values_at-requires-clause-i_bound c = few c.self.inside c.args.self.now c.self.view_is c.self.invariant c.args.i c.requires

pub values_at-requires-clause-w_in_bounds : goal.values_at-requires-clause-w_in_bounds
values_at-requires-clause-w_in_bounds c = stands c.self.inside c.args.self.now c.self.view_is c.self.invariant c.args.i c.requires

pub returns-clause-value : goal.returns-clause-value
returns-clause-value c =
    c.values_at.ensures ∙ values_read c.self.inside c.args.self.now c.self.view_is c.self.invariant c.args.i c.requires

pub returns-clause-most : goal.returns-clause-most
returns-clause-most c = omega (arith, long c.self.inside c.args.self.now c.self.view_is, c.self.invariant.most)
