use Rattle.frontiers.proofs.listed.ListedSteps.{long}
use Rattle.frontiers.proofs.listed.Frontiers.len.Goals as goal

pub returns-clause-value : goal.returns-clause-value
returns-clause-value c = long c.self.inside c.args.self.now c.self.view_is
