-- Every verdict that was reported on the way is PaCTL's.
use Rattle.demands.specs.lists.SoundRun.{every-list}
use Rattle.demands.specs.statements.Verdicts.{VerdictsAreTrue}

pub verdicts_true : VerdictsAreTrue
verdicts_true = every-list _ (λ w k f start Z S. S.reporting.truthful)
