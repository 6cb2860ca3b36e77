-- Verdicts (demands 2 and 3): after every list of calls, each verdict that open or a take reported on the way is
-- PaCTL's at the cut that it was reported for, over all consistent cuts of the events taken by the list's end. Proved
-- in lists/VerdictsTrue.
use Rattle.demands.specs.EveryList.{AfterEveryList}
use Rattle.demands.specs.Verdict.{Truthful}

abbrev pub VerdictsAreTrue : Type 0
VerdictsAreTrue = AfterEveryList (λ w k f start Z. Truthful k f start Z.ledger.history Z.answers)
