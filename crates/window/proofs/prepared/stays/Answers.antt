-- Complete at an open process, or the largest.
use Rattle.std.proofs.Common.{◌≡◌, false, sym, ◌∙◌, rules}
use Rattle.window.specs.StepCode.{complete}
use Rattle.lookup.specs.OrderLaws.{same-all}
use Rattle.window.proofs.prepared.stays.Goals as goal

pub returns-else-some_complete : goal.returns-else-some_complete
returns-else-some_complete c =
    λ k closed h e. let a = c.args in
    let none : complete k closed a.reached a.counts ≡ false = sym (c.some_complete.ensures k closed h e) ∙ c.if-some_complete.false in
    rw none (c.counts_same.ensures ∙ same-all a.counts a.reached 8 (search rules) (search rules))
