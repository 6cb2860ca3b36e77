-- The stores that the definition has, in its order; the counts fit since the event is ready.
use Prim.Native.Nat.{ℕ}
use mathlib.Core.Path.{◌≡◌, ap, subst⁻¹, ◌∙◌}
use mathlib.Core.List.{List}
use lib.Dec.{T}
use Rattle.clocks.specs.Event.{apply}
use Rattle.clocks.specs.Counts.{at, list_of}
use Rattle.clocks.specs.Tested.{ready}
use Rattle.records.specs.Record.{counted, taken_counts, ready_in}
use Rattle.std.proofs.Common.{rules}
use Rattle.updates.proofs.UpdateSteps.{applied_fits}
use Rattle.updates.proofs.count_taken.Goals as goal
use Rattle.updates.proofs.count_taken.Goals.{After-apply-counts}

-- The counts that were read are the taken ones, and those that are stored are theirs with the event.
stored : (c : After-apply-counts) → c.apply-counts.result ≡ list_of 8 (apply c.args.e (at (taken_counts c.args.w c.args.«record».now)))
stored c = let a = c.args in c.apply-counts.ensures ∙ ap (λ (l : List ℕ). list_of 8 (apply a.e (at l))) c.taken_counts.ensures

pub apply-counts-requires : goal.apply-counts-requires
unfolding ready_in
apply-counts-requires c =
    let a = c.args in
    subst⁻¹ (λ (l : List ℕ). T (ready 8 a.e (at l))) c.taken_counts.ensures c.requires.t

pub write_counts_at-requires-clause-by_index : goal.write_counts_at-requires-clause-by_index
write_counts_at-requires-clause-by_index c =
    let a = c.args in
    λ p. rw (stored (goal.at.write_counts_at-requires-clause-by_index c).After-apply-counts) (applied_fits a.w a.«record».now a.e (search rules) c.requires.t c.requires.by_index p)

pub returns : goal.returns
unfolding counted
returns c = let e = stored (goal.at.returns c).After-apply-counts in cc
