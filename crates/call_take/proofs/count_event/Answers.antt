-- The removal leaves the taken counts, so the event is ready still.
use Prim.Native.Nat.{ℕ}
use mathlib.Core.List.{List}
use lib.Dec.{T}
use mathlib.Core.Path.{ap, ◌∙◌}
use Rattle.records.specs.Record.{counted, ready_in}
use Rattle.call_take.proofs.TakenSteps.{removed-ready}
use Rattle.call_take.proofs.count_event.Goals as goal

pub count_taken-requires-clause-by_index : goal.count_taken-requires-clause-by_index
count_taken-requires-clause-by_index c =
    let asked = c.requires in
    asked.by_index

pub count_taken-requires-clause-t : goal.count_taken-requires-clause-t
count_taken-requires-clause-t c =
    let a = c.args in
    let asked = c.requires in
    let ready : T (ready_in a.w c.remove_event.new.«record» a.e) =
    rw c.remove_event.ensures (removed-ready a.w a.«record».now a.i a.e asked.t) in
    ready

pub returns : goal.returns
returns c =
    let a = c.args in
    c.count_taken.ensures ∙ ap (λ (u : List ℕ). counted a.w u a.e a.kept) c.remove_event.ensures
