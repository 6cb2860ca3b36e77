-- The mask is the first byte of the event, which lies within the record.
use native.Mathlib.Omega.{arith}
use Rattle.clocks.specs.Key.{lowest}
use Rattle.records.specs.Record.{pending_at}
use Rattle.records.specs.RecordLaws.{event-within}
use Rattle.std.proofs.Common.{rules}
use Rattle.trial.proofs.turn.lowest_at.Goals as goal

pub bounds-record-pending_place : goal.bounds-record-pending_place
bounds-record-pending_place c =
    let a = c.args in
    omega (arith, event-within a.w a.i (search rules))

pub returns : goal.returns
unfolding lowest pending_at
returns c = search rules
