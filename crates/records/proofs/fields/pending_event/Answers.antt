-- Each part is read from its place; the event lies within the record.
use Prim.Native.Nat.{◌≤◌, ◌+◌}
use native.Mathlib.Omega.{arith}
use mathlib.Core.Path.{refl}
use lib.ListN.{length}
use Rattle.records.specs.RecordLaws.{event-within, event_parts_lem}
use Rattle.records.specs.Record.{event_length}
use Rattle.std.proofs.Common.{rules}
use Rattle.records.proofs.fields.pending_event.Goals as goal
use Rattle.records.proofs.fields.pending_event.Goals.{After-pending_place-place}

-- The event ends within the bytes.
within : (c : After-pending_place-place) → c.pending_place-place.result + event_length c.args.w ≤ length c.args.«record».now
within c = let a = c.args in omega (arith, event-within a.w a.i (search rules))

pub bounds-record-place : goal.bounds-record-place
bounds-record-place c = omega (arith, within (goal.at.bounds-record-place c).After-pending_place-place)

pub read_counts-requires : goal.read_counts-requires
read_counts-requires c = omega (arith, within (goal.at.read_counts-requires c).After-pending_place-place)

pub read_eight-requires : goal.read_eight-requires
read_eight-requires c = omega (arith, within (goal.at.read_eight-requires c).After-pending_place-place)

pub returns : goal.returns
returns c =
    let a = c.args in
    event_parts_lem a.w a.i a.«record».now c.pending_place-place.result _ _ _ c.pending_place-place.ensures.0 refl c.read_counts.ensures (rw c.bytes.ensures.value at c.read_eight.ensures)
