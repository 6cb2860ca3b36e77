-- The first i events are laid, one more with each turn: the law `singles_step`.
use Rattle.std.proofs.Common.{◌≡◌, ◌+◌, ◌*◌}
use Rattle.std.proofs.lemmas.List.Edits.{sets}
use Rattle.records.specs.Record.{event_length, events_bytes}
use Rattle.call_busiest.specs.Busiest.{singles}
use Rattle.call_busiest.proofs.put_singles.Given as goal

abbrev pub invariant-loop-i : goal.invariant-loop-i
invariant-loop-i l = (l.at ≡ l.place + l.i * event_length l.w) × (l.events ≡ sets l.initial.events l.place (events_bytes l.w (singles l.p l.i)))
