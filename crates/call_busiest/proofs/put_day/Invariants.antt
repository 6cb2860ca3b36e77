-- The events of the first p processes are laid, one process more with each turn: the law `day_step`.
use Rattle.std.proofs.Common.{◌≡◌, ◌*◌}
use Rattle.std.proofs.lemmas.List.Edits.{sets}
use Rattle.records.specs.Record.{event_length, events_bytes}
use Rattle.call_busiest.specs.Sharing.{evenly, total}
use Rattle.call_busiest.specs.Busiest.{day}
use Rattle.call_busiest.specs.BusiestCode.{sharing}
use Rattle.call_busiest.proofs.put_day.Given as goal

abbrev pub invariant-loop-p : goal.invariant-loop-p
invariant-loop-p l =
    (l.place ≡ total (sharing l.p l.shares.each l.shares.more) * event_length l.w)
    × (l.events ≡ sets l.initial.events 0 (events_bytes l.w (day (evenly l.shares.each l.shares.more) l.p)))
