-- The line's answer is possible with what it leaves (`answer_told`), so its text and what follows it are known; the
-- takes' texts stand after it (`responded`). The room is within the buffers.
use native.Mathlib.Omega.{arith}
use mathlib.Core.Path.{◌≡◌, ◌∙◌}
use Prim.Native.Nat.{◌≤◌}
use lib.ListN.{length}
use lib.Seq.{length-take-le}
use Rattle.reply_text.specs.Form.{program_window}
use Rattle.program.specs.Turn.{room_bytes, lent_part}
use Rattle.program.proofs.TurnSteps.{no_event, cut_stands, answer_told, responded}
use lib.Dec.{eqb}
use Rattle.replies.specs.Following.{stage_number, event_stage}
use Rattle.replies.specs.ReplyLaws.{possible_told}
use Rattle.program.proofs.turn.respond.Goals as goal
use Rattle.program.proofs.turn.respond.Goals.{After-answer-next, in-Event, in_default}

-- The room is within the buffers.
room_fits : (c : After-answer-next) → room_bytes c.args.session.room ≤ program_window
room_fits c = omega (arith, c.requires.within_2.frontiers)

pub returns-clause-turned : goal.returns-clause-turned
returns-clause-turned c =
    let a = c.args in
    let rule = a.rule.now in
    let state = a.«record».now in
    let window = a.window.now in
    let part = c.answer-next.new.window in
    let n = room_bytes a.session.room in
    let fits = room_fits (goal.at.returns-clause-turned c).After-answer-next in
    let inside : n ≤ length window = omega (arith, fits, c.requires.record_len.1) in
    let long = c.window-1.given.0 ∙ length-take-le n window inside in
    let e = c.take_all-length.ensures in
    let offered : c.match-matches.matches ≡ eqb (stage_number a.session.stage) event_stage =
    elim c.match-matches.branch [ in-Event w ↦ rw (w.matches-is, w.in-Event.is) | in_default w ↦ w.matches-is ∙ no_event _ w.in_default.not-Event ] in
    λ t h.
    let g = c.answer-next.ensures.stands (lent_part t) (cut_stands t a.session rule state window h) in
    let next = c.answer-next.result in
    let line = a.line.now in
    let told = rw (← offered) at (answer_told t a.session next line rule state window _ _ part h g c.requires.stage_lt_over_stage) in
    let parts = c.result-reply.ensures ∙ possible_told _ _ _ _ told g.replied in
    responded t a.session next line rule state window _ _ part h g a.scratch.now _ _ _ _ _ _ _ long
    (c.lay-first.ensures.out_after _ told parts) (c.takes_follow.ensures _ _ told parts)
    e.text e.bytes e.window e.scratch
