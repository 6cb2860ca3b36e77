use Rattle.std.proofs.Common.{◌≡◌, ℕ, List, ap, ◌∙◌, arith}
use Rattle.records.specs.RecordLaws.{event-within}
use Rattle.call_move.specs.Parts.{Part}
use Rattle.call_move.specs.Move.{some_too_large}
use Rattle.call_move.specs.MoveCode.{parts_to}
use Rattle.call_move.proofs.RecordSteps.{parts_all, front_looked, event_looked}
use Rattle.call_move.proofs.record_parts.record_too_large.Goals as goal

pub loop-i-init : goal.loop-i-init
loop-i-init c = let a = c.args in cc (front_looked a.v a.w a.«record».now)

pub any_too_large-some-requires : goal.any_too_large-some-requires
any_too_large-some-requires c = omega (arith, event-within c.args.v c.loop-i.i (omega arith))

pub loop-i-preserved : goal.loop-i-preserved
loop-i-preserved c =
    let a = c.args in
    let place = c.pending_place in
    cc (event_looked a.v a.w c.loop-i.i a.«record».now place.result place.ensures.0)

pub returns : goal.returns
returns c =
    let a = c.args in
    let l = c.loop-i in
    let s = a.«record».now in
    let all : l.i ≡ 32 = omega arith in
    l.invariant ∙ ap (λ (n : ℕ). some_too_large a.v a.w (parts_to n) s) all
    ∙ ap (λ (ps : List Part). some_too_large a.v a.w ps s) parts_all
