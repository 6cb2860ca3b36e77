-- What was read of the record, the frontiers dropped by it, and the two fields stored: the law `closed_by`.
use native.Mathlib.Omega.{arith}
use mathlib.Core.Path.{ap, subst⁻¹, ◌∙◌}
use Prim.Native.Nat.{ℕ, ◌≤◌, ◌*◌}
use lib.ListN.{length}
use Rattle.frontiers.specs.Bytes.{frontier_length}
use Rattle.call_close.specs.Close.{closing}
use Rattle.call_close.proofs.CloseSteps.{closed_by}
use Rattle.call_close.proofs.close_process.Goals as goal

-- ---- The goals

pub drop_others-kept-requires-clause-room_for : goal.drop_others-kept-requires-clause-room_for
drop_others-kept-requires-clause-room_for c =
    let a = c.args in
    let room = c.requires.room_for in
    let inside : c.kept_count-n.result * frontier_length a.w ≤ length a.window.now =
    subst⁻¹ (λ (n : ℕ). n * frontier_length a.w ≤ length a.window.now) c.kept_count-n.ensures room.1 in
    (omega (arith, room.0), inside)

pub returns : goal.returns
returns c =
    let a = c.args in
    let k = c.process_count-k in
    let closed = c.with_process-closed in
    let before = c.from-before.ensures ∙ c.closed_mask.ensures.0 in
    let mask = closed.ensures.0 ∙ ap (λ (m : ℕ). closing m a.p) before in
    let law =
    closed_by a.w a.p a.«record».now a.window.now c.kept_count-n.result k.result
    closed.result c.drop_others-kept.result c.taken_counts-reached.result c.kept_count-n.ensures k.ensures.0
    mask c.taken_counts-reached.ensures c.drop_others-kept.ensures.value in
    record {
      reply = law.0;
      bytes = c.set_closed.ensures ∙ law.1;
      window = c.drop_others-kept.ensures.window_after ∙ law.2;
    }
