-- Stages: after one of the five comes one of the five.
use Rattle.std.specs.Prelude.{ℕ, ◌≤◌, Bool, leb}
use Rattle.std.proofs.Common.{arith, leb-false}
use Rattle.answers.specs.Turns.{by_test}
use Rattle.replies.specs.Following.{event_stage, over_stage, next_stage}

pub five_follow : (stage : ℕ) (refusal : Bool) → stage ≤ over_stage → next_stage stage refusal ≤ over_stage
unfolding next_stage
five_follow stage refusal five =
    let by = by_test (λ (n : ℕ). n ≤ over_stage) in
    by (leb event_stage stage) _ _ (λ _. five)
    (λ e. by refusal _ _ (λ _. omega arith) (λ _. omega (arith, leb-false event_stage stage e)))
