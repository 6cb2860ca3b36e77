-- Each way lays the text of the one possible answer with such parts (`says_refused`, .. `says_state`).
use native.Mathlib.Omega.{arith}
use mathlib.Core.Path.{◌≡◌, refl, ap, ◌∙◌}
use Prim.Native.Nat.{ℕ}
use mathlib.Core.List.{List, ◌++◌, [], ◌∷◌}
use Rattle.std.specs.Prelude.{Ok, Err}
use Rattle.reply_text.specs.Form.{program_width}
use Rattle.codec.specs.Decimal.{numeral}
use Rattle.reply_text.specs.Texts.{counts_text, refused_text, held_text, again_text, state_text, verdict_text}
use Rattle.reply_text.proofs.TextSteps.{behind}
use Rattle.reply_text.proofs.ReplySteps.{says_refused, says_nothing, says_again, says_held, says_state}
use Rattle.replies.specs.Replies.{reply_of}
use Rattle.codec.specs.Ascii.{ascii}
use Rattle.records.specs.Record.{taken_counts}
use Rattle.reply_text.proofs.lay_text.Goals as goal
use Rattle.reply_text.proofs.lay_text.Goals.{then-accepted-2, else-accepted-2}

pub returns-in-Err-clause-text_promised : goal.returns-in-Err-clause-text_promised
unfolding refused_text
returns-in-Err-clause-text_promised c =
    let a = c.args in
    let r = c.in-Err.refused in
    λ b p e. says_refused a.offered (taken_counts program_width a.«record».now) a.k (reply_of (Err r)) _ (λ none. omega (arith, r.some))
    (behind (41 ∷ 10 ∷ []) (behind (numeral _) (behind (32 ∷ []) c.piece-first.ensures.out_after refl) c.piece-second.ensures.out_after) c.put.ensures.out_after)
    b p (rw c.in-Err.is at e)

pub returns-then-accepted-clause-text_promised : goal.returns-then-accepted-clause-text_promised
unfolding again_text
returns-then-accepted-clause-text_promised c =
    let a = c.args in
    λ b p e. says_again a.offered (taken_counts program_width a.«record».now) a.k (reply_of (Ok c.in-Ok.accepted)) _ refl c.if-accepted-eq0.true c.if-accepted.true
    c.put-then-accepted.ensures.out_after b p (rw c.in-Ok.is at e)

pub returns-else-accepted-clause-text_promised : goal.returns-else-accepted-clause-text_promised
returns-else-accepted-clause-text_promised c =
    let a = c.args in
    λ b p e. says_nothing a.offered (taken_counts program_width a.«record».now) a.k (reply_of (Ok c.in-Ok.accepted)) refl c.if-accepted-eq0.true c.if-accepted.false
    b p (rw c.in-Ok.is at e)

pub returns-in-Ok-2-clause-text_promised : goal.returns-in-Ok-2-clause-text_promised
unfolding held_text
returns-in-Ok-2-clause-text_promised c =
    let a = c.args in
    let same : c.in-Ok-2.accepted ≡ c.in-Ok.accepted = cc in
    λ b p e. says_held a.offered (taken_counts program_width a.«record».now) a.k (reply_of (Ok c.in-Ok-2.accepted)) _ refl (rw (← same) at c.if-accepted-eq0.false) c.if-offered.true
    (behind (41 ∷ 10 ∷ []) c.piece-first-in-Ok-2.ensures.out_after c.put-in-Ok-2.ensures.out_after)
    b p (rw c.in-Ok-2.is at e)

pub returns-after-accepted-2-clause-text_promised : goal.returns-after-accepted-2-clause-text_promised
unfolding state_text verdict_text
returns-after-accepted-2-clause-text_promised c =
    let a = c.args in
    let counts = taken_counts program_width a.«record».now in
    let same : c.in-Ok-3.accepted ≡ c.in-Ok.accepted = cc in
    let verdict : c.if-accepted-2.verdict.now ≡ verdict_text c.in-Ok-3.accepted.holds =
    elim c.if-accepted-2.branch [ then-accepted-2 w ↦ rw (w.verdict-is, w.if-accepted-2.true) | else-accepted-2 w ↦ rw (w.verdict-is, w.if-accepted-2.false) ] in
    let laid = c.put_counts-first.ensures.out_after ∙ ap (λ (n : List ℕ). ascii "(state (" ++ counts_text n a.k) (rw c.of.ensures at c.taken_counts-counts.ensures) in
    let told = rw verdict at (behind c.if-accepted-2.verdict.now laid refl) in
    λ b p e. says_state a.offered counts a.k (reply_of (Ok c.in-Ok-3.accepted)) _ _ refl (rw (← same) at c.if-accepted-eq0.false) c.if-offered.false refl
    (behind (41 ∷ 10 ∷ []) (behind (numeral _) told (rw verdict at c.piece-second-in-Ok-3.ensures.out_after)) c.put-in-Ok-3.ensures.out_after)
    b p (rw c.in-Ok-3.is at e)
