-- What follows from a reply, by the tests that the code makes on its parts.
use Prim.Native.Nat.{ℕ}
use native.Mathlib.Omega.{arith}
use mathlib.Core.Path.{◌≡◌, refl, sym, ap, ◌∙◌}
use mathlib.Core.Bool.{Bool, true, false, not, ◌&&◌, ◌||◌}
use mathlib.Core.List.{List}
use Rattle.std.specs.Prelude.{Err}
use lib.Dec.{eqb}
use borrow.Author.Tests.{ne_eqb}
use Rattle.answers.specs.Answer.{Answer, reply_word, turned_back, state, nothing_ready, held, again, found, absent, process_closed}
use Rattle.replies.specs.declared.reply.Refused.{Refused}
use Rattle.replies.specs.Following.{takes_again}
use Rattle.answers.specs.Kinds.{is_held}
use Rattle.replies.specs.declared.reply.Reply.{Reply}
use Rattle.replies.specs.Replies.{reply_of, parts_of, Fits, Possible}
use Rattle.replies.specs.ReplyLaws.{word_parts, word_parts_lem, parts_told, told_all}

pub and-false : (b : Bool) → (b && false) ≡ false
and-false true = refl
and-false false = refl

or-false : (b : Bool) → (b || false) ≡ b
or-false true = refl
or-false false = refl

pub decoded : (a : Answer) (word : ℕ) → Fits a → word ≡ reply_word a → parts_told (word_parts word) ≡ parts_of a
decoded a word h e =
    ap (λ (n : ℕ). parts_told (word_parts n)) e ∙ ap parts_told (word_parts_lem a h)
    ∙ told_all a (λ n place s. (rw s at h).0)

pub accepted_by_lem : (a : Answer) (r : Reply) (offered : Bool) (counts : List ℕ) → Possible offered counts a → r
    ≡ parts_of a → (offered && not (eqb r.value 0)) ≡ is_held a
unfolding parts_of
accepted_by_lem (turned_back n place) r offered counts h e = rw e (and-false offered)
accepted_by_lem (state taken truth kept) r offered counts h e = rw (e, h.0)
accepted_by_lem nothing_ready r offered counts h e = rw (e, h)
accepted_by_lem (held n) r offered counts h e = rw (e, h.0, ne_eqb n 0 (omega arith))
accepted_by_lem again r offered counts h e = rw (e, h)
accepted_by_lem (found i) r offered counts h e = absurd h
accepted_by_lem absent r offered counts h e = absurd h
accepted_by_lem (process_closed n) r offered counts h e = absurd h

pub again_by : (a : Answer) (r : Reply) (counts : List ℕ) → Possible false counts a → r ≡ parts_of a
    → (eqb r.number 35 || (eqb r.number 0 && not (eqb r.value 0))) ≡ takes_again a
unfolding parts_of takes_again
again_by (turned_back n place) r counts h e = rw (e, ne_eqb n 0 (omega arith)) (or-false (eqb n 35))
again_by (state taken truth kept) r counts h e = rw (e, ne_eqb kept 0 (omega arith))
again_by nothing_ready r counts h e = rw e
again_by (held n) r counts h e = absurd (never h.0)
  where
    never : false ≡ true → ⊥
    never p = let z : ◌≡◌ {A = ℕ} 0 1 = cc in omega arith
again_by again r counts h e = rw e
again_by (found i) r counts h e = absurd h
again_by absent r counts h e = absurd h
again_by (process_closed n) r counts h e = absurd h

-- No event was pending, so the number alone tells.
pub again_by_number : (a : Answer) (r : Refused) (counts : List ℕ) → Possible false counts a → reply_of (Err r) ≡ parts_of a
    → eqb r.number 35 ≡ takes_again a
again_by_number a r counts h e =
    let some = ne_eqb r.number 0 (omega (arith, r.some)) in
    sym (rw some (or-false (eqb r.number 35))) ∙ again_by a (reply_of (Err r)) counts h e
