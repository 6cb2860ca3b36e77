-- What the text of a reply is, by the tests that the code makes on its parts.
use Prim.Native.Nat.{ℕ}
use mathlib.Core.Path.{◌≡◌, ◌∙◌}
use mathlib.Core.Bool.{Bool, true, false}
use mathlib.Core.List.{List, []}
use borrow.Author.Tests.{eq-eqb, ne_eqb}
use Rattle.answers.specs.Answer.{Answer}
use Rattle.replies.specs.declared.reply.Reply.{Reply}
use Rattle.replies.specs.Replies.{parts_of, Possible}
use Rattle.replies.specs.ReplyLaws.{answer_of, known_by_parts}
use Rattle.reply_text.specs.Texts.{refused_text, held_text, again_text, state_text, answer_text}

-- A text that is laid for a reply is its answer's.
module _ (offered : Bool) (counts : List ℕ) (k : ℕ) (r : Reply) where
  abbrev Says : List ℕ → Type 0
  Says text = (a : Answer) → Possible offered counts a → r ≡ parts_of a → text ≡ answer_text k a

  says : (text : List ℕ) → text ≡ answer_text k (answer_of offered counts r) → Says text
  says text t a p e = t ∙ rw (known_by_parts offered counts a r p e)

  pub says_refused : (text : List ℕ) → (r.number ≡ 0 → ⊥) → text ≡ refused_text r.number r.place → Says text
  unfolding answer_text answer_of
  says_refused text n t = says text (rw (ne_eqb r.number 0 n) t)

  pub says_nothing : r.number ≡ 0 → r.value ≡ 0 → r.holds ≡ false → Says []
  unfolding answer_text answer_of
  says_nothing n v h = says [] (rw (eq-eqb r.number 0 n, eq-eqb r.value 0 v, h))

  pub says_again : (text : List ℕ) → r.number ≡ 0 → r.value ≡ 0 → r.holds ≡ true → text ≡ again_text → Says text
  unfolding answer_text answer_of
  says_again text n v h t = says text (rw (eq-eqb r.number 0 n, eq-eqb r.value 0 v, h) t)

  pub says_held : (text : List ℕ) → r.number ≡ 0 → (r.value ≡ 0 → ⊥) → offered ≡ true → text ≡ held_text r.value → Says text
  unfolding answer_text answer_of
  says_held text n v o t = says text (rw (eq-eqb r.number 0 n, ne_eqb r.value 0 v, o) t)

  pub says_state : (text : List ℕ) (truth : Bool) → r.number ≡ 0 → (r.value ≡ 0 → ⊥) → offered ≡ false → r.holds ≡ truth
      → text ≡ state_text counts k truth r.value → Says text
  unfolding answer_text answer_of
  says_state text truth n v o h t = says text (rw (eq-eqb r.number 0 n, ne_eqb r.value 0 v, o, h) t)
