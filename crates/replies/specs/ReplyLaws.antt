-- Replies read back: a reply word has the parts of its answer, and a possible answer is known by its parts.
use Rattle.std.specs.Prelude.{ℕ, ◌+◌, ◌*◌, ◌/◌, ◌%◌, ◌≤◌, ◌≡◌, refl, Bool, true, false, cond, not, List, eqb}
use Rattle.std.proofs.Common.{arith, ap, ◌∙◌, eq-eqb, ne_eqb}
use Rattle.answers.specs.Answer.{Answer, turned_back, state, nothing_ready, held, again, found, absent, process_closed, reply_word}
use Rattle.replies.specs.declared.reply.Reply.{Reply}
use Rattle.replies.specs.Replies.{parts_of, Fits, Possible}
use Rattle.answers.specs.Kinds.{is_turned_back}

-- The parts of a reply word.
unfoldable pub word_parts : ℕ → Reply
word_parts r = record { number = r % 256; place = r / 4294967296; holds = eqb (r / 256 % 2) 1; value = r / 65536 % 65536 }

parts : {n m p q v w : ℕ} {a b : Bool} → n ≡ m → p ≡ q → a ≡ b → v ≡ w
    → ◌≡◌ {A = Reply} (record { number = n; place = p; holds = a; value = v }) (record { number = m; place = q; holds = b; value = w })
parts e f g h = cc

-- Of parts, those that an answer can have together: a refusal's number and place, else the truth and the value.
unfoldable pub parts_told : Reply → Reply
parts_told r = cond (eqb r.number 0)
    (record { number = 0; place = 0; holds = r.holds; value = r.value })
    (record { number = r.number; place = r.place; holds = false; value = 0 })

-- The law that inverts `reply_word`.
pub word_parts_lem : (a : Answer) → Fits a → word_parts (reply_word a) ≡ parts_of a
unfolding word_parts reply_word parts_of
word_parts_lem (turned_back n place) h =
    parts (omega arith) (omega arith) (ne_eqb ((n + 4294967296 * place) / 256 % 2) 1 (omega arith)) (omega arith)
word_parts_lem (state counts true kept) h = parts (omega arith) (omega arith) (eq-eqb ((256 * 1 + 65536 * kept) / 256 % 2) 1 (omega arith)) (omega arith)
word_parts_lem (state counts false kept) h = parts (omega arith) (omega arith) (ne_eqb ((256 * 0 + 65536 * kept) / 256 % 2) 1 (omega arith)) (omega arith)
word_parts_lem nothing_ready h = refl
word_parts_lem (held n) h = parts (omega arith) (omega arith) (ne_eqb (65536 * n / 256 % 2) 1 (omega arith)) (omega arith)
word_parts_lem again h = refl
word_parts_lem (found i) h = parts (omega arith) (omega arith) (eq-eqb ((256 + 65536 * i) / 256 % 2) 1 (omega arith)) (omega arith)
word_parts_lem absent h = refl
word_parts_lem (process_closed n) h =
    parts (omega arith) (omega arith) (ne_eqb (65536 * n / 256 % 2) 1 (omega arith)) (omega arith)

-- The parts of an answer are told whole, for no refusal has number 0.
pub told_all : (a : Answer) → ((n place : ℕ) → a ≡ turned_back n place → 1 ≤ n) → parts_told (parts_of a) ≡ parts_of a
unfolding parts_of parts_told
told_all (turned_back n place) some = let one = some n place refl in rw (ne_eqb n 0 (omega (arith, one)))
told_all (state counts truth kept) some = refl
told_all nothing_ready some = refl
told_all (held n) some = refl
told_all again some = refl
told_all (found i) some = refl
told_all absent some = refl
told_all (process_closed n) some = refl

pub possible_told : (a : Answer) (r : Reply) (offered : Bool) (counts : List ℕ) → Possible offered counts a
    → r ≡ parts_of a → parts_told r ≡ parts_of a
possible_told a r offered counts h e = ap parts_told e ∙ told_all a (λ n place s. rw s at h)

-- The answer that has these parts.
unfoldable pub answer_of : Bool → List ℕ → Reply → Answer
answer_of offered counts r =
    cond (eqb r.number 0)
    (cond (eqb r.value 0) (cond r.holds again nothing_ready) (cond offered (held r.value) (state counts r.holds r.value)))
    (turned_back r.number r.place)

pub known_by_parts : (offered : Bool) (counts : List ℕ) (a : Answer) (r : Reply) → Possible offered counts a → r ≡ parts_of a → answer_of offered counts r ≡ a
unfolding answer_of parts_of
known_by_parts offered counts (turned_back n place) r h e = rw (e, ne_eqb n 0 (omega arith))
known_by_parts offered counts (state taken truth kept) r h e = rw (e, ne_eqb kept 0 (omega arith), h.0, h.1)
known_by_parts offered counts nothing_ready r h e = rw e
known_by_parts offered counts (held n) r h e = rw (e, ne_eqb n 0 (omega arith), h.0)
known_by_parts offered counts again r h e = rw e
known_by_parts offered counts (found i) r h e = absurd h
known_by_parts offered counts absent r h e = absurd h
known_by_parts offered counts (process_closed n) r h e = absurd h

-- A refusal is known by its number.
pub refused_by : (a : Answer) (r : Reply) → Fits a → r ≡ parts_of a → not (eqb r.number 0) ≡ is_turned_back a
unfolding parts_of
refused_by (turned_back n place) r h e = rw (e, ne_eqb n 0 (omega arith))
refused_by (state taken truth kept) r h e = rw e
refused_by nothing_ready r h e = rw e
refused_by (held n) r h e = rw e
refused_by again r h e = rw e
refused_by (found i) r h e = rw e
refused_by absent r h e = rw e
refused_by (process_closed n) r h e = rw e
