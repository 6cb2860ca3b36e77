-- A refusal is told by the reply word alone: its number is the word's, where it is 1 to 255, and every other answer has
-- 0 there.
use Rattle.std.specs.Prelude.{ℕ, ◌%◌, ◌<◌, ◌≡◌, refl, true, false, not, eqb}
use Rattle.std.proofs.Common.{arith, ap, ◌∙◌, ne_eqb}
use Rattle.answers.specs.Answer.{Answer, turned_back, state, nothing_ready, held, again, found, absent, process_closed, reply_word}
use Rattle.answers.specs.Kinds.{is_turned_back}

-- The number that it was turned back with; 0 for none.
abbrev pub turned_number : (a : Answer) → ℕ
turned_number (turned_back n i) = n
turned_number (state c t k) = 0
turned_number nothing_ready = 0
turned_number (held n) = 0
turned_number again = 0
turned_number (found i) = 0
turned_number absent = 0
turned_number (process_closed n) = 0

-- Turned back, its number is 1 to 255.
abbrev pub NumberFits : (a : Answer) → Type 0
NumberFits (turned_back n i) = (0 < n) × (n < 256)
NumberFits (state c t k) = Unit
NumberFits nothing_ready = Unit
NumberFits (held n) = Unit
NumberFits again = Unit
NumberFits (found i) = Unit
NumberFits absent = Unit
NumberFits (process_closed n) = Unit

pub number_told : (a : Answer) → NumberFits a → reply_word a % 256 ≡ turned_number a
unfolding reply_word
number_told (turned_back n i) h = omega (arith, h.1)
number_told (state c true k) h = omega arith
number_told (state c false k) h = omega arith
number_told nothing_ready h = refl
number_told (held n) h = omega arith
number_told again h = refl
number_told (found i) h = omega arith
number_told absent h = refl
number_told (process_closed n) h = omega arith

number-none : (a : Answer) → NumberFits a → eqb (turned_number a) 0 ≡ not (is_turned_back a)
number-none (turned_back n i) h = let some : n ≡ 0 → ⊥ = λ e. omega (arith, h.0) in ne_eqb n 0 some
number-none (state c t k) h = refl
number-none nothing_ready h = refl
number-none (held n) h = refl
number-none again h = refl
number-none (found i) h = refl
number-none absent h = refl
number-none (process_closed n) h = refl

pub turned_told : (a : Answer) → NumberFits a → eqb (reply_word a % 256) 0 ≡ not (is_turned_back a)
turned_told a h = ap (λ (n : ℕ). eqb n 0) (number_told a h) ∙ number-none a h
