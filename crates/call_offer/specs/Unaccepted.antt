-- The reply word of an offer that is not accepted.
use Rattle.std.specs.Prelude.{ℕ, Result, Ok, Err}
use Rattle.numbers.specs.RefusalNumber.{number_of}
use Rattle.call_offer.specs.declared.unaccepted.Unaccepted.{Unaccepted}
use Rattle.call_offer.specs.declared.unaccepted.Unaccepted.TheVariants.{Again, Refused}

-- The flag alone, or the refusal's number.
abbrev pub word_of : Unaccepted → ℕ
word_of Again = 256
word_of (Refused refusal) = number_of refusal

-- ... and 0 for one that is accepted.
abbrev pub unaccepted : {A : Type 0} → Result A Unaccepted → ℕ
unaccepted (Ok _) = 0
unaccepted (Err answer) = word_of answer
