-- Replies: an answer's parts, how the code has them, and the answers that the program can get.
use Rattle.std.specs.Prelude.{ℕ, ◌≤◌, ◌<◌, ◌≡◌, Bool, true, false, List, Result, Ok, Err}
use Rattle.numbers.specs.declared.fault.Fault.{Fault}
use Rattle.numbers.specs.RefusalNumber.{number_of}
use Rattle.answers.specs.Answer.{Answer, turned_back, state, nothing_ready, held, again, found, absent, process_closed}
use Rattle.replies.specs.declared.reply.Accepted.{Accepted}
use Rattle.replies.specs.declared.reply.Refused.{Refused}
use Rattle.replies.specs.declared.reply.Reply.{Reply}

-- The parts of what was accepted or refused.
abbrev pub reply_of : Result Accepted Refused → Reply
reply_of (Ok accepted) = record { number = 0; place = 0; holds = accepted.holds; value = accepted.value }
reply_of (Err refused) = record { number = refused.number; place = refused.place; holds = false; value = 0 }

-- The parts of what is answered to a text's fault.
abbrev pub reply_of_fault : Fault → Reply
reply_of_fault fault = record { number = number_of fault.refusal; place = fault.place; holds = false; value = 0 }

-- A refusal's number and place, both 0 where there is none; the rule's truth; the frontiers kept or the events pending.
-- A state's counts stand in the record. Without a value the truth alone tells "again" from nothing ready.
unfoldable pub parts_of : (a : Answer) → Reply
parts_of (turned_back n place) = record { number = n; place = place; holds = false; value = 0 }
parts_of (state counts truth kept) = record { number = 0; place = 0; holds = truth; value = kept }
parts_of nothing_ready = record { number = 0; place = 0; holds = false; value = 0 }
parts_of (held n) = record { number = 0; place = 0; holds = false; value = n }
parts_of again = record { number = 0; place = 0; holds = true; value = 0 }
parts_of (found i) = record { number = 0; place = 0; holds = true; value = i }
parts_of absent = record { number = 0; place = 0; holds = false; value = 0 }
parts_of (process_closed n) = record { number = 0; place = 0; holds = false; value = n }

-- An answer's numbers are within the parts of a reply word, and no refusal has number 0.
abbrev pub Fits : (a : Answer) → Type 0
Fits (turned_back n place) = (1 ≤ n) × (n < 256) × (place < 4294967296)
Fits (state counts truth kept) = kept < 65536
Fits nothing_ready = Unit {0}
Fits (held n) = n < 65536
Fits again = Unit {0}
Fits (found i) = i < 65536
Fits absent = Unit {0}
Fits (process_closed n) = n < 65536

-- An answer to an offer (`true`), or to another line or a take (`false`), that left a record with these taken counts. A
-- refusal's number is not 0, a state's counts are the record's and some frontier is kept, after an accepted offer an
-- event is pending. Find and close are never asked.
abbrev pub Possible : (offered : Bool) (counts : List ℕ) (a : Answer) → Type 0
Possible offered counts (turned_back n place) = 1 ≤ n
Possible offered counts (state taken truth kept) = (offered ≡ false) × (taken ≡ counts) × (1 ≤ kept)
Possible offered counts nothing_ready = offered ≡ false
Possible offered counts (held n) = (offered ≡ true) × (1 ≤ n)
Possible offered counts again = offered ≡ true
Possible offered counts (found i) = ⊥
Possible offered counts absent = ⊥
Possible offered counts (process_closed n) = ⊥
