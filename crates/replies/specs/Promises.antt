-- What the functions promise, each for every answer that is possible.
use Rattle.std.specs.Prelude.{ℕ, ◌≡◌, Bool, List}
use Rattle.answers.specs.Answer.{Answer, reply_word}
use Rattle.replies.specs.declared.reply.Reply.{Reply}
use Rattle.replies.specs.Replies.{parts_of, Fits, Possible}

-- decode: the parts of a reply word.
abbrev pub PartsPromised : (word : ℕ) (reply : Reply) → Type 0
PartsPromised word reply = (a : Answer) → Fits a → word ≡ reply_word a → reply ≡ parts_of a

-- takes and takes_again: whether a take follows.
abbrev pub FollowPromised : (follows : Answer → Bool) (offered : Bool) (reply : Reply) (b : Bool) → Type 0
FollowPromised follows offered reply again =
    (counts : List ℕ) (a : Answer) → Possible offered counts a → reply ≡ parts_of a → again ≡ follows a
