-- What the function that lays a text promises, for every answer that is possible.
use Rattle.std.specs.Prelude.{ℕ, ◌≡◌, Bool, List}
use Rattle.records.specs.Record.{taken_counts}
use Rattle.answers.specs.Answer.{Answer}
use Rattle.replies.specs.declared.reply.Reply.{Reply}
use Rattle.replies.specs.Replies.{parts_of, Possible}
use Rattle.reply_text.specs.Form.{program_width}
use Rattle.reply_text.specs.Texts.{answer_text}

-- answer_text: the text, with k processes, of a reply that left this record.
abbrev pub TextPromised : (k : ℕ) (offered : Bool) (bytes : List ℕ) (reply : Reply) (text : List ℕ) → Type 0
TextPromised k offered bytes reply text =
    (a : Answer) → Possible offered (taken_counts program_width bytes) a → reply ≡ parts_of a → text ≡ answer_text k a
