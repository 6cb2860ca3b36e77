-- The call inside is allowed one digit less.
use Rattle.reply_text.proofs.+put_number.Given as goal

abbrev pub decreases-put_number : goal.decreases-put_number
decreases-put_number l = l.most
