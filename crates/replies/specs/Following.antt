-- What follows from an answer (01, Examples: the program): another take, the next line's stage.
use Rattle.std.specs.Prelude.{ℕ, ◌+◌, Bool, cond, ◌||◌, leb}
use Rattle.answers.specs.Answer.{Answer}
use Rattle.answers.specs.Kinds.{is_state, is_false_clock}
use Rattle.replies.specs.declared.Stage.{Stage}
use Rattle.replies.specs.declared.Stage.TheVariants.{Watch, Rule, Start, Event, Over, Past}

-- After an accepted offer the program takes until nothing is ready or 36: a take is followed by another exactly if an
-- event was taken or left with 35. (After "again" none follows: it accepts nothing; 02 [1].)
unfoldable pub takes_again : (a : Answer) → Bool
takes_again a = is_state a || is_false_clock a

-- The stages: the line that comes next is the watch line (0), the rule's (1), the start labels' (2) or an event's (3);
-- or the program is over (4).
abbrev pub watch_stage : ℕ
watch_stage = 0

abbrev pub rule_stage : ℕ
rule_stage = 1

abbrev pub start_stage : ℕ
start_stage = 2

abbrev pub event_stage : ℕ
event_stage = 3

abbrev pub over_stage : ℕ
over_stage = 4

-- A stage's number.
abbrev pub stage_number : Stage → ℕ
stage_number Watch = watch_stage
stage_number Rule = rule_stage
stage_number Start = start_stage
stage_number Event = event_stage
stage_number Over = over_stage
stage_number (Past n) = over_stage + 1 + n

-- The stage after a line: once the watch is open it stays with events, refused or not; before, a refusal ends the
-- program.
unfoldable pub next_stage : (stage : ℕ) (refusal : Bool) → ℕ
next_stage stage refusal = cond (leb event_stage stage) stage (cond refusal over_stage (stage + 1))
