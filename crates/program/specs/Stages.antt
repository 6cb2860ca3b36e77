-- What each line is answered with, and what it leaves (01, Examples: the program; Turned back, from the input: 5, in
-- its own line).
use Rattle.std.specs.Prelude.{ℕ, ◌≤◌, ◌≡◌, true, false, cond, List, [], ◌∷◌, eqb, take}
use Rattle.lines.specs.WatchLine.{WatchLine, Watch, Refused as WatchRefused}
use Rattle.lines.specs.RuleLine.{RuleLine, Rule, Refused as RuleRefused}
use Rattle.lines.specs.StartLine.{StartLine, Start, Refused as StartRefused}
use Rattle.lines.specs.DidLine.{DidLine, Did, Refused as DidRefused}
use Rattle.lines.specs.Lines.{watch_line, rule_text, rule_line, start_line, did_line}
use Rattle.refusals.specs.Refusals.{bad_processes}
use Rattle.answers.specs.Answer.{Answer, turned_back, nothing_ready, reply_word}
use Rattle.reply_text.specs.Form.{program_width}
use Rattle.call_words.specs.Words.{unpack_counts, unpack_labels}
use Rattle.call_open.specs.Open.{open_call}
use Rattle.call_offer.specs.Offer.{offer_call}
use Rattle.program.specs.declared.Session.{Session}
use Rattle.replies.specs.Replies.{parts_of, Fits}
use Rattle.replies.specs.Following.{watch_stage, rule_stage, start_stage, stage_number, next_stage}
use Rattle.answers.specs.Kinds.{is_turned_back}

-- What the program knows between two lines, and its answer to the last: the next line's stage, the processes, the room
-- in frontiers, the rule's text, the record and the window.
pub record Standing : Type 0 where
  pub answer : Answer
  pub stage : ℕ
  pub k : ℕ
  pub room : ℕ
  pub rule : List ℕ
  pub bytes : List ℕ
  pub window : List ℕ

-- A line is refused, and nothing changes but the stage.
unfoldable pub refuse : (s : Standing) (n place : ℕ) → Standing
refuse s n place = record {
  answer = turned_back n place;
  stage = next_stage s.stage true;
  k = s.k;
  room = s.room;
  rule = s.rule;
  bytes = s.bytes;
  window = s.window;
}

-- The watch line gives processes and room, and is answered with nothing.
unfoldable pub watch_read : (s : Standing) (r : WatchLine) → Standing
watch_read s (Watch k room) =
    cond (bad_processes k) (refuse s 5 0)
    (record { answer = nothing_ready; stage = next_stage s.stage false; k = k; room = room; rule = s.rule; bytes = s.bytes; window = s.window })
watch_read s (WatchRefused n place) = refuse s n place

-- The rule's line gives the rule's text, and is answered with nothing.
unfoldable pub rule_read : (s : Standing) (line : List ℕ) (r : RuleLine) → Standing
rule_read s line (Rule start end) =
    record { answer = nothing_ready; stage = next_stage s.stage false; k = s.k; room = s.room; rule = rule_text line; bytes = s.bytes; window = s.window }
rule_read s line (RuleRefused n place) = refuse s n place

-- The start labels open the watch.
unfoldable pub start_read : (s : Standing) (r : StartLine) → Standing
start_read s (Start labels) =
    let r = open_call program_width s.rule s.k (unpack_labels labels) s.bytes s.window in
    record {
      answer = r.answer;
      stage = next_stage s.stage (is_turned_back r.answer);
      k = s.k;
      room = s.room;
      rule = s.rule;
      bytes = r.bytes;
      window = r.window;
    }
start_read s (StartRefused n place) = refuse s n place

-- An event is offered.
unfoldable pub did_read : (s : Standing) (r : DidLine) → Standing
did_read s (Did mask c01 c23 c45 c67 labels) =
    let clock = unpack_counts program_width (c01 ∷ c23 ∷ c45 ∷ c67 ∷ []) in
    let r = offer_call program_width mask clock (unpack_labels labels) s.bytes in
    record {
      answer = r.answer;
      stage = next_stage s.stage (is_turned_back r.answer);
      k = s.k;
      room = s.room;
      rule = s.rule;
      bytes = r.bytes;
      window = s.window;
    }
did_read s (DidRefused n place) = refuse s n place

-- A line at its stage.
unfoldable pub line_read : (s : Standing) (line : List ℕ) → Standing
line_read s line =
    cond (eqb s.stage watch_stage) (watch_read s (watch_line line))
    (cond (eqb s.stage rule_stage) (rule_read s line (rule_line line s.k))
    (cond (eqb s.stage start_stage) (start_read s (start_line line s.k))
    (did_read s (did_line line s.k))))

-- The code's session and buffers are what the program knows.
pub record Stands (t : Standing) (r : Session) (rule state window : List ℕ) : Type 0 where
  pub replied : r.reply ≡ parts_of t.answer
  pub stage : stage_number r.stage ≡ t.stage
  pub processes : r.k ≡ t.k
  pub frontiers : r.room ≡ t.room
  pub text : take r.text rule ≡ t.rule
  pub bytes : state ≡ t.bytes
  pub kept : window ≡ t.window

-- The numbers of a session are within their limits; the rule's buffer has so many bytes.
pub record Within (n : ℕ) (r : Session) : Type 0 where
  pub processes : r.k ≤ 8
  pub frontiers : r.room ≤ 1024
  pub text : r.text ≤ n

-- Only reply and stage are others: those of a call which answered with this word.
pub record Replied (s : Session) (word : ℕ) (r : Session) : Type 0 where
  pub processes : r.k ≡ s.k
  pub frontiers : r.room ≡ s.room
  pub text : r.text ≡ s.text
  pub reply : (a : Answer) → Fits a → word ≡ reply_word a → (r.reply ≡ parts_of a) × (stage_number r.stage
      ≡ next_stage (stage_number s.stage) (is_turned_back a))
