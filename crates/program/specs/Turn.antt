-- A line with its takes (01, Examples: the program): what is printed, and what the program knows then. After an
-- accepted event it takes until nothing is ready or 36. That the takes come to an end is proved in TakesTheorem.
use Rattle.std.specs.Prelude.{ℕ, zero, suc, ◌*◌, ◌≡◌, Bool, true, false, List, [], ◌++◌, take, drop}
use Rattle.answers.specs.Answer.{nothing_ready}
use Rattle.call_take.specs.Take.{take_call}
use Rattle.program.specs.declared.Response.{Response}
use Rattle.reply_text.specs.Form.{program_width, program_frontier}
use Rattle.reply_text.specs.Texts.{answer_text}
use Rattle.replies.specs.Following.{takes_again, watch_stage}
use Rattle.answers.specs.Kinds.{is_held}
use Rattle.program.specs.Stages.{Standing, line_read, Stands}

-- ---- Takes

-- What takes one after the other print and leave, and whether another is to follow them.
pub record Took : Type 0 where
  pub text : List ℕ
  pub bytes : List ℕ
  pub window : List ℕ
  pub scratch : List ℕ
  pub follows : Bool

-- Takes, as long as one is to follow, but not more than so many. Each gets the buffers as the one before left them. The
-- texts of their answers, where there are k processes, stand one after the other.
unfoldable pub takes_while : (most : ℕ) (follows : Bool) (k : ℕ) (bytes window scratch : List ℕ) → Took
takes_while zero follows k bytes window scratch =
    record { text = []; bytes = bytes; window = window; scratch = scratch; follows = follows }
takes_while (suc n) false k bytes window scratch =
    record { text = []; bytes = bytes; window = window; scratch = scratch; follows = false }
takes_while (suc n) true k bytes window scratch =
    let o = take_call program_width bytes window scratch in
    let rest = takes_while n (takes_again o.answer) k o.bytes o.window o.scratch in
    record {
      text = answer_text k o.answer ++ rest.text;
      bytes = rest.bytes;
      window = rest.window;
      scratch = rest.scratch;
      follows = rest.follows;
    }

-- One more than events can be pending.
abbrev pub most_takes : ℕ
most_takes = 33

-- So many takes are enough, whatever the buffers hold: after them none is to follow.
abbrev pub TakesEnd : Type 0
TakesEnd =
    (follows : Bool) (k : ℕ) (bytes window scratch : List ℕ)
    → (takes_while most_takes follows k bytes window scratch).follows ≡ false

-- ---- A line and its takes

-- The bytes of a window that has room for so many frontiers.
abbrev pub room_bytes : (room : ℕ) → ℕ
room_bytes room = program_frontier * room

-- Before the first line.
unfoldable pub at_first : (bytes window : List ℕ) → Standing
at_first bytes window = record {
  answer = nothing_ready;
  stage = watch_stage;
  k = 0;
  room = 0;
  rule = [];
  bytes = bytes;
  window = window;
}

-- What the program knows, where the window is cut to the part of its buffer that the room asks for.
unfoldable pub lent_part : (t : Standing) → Standing
lent_part t = record {
  answer = t.answer;
  stage = t.stage;
  k = t.k;
  room = t.room;
  rule = t.rule;
  bytes = t.bytes;
  window = take (room_bytes t.room) t.window;
}

-- What a line and its takes print, what the program knows then, and the bytes of the scratch, which only takes write.
pub record Turned : Type 0 where
  pub text : List ℕ
  pub standing : Standing
  pub scratch : List ℕ

-- A line, where the window and the scratch are whole buffers: the calls are lent the part of each that the room asks
-- for, and what stands after it stays. Takes follow an accepted event.
unfoldable pub turned : (t : Standing) (line scratch : List ℕ) → Turned
turned t line scratch =
    let n = room_bytes t.room in
    let u = line_read (lent_part t) line in
    let o = takes_while most_takes (is_held u.answer) u.k u.bytes u.window (take n scratch) in
    record {
      text = answer_text u.k u.answer ++ o.text;
      standing = record {
        answer = u.answer;
        stage = u.stage;
        k = u.k;
        room = u.room;
        rule = u.rule;
        bytes = o.bytes;
        window = o.window ++ drop n t.window;
      };
      scratch = o.scratch ++ drop n scratch;
    }

-- ---- The promise

-- The code's session and buffers are what the program knows after the turn, and the front of the last buffer has the
-- text.
pub record Responded (u : Turned) (r : Response) (rule state window scratch out : List ℕ) : Type 0 where
  pub stands : Stands u.standing r.session rule state window
  pub laid : take r.length out ≡ u.text
  pub spent : scratch ≡ u.scratch
