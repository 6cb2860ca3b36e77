-- What a session's type does not tell is told of what it stands for (`Stands`). Its stage is one of the five, before
-- the first line and after a line at one of the five. Its answer is told whole, before the first line and after a line
-- at any stage, so that nothing is lost where a caller keeps what was accepted or refused.
use Rattle.std.specs.Prelude.{ℕ, ◌≤◌, ◌≡◌, refl, Bool, true, false, List, eqb}
use Rattle.std.proofs.Common.{arith}
use Rattle.lines.specs.WatchLine.{WatchLine, Watch, Refused as WatchRefused}
use Rattle.lines.specs.RuleLine.{RuleLine, Rule, Refused as RuleRefused}
use Rattle.lines.specs.StartLine.{StartLine, Start, Refused as StartRefused}
use Rattle.lines.specs.DidLine.{DidLine, Did, Refused as DidRefused}
use Rattle.lines.specs.Lines.{watch_line, rule_line, start_line, did_line}
use Rattle.refusals.specs.Refusals.{bad_processes}
use Rattle.answers.specs.Turns.{by_test}
use Rattle.replies.specs.Replies.{parts_of}
use Rattle.replies.specs.ReplyLaws.{parts_told, possible_told}
use Rattle.replies.specs.Following.{watch_stage, rule_stage, start_stage, over_stage}
use Rattle.replies.specs.FollowingLaws.{five_follow}
use Rattle.program.specs.Stages.{Standing, refuse, watch_read, rule_read, start_read, did_read, line_read}
use Rattle.program.specs.LineAnswers.{Told, watch_possible, rule_possible, start_possible, did_possible}
use Rattle.program.specs.Turn.{at_first, lent_part, turned}

-- The stage is one of the five.
abbrev pub OneOfFive : Standing → Type 0
OneOfFive t = t.stage ≤ over_stage

-- The parts of the answer are those that an answer can have together.
abbrev pub ToldWhole : Standing → Type 0
ToldWhole t = parts_told (parts_of t.answer) ≡ parts_of t.answer

-- What is true of what each kind of line leaves is true of what a line leaves.
by_stage : (P : Standing → Type 0) (t : Standing) (line : List ℕ)
    → P (watch_read t (watch_line line)) → P (rule_read t line (rule_line line t.k))
    → P (start_read t (start_line line t.k)) → P (did_read t (did_line line t.k)) → P (line_read t line)
unfolding line_read
by_stage P t line w r s d =
    by_test P (eqb t.stage watch_stage) _ _ (λ _. w) λ _.
    by_test P (eqb t.stage rule_stage) _ _ (λ _. r) λ _.
    by_test P (eqb t.stage start_stage) _ _ (λ _. s) λ _. d

-- ---- The stage

module _ (t : Standing) (five : OneOfFive t) where
  refused_five : (n place : ℕ) → OneOfFive (refuse t n place)
  unfolding refuse
  refused_five n place = five_follow t.stage true five

  watch_five : (r : WatchLine) → OneOfFive (watch_read t r)
  unfolding watch_read
  watch_five (Watch k room) =
      by_test OneOfFive (bad_processes k) _ _ (λ _. refused_five 5 0) (λ _. five_follow t.stage false five)
  watch_five (WatchRefused n place) = refused_five n place

  rule_five : (line : List ℕ) (r : RuleLine) → OneOfFive (rule_read t line r)
  unfolding rule_read
  rule_five line (Rule start end) = five_follow t.stage false five
  rule_five line (RuleRefused n place) = refused_five n place

  start_five : (r : StartLine) → OneOfFive (start_read t r)
  unfolding start_read
  start_five (Start labels) = five_follow t.stage _ five
  start_five (StartRefused n place) = refused_five n place

  did_five : (r : DidLine) → OneOfFive (did_read t r)
  unfolding did_read
  did_five (Did mask c01 c23 c45 c67 labels) = five_follow t.stage _ five
  did_five (DidRefused n place) = refused_five n place

  pub line_five : (line : List ℕ) → OneOfFive (line_read t line)
  line_five line =
      by_stage OneOfFive t line (watch_five (watch_line line)) (rule_five line (rule_line line t.k))
      (start_five (start_line line t.k)) (did_five (did_line line t.k))

-- ---- The answer

told : (u : Standing) (offered : Bool) → Told offered u → ToldWhole u
told u offered h = possible_told u.answer (parts_of u.answer) offered _ h refl

pub line_told : (t : Standing) (line : List ℕ) → ToldWhole (line_read t line)
line_told t line =
    by_stage ToldWhole t line
    (told (watch_read t (watch_line line)) false (watch_possible t line))
    (told (rule_read t line (rule_line line t.k)) false (rule_possible t line))
    (told (start_read t (start_line line t.k)) false (start_possible t line))
    (told (did_read t (did_line line t.k)) true (did_possible t line))

-- ---- Before the first line, and after a line with its takes

pub first_five : (bytes window : List ℕ) → OneOfFive (at_first bytes window)
unfolding at_first
first_five bytes window = omega arith

pub first_told : (bytes window : List ℕ) → ToldWhole (at_first bytes window)
unfolding at_first parts_of parts_told
first_told bytes window = refl

pub turned_five : (t : Standing) (line scratch : List ℕ) → OneOfFive t → OneOfFive (turned t line scratch).standing
unfolding turned lent_part
turned_five t line scratch five = line_five (lent_part t) five line

pub turned_told : (t : Standing) (line scratch : List ℕ) → ToldWhole (turned t line scratch).standing
unfolding turned lent_part
turned_told t line scratch = line_told (lent_part t) line
