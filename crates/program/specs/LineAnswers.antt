-- What a line is answered with is possible with the record that it leaves: no refusal of a line has number 0.
use Rattle.std.specs.Prelude.{ℕ, zero, suc, ◌≤◌, ◌<◌, ◌≡◌, refl, Bool, true, false, cond, List, eqb}
use Rattle.std.proofs.Common.{arith, inl, inr}
use Rattle.lines.specs.WatchLine.{WatchLine, Watch, Refused as WatchRefused}
use Rattle.lines.specs.RuleLine.{RuleLine, Rule, Refused as RuleRefused}
use Rattle.lines.specs.StartLine.{StartLine, Start, Refused as StartRefused}
use Rattle.lines.specs.DidLine.{DidLine, Did, Refused as DidRefused}
use Rattle.lines.specs.Lines.{watch_line, rule_text, rule_line, start_line, did_line}
use Rattle.line_laws.specs.Grammar.{Piece, watch_pieces, start_pieces, did_pieces}
use Rattle.line_laws.specs.Fault.{LineFault}
use Rattle.line_laws.specs.RuleLineFault.{RuleFault}
use Rattle.line_laws.specs.faults.LinesFirstFault.{watch-first_fault, start_first_fault, did_first_fault}
use Rattle.line_laws.specs.faults.RuleLineFirstFault.{rule_line-first_fault}
use Rattle.line_laws.specs.faults.NamedProcesses.{names_some}
use Rattle.refusals.specs.Refusals.{bad_processes}
use Rattle.records.specs.Record.{taken_counts}
use Rattle.reply_text.specs.Form.{program_width}
use Rattle.call_words.specs.Words.{unpack_labels}
use Rattle.replies.specs.Replies.{Possible}
use Rattle.replies.specs.Following.{watch_stage, rule_stage, start_stage, event_stage, over_stage}
use Rattle.program.specs.Stages.{Standing, refuse, watch_read, rule_read, start_read, did_read, line_read}
use Rattle.call_open.specs.OpenReplyLaws.{rule_number}
use Rattle.program.specs.CallAnswers.{open_possible, offer_possible}

-- ---- The numbers of faults

fault_number : (n : ℕ) (ps : List Piece) (s : List ℕ) (i : ℕ) → LineFault n ps s i → 1 ≤ n
unfolding LineFault
fault_number n ps s i (inl h) = omega (arith, h.0)
fault_number n ps s i (inr h) = omega (arith, h.0)

rule_fault_number : (turn n : ℕ) (s : List ℕ) (k i : ℕ) → RuleFault turn n s k i → 1 ≤ n
unfolding RuleFault
rule_fault_number zero n s k i h = omega (arith, h.0)
rule_fault_number (suc zero) n s k i h = omega (arith, h.0)
rule_fault_number (suc (suc zero)) n s k i h = (rule_number n (rule_text s) k i h.here).0
rule_fault_number (suc (suc (suc zero))) n s k i h = omega (arith, h.0)
rule_fault_number (suc (suc (suc (suc turn)))) n s k i h = absurd h

-- ---- Line by line

-- A line's answer is possible with the record that it leaves.
abbrev pub Told : Bool → Standing → Type 0
Told offered t = Possible offered (taken_counts program_width t.bytes) t.answer

pub watch_possible : (t : Standing) (s : List ℕ) → Told false (watch_read t (watch_line s))
unfolding watch_read refuse
watch_possible t s = go (watch_line s) refl
  where
    opened : (b : Bool) (k room : ℕ) → bad_processes k ≡ b → Told false (watch_read t (Watch k room))
    opened true k room e = rw e (omega arith)
    opened false k room e = rw e refl

    go : (r : WatchLine) → watch_line s ≡ r → Told false (watch_read t r)
    go (Watch k room) e = opened (bad_processes k) k room refl
    go (WatchRefused n i) e = fault_number n watch_pieces s i ((watch-first_fault s n i).0 e).here

pub rule_possible : (t : Standing) (s : List ℕ) → Told false (rule_read t s (rule_line s t.k))
unfolding rule_read refuse
rule_possible t s = go (rule_line s t.k) refl
  where
    go : (r : RuleLine) → rule_line s t.k ≡ r → Told false (rule_read t s r)
    go (Rule start end) e = refl
    go (RuleRefused n i) e =
        let f = (rule_line-first_fault s t.k n i).0 e in
        rule_fault_number f.turn n s t.k i f.here

pub start_possible : (t : Standing) (s : List ℕ) → Told false (start_read t (start_line s t.k))
unfolding start_read refuse
start_possible t s = go (start_line s t.k) refl
  where
    go : (r : StartLine) → start_line s t.k ≡ r → Told false (start_read t r)
    go (Start labels) e = open_possible t.rule t.k (unpack_labels labels) t.bytes t.window
    go (StartRefused n i) e = fault_number n (start_pieces t.k) s i ((start_first_fault s t.k n i).0 e).here

pub did_possible : (t : Standing) (s : List ℕ) → Told true (did_read t (did_line s t.k))
unfolding did_read refuse
did_possible t s = go (did_line s t.k) refl
  where
    go : (r : DidLine) → did_line s t.k ≡ r → Told true (did_read t r)
    go (Did mask c01 c23 c45 c67 labels) e = offer_possible program_width mask _ (unpack_labels labels) t.bytes _
    go (DidRefused n i) e =
        let m = names_some s in
        fault_number n (did_pieces t.k m.0) s i ((did_first_fault s t.k m.0 n i m.1).0 e).here

-- ---- Theorem
pub line_possible : (t : Standing) (line : List ℕ) → t.stage < over_stage
    → Possible (eqb t.stage event_stage) (taken_counts program_width (line_read t line).bytes) (line_read t line).answer
unfolding line_read
line_possible t line l = go t.stage l
  where
    read : ℕ → Standing
    read n =
        cond (eqb n watch_stage) (watch_read t (watch_line line))
        (cond (eqb n rule_stage) (rule_read t line (rule_line line t.k))
        (cond (eqb n start_stage) (start_read t (start_line line t.k))
        (did_read t (did_line line t.k))))

    go : (n : ℕ) → n < over_stage → Told (eqb n event_stage) (read n)
    go zero l = watch_possible t line
    go (suc zero) l = rule_possible t line
    go (suc (suc zero)) l = start_possible t line
    go (suc (suc (suc zero))) l = did_possible t line
    go (suc (suc (suc (suc n)))) l = absurd (omega arith)
