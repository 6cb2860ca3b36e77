-- A line's takes, one at a time, and the parts of the buffers that are lent.
use Prim.Native.Nat.{ℕ, zero, suc, ◌+◌, ◌≤◌, ◌<◌}
use mathlib.Core.Path.{◌≡◌, refl, sym, ap, ◌∙◌}
use mathlib.Core.Bool.{Bool, true, false}
use mathlib.Core.List.{List, ◌++◌, append_assoc, append-nil}
use native.Mathlib.Omega.{arith}
use lib.Dec.{eqb}
use borrow.Author.Tests.{ne_eqb}
use lib.ListN.{length, take, drop}
use lib.Seq.{length-take-le, take-append-add, take-append-le, take_at, drop_at}
use Rattle.replies.specs.declared.Stage.{Stage}
use Rattle.replies.specs.declared.Stage.TheVariants.{Watch, Rule, Start, Event, Over, Past}
use Rattle.records.specs.Record.{taken_counts}
use Rattle.call_take.specs.Take.{take_call}
use Rattle.reply_text.specs.Form.{program_width}
use Rattle.reply_text.specs.Texts.{answer_text}
use Rattle.replies.specs.Replies.{Possible}
use Rattle.replies.specs.Following.{takes_again, stage_number, event_stage, over_stage}
use Rattle.answers.specs.Kinds.{is_held}
use Rattle.program.specs.declared.Session.{Session}
use Rattle.program.specs.Stages.{Standing, line_read, Stands}
use Rattle.program.specs.Turn.{Took, takes_while, most_takes, room_bytes, lent_part, turned, Responded}
use Rattle.program.specs.LineAnswers.{line_possible}

-- What is laid at the front of a part stands after what stands before the part.
pub laid_after : (xs ys : List ℕ) (a r k : ℕ) → a ≤ length xs → r ≤ length ys
    → take (a + r) (take a xs ++ (ys ++ drop k (drop a xs))) ≡ take a xs ++ take r ys
laid_after xs ys a r k l m =
    let rest = drop k (drop a xs) in
    ap (λ (n : ℕ). take (n + r) (take a xs ++ (ys ++ rest))) (sym (length-take-le a xs l))
    ∙ take-append-add (take a xs) (ys ++ rest) r
    ∙ ap (λ (t : List ℕ). take a xs ++ t) (take-append-le r ys rest m)

-- ---- Takes

-- With what is laid, the takes that are left come to the whole.
pub record Ahead (whole : Took) (before : List ℕ) (follows : Bool) (k left : ℕ) (s window scratch laid : List ℕ) : Type 0 where
  pub text : laid ++ (takes_while left follows k s window scratch).text ≡ before ++ whole.text
  pub bytes : (takes_while left follows k s window scratch).bytes ≡ whole.bytes
  pub kept : (takes_while left follows k s window scratch).window ≡ whole.window
  pub spent : (takes_while left follows k s window scratch).scratch ≡ whole.scratch

-- A take more.
pub ahead_next : (whole : Took) (before : List ℕ) (k n : ℕ) (s window scratch laid : List ℕ)
    → Ahead whole before true k (suc n) s window scratch laid
    → let o = take_call program_width s window scratch in
    Ahead whole before (takes_again o.answer) k n o.bytes o.window o.scratch (laid ++ answer_text k o.answer)
unfolding takes_while
ahead_next whole before k n s window scratch laid h =
    let o = take_call program_width s window scratch in
    let rest = takes_while n (takes_again o.answer) k o.bytes o.window o.scratch in
    record { text = append_assoc laid (answer_text k o.answer) rest.text ∙ h.text; bytes = h.bytes; kept = h.kept; spent = h.spent }

-- The same, as the code has it.
pub ahead_step : (whole : Took) (before : List ℕ) (follows : Bool) (k left left' : ℕ) (follows' : Bool)
    (s window scratch laid s' window' scratch' laid' : List ℕ)
    → follows ≡ true → left ≡ suc left' → Ahead whole before follows k left s window scratch laid
    → let o = take_call program_width s window scratch in
    follows' ≡ takes_again o.answer
    → s' ≡ o.bytes → window' ≡ o.window → scratch' ≡ o.scratch → laid' ≡ laid ++ answer_text k o.answer
    → Ahead whole before follows' k left' s' window' scratch' laid'
ahead_step whole before follows k left left' follows' s window scratch laid s' window' scratch' laid' t l h e f g i j =
    rw (e, f, g, i, j) (ahead_next whole before k left' s window scratch laid (rw (t, l) at h))

-- None is to follow, or none is left.
abbrev pub Whole : Took → List ℕ → List ℕ → List ℕ → List ℕ → List ℕ → Type 0
Whole whole before s window scratch laid =
    (laid ≡ before ++ whole.text) × (s ≡ whole.bytes) × (window ≡ whole.window) × (scratch ≡ whole.scratch)

pub ahead_none : (whole : Took) (before : List ℕ) (follows : Bool) (k left : ℕ) (s window scratch laid : List ℕ)
    → follows ≡ false → Ahead whole before follows k left s window scratch laid → Whole whole before s window scratch laid
unfolding takes_while
ahead_none whole before follows k zero s window scratch laid e h = (sym (append-nil laid) ∙ h.text, h.bytes, h.kept, h.spent)
ahead_none whole before true k (suc left) s window scratch laid e h = absurd (cc)
ahead_none whole before false k (suc left) s window scratch laid e h = (sym (append-nil laid) ∙ h.text, h.bytes, h.kept, h.spent)

pub ahead_last : (whole : Took) (before : List ℕ) (follows : Bool) (k left : ℕ) (s window scratch laid : List ℕ)
    → left ≡ 0 → Ahead whole before follows k left s window scratch laid → Whole whole before s window scratch laid
unfolding takes_while
ahead_last whole before follows k left s window scratch laid e h =
    let g = rw e at h in
    (sym (append-nil laid) ∙ g.text, g.bytes, g.kept, g.spent)

-- ---- The whole turn

-- An event's line is an offer, and no other is.
pub no_event : (stage : Stage) → (stage ≡ Event → ⊥) → false ≡ eqb (stage_number stage) event_stage
no_event Watch h = refl
no_event Rule h = refl
no_event Start h = refl
no_event Event h = absurd (h refl)
no_event Over h = refl
no_event (Past n) h = sym (ne_eqb (over_stage + 1 + n) event_stage (omega arith))

-- The part that is lent is what the calls get.
pub cut_stands : (t : Standing) (r : Session) (rule s window : List ℕ) → Stands t r rule s window
    → Stands (lent_part t) r rule s (take (room_bytes r.room) window)
unfolding lent_part
cut_stands t r rule s window h = record {
  replied = h.replied;
  stage = h.stage;
  processes = h.processes;
  frontiers = h.frontiers;
  text = h.text;
  bytes = h.bytes;
  kept = rw (h.frontiers, h.kept);
}

module _ (t : Standing) (session next : Session) (line rule s window rule' s' part : List ℕ)
    (h : Stands t session rule s window) (g : Stands (line_read (lent_part t) line) next rule' s' part) where
  abbrev u : Standing
  u = line_read (lent_part t) line

  -- The line's answer is possible with the record that it leaves.
  pub answer_told : stage_number session.stage < over_stage
      → Possible (eqb (stage_number session.stage) event_stage) (taken_counts program_width s') u.answer
  unfolding lent_part
  answer_told l = rw (h.stage, g.bytes) (line_possible (lent_part t) line (rw h.stage at l))

  -- The answer's text, and those of the takes; what is left.
  module _ (scratch out s'' part'' lent'' before : List ℕ) (follows : Bool) (end : ℕ) where
    abbrev n : ℕ
    n = room_bytes session.room

    abbrev o : Took
    o = takes_while most_takes follows next.k s' (take n (part ++ drop n window)) (take n scratch)

    pub responded : length part ≡ n → before ≡ answer_text next.k u.answer → follows ≡ is_held u.answer
        → take end out ≡ before ++ o.text → s'' ≡ o.bytes → part'' ≡ o.window → lent'' ≡ o.scratch
        → Responded (turned t line scratch) (record { session = next; length = end }) rule' s''
        (part'' ++ drop n (part ++ drop n window)) (lent'' ++ drop n scratch) out
    unfolding turned
    responded long text following laid bytes kept spent =
        let m = room_bytes t.room in
        let same = take_at part (drop n window) n long in
        let w = takes_while most_takes (is_held u.answer) u.k u.bytes u.window (take m scratch) in
        let q : o ≡ w = rw (same, following, g.processes, g.bytes, g.kept, h.frontiers) in
        let beyond : drop n window ≡ drop m t.window = rw (h.frontiers, h.kept) in
        let first : before ≡ answer_text u.k u.answer =
        text ∙ ap (λ (k : ℕ). answer_text k u.answer) g.processes in
        record {
          stands = record {
            replied = g.replied;
            stage = g.stage;
            processes = g.processes;
            frontiers = g.frontiers;
            text = g.text;
            bytes = bytes ∙ ap (λ (x : Took). x.bytes) q;
            kept =
                ap (λ (x : List ℕ). part'' ++ x) (drop_at part (drop n window) n long ∙ beyond)
                ∙ ap (λ (x : List ℕ). x ++ drop m t.window) (kept ∙ ap (λ (x : Took). x.window) q);
          };
          laid =
              laid
              ∙ ap (λ (x : List ℕ). x ++ o.text) first
              ∙ ap (λ (x : Took). answer_text u.k u.answer ++ x.text) q;
          spent =
              ap (λ (x : List ℕ). x ++ drop n scratch) (spent ∙ ap (λ (x : Took). x.scratch) q)
              ∙ ap (λ (r : ℕ). w.scratch ++ drop (room_bytes r) scratch) h.frontiers;
        }
