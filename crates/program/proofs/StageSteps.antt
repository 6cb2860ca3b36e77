-- What a line leaves, by the ways that the code goes.
use Prim.Native.Nat.{ℕ}
use mathlib.Core.Path.{◌≡◌, refl, sym, ap, ◌∙◌}
use native.Mathlib.Omega.{arith}
use mathlib.Core.Bool.{true, false}
use mathlib.Core.List.{List, [], ◌∷◌}
use lib.ListN.{take}
use borrow.Author.Tests.{ne_eqb}
use Rattle.std.specs.Prelude.{Result, Ok, Err, is_err}
use Rattle.lines.specs.WatchLine.{WatchLine, Watch, Refused as WatchRefused}
use Rattle.lines.specs.RuleLine.{RuleLine, Rule, Refused as RuleRefused}
use Rattle.lines.specs.StartLine.{StartLine, Start, Refused as StartRefused}
use Rattle.lines.specs.DidLine.{DidLine, Did, Refused as DidRefused}
use Rattle.lines.specs.Lines.{watch_line, rule_text, rule_line, start_line, did_line}
use Rattle.refusals.specs.Refusals.{bad_processes}
use Rattle.answers.specs.Answer.{Answer, nothing_ready, reply_word}
use Rattle.reply_text.specs.Form.{program_width}
use Rattle.call_words.specs.Words.{unpack_counts, unpack_labels}
use Rattle.call_open.specs.Open.{Opened, open_call}
use Rattle.call_offer.specs.Offer.{Offered, offer_call}
use Rattle.program.specs.declared.Session.{Session}
use Rattle.replies.specs.declared.reply.Accepted.{Accepted}
use Rattle.replies.specs.declared.reply.Refused.{Refused}
use Rattle.replies.specs.Replies.{reply_of, parts_of, Fits}
use Rattle.replies.specs.ReplyLaws.{refused_by}
use Rattle.answers.specs.Kinds.{is_turned_back}
use Rattle.replies.specs.Following.{stage_number, next_stage}
use Rattle.program.specs.Stages.{Standing, Stands, Replied, refuse, watch_read, rule_read, start_read, did_read}
use Rattle.program.specs.CallAnswers.{open_fits, offer_fits}

module _ (t : Standing) (s : Session) (rule bytes window : List ℕ) (h : Stands t s rule bytes window) where
  -- The watch line.
  module _ (line : List ℕ) (read : WatchLine) (e : read ≡ watch_line line) where
    pub watch-refused : (n i : ℕ) → read ≡ WatchRefused n i → watch_read t (watch_line line) ≡ refuse t n i
    unfolding watch_read
    watch-refused n i told = rw (sym e ∙ told)

    pub watch_bad : (k room : ℕ) → read ≡ Watch k room → bad_processes k ≡ true → watch_read t (watch_line line) ≡ refuse t 5 0
    unfolding watch_read
    watch_bad k room told bad = rw (sym e ∙ told, bad)

    pub watch_stands : (r : Session) → stage_number r.stage ≡ next_stage (stage_number s.stage) false → r.text ≡ s.text → r.reply ≡ parts_of nothing_ready
        → read ≡ Watch r.k r.room → bad_processes r.k ≡ false → Stands (watch_read t (watch_line line)) r rule bytes window
    unfolding watch_read
    watch_stands r g text reply told good = rw (sym e ∙ told, good) (record {
      replied = reply;
      stage = g ∙ ap (λ (n : ℕ). next_stage n false) h.stage;
      processes = refl;
      frontiers = refl;
      text = ap (λ (n : ℕ). take n rule) text ∙ h.text;
      bytes = h.bytes;
      kept = h.kept;
    })

  -- The rule's line.
  module _ (line : List ℕ) (read : RuleLine) (e : read ≡ rule_line line s.k) where
    same : read ≡ rule_line line t.k
    same = e ∙ ap (rule_line line) h.processes

    pub rule_refused : (n i : ℕ) → read ≡ RuleRefused n i → rule_read t line (rule_line line t.k) ≡ refuse t n i
    unfolding rule_read
    rule_refused n i told = rw (sym same ∙ told)

    pub rule_stands : (start end : ℕ) (r : Session) (after : List ℕ) → stage_number r.stage ≡ next_stage (stage_number s.stage) false → r.k ≡ s.k → r.room ≡ s.room → r.reply ≡ parts_of nothing_ready
        → read ≡ Rule start end → take r.text after ≡ rule_text line → Stands (rule_read t line (rule_line line t.k)) r after bytes window
    unfolding rule_read
    rule_stands start end r after g k room reply told laid = rw (sym same ∙ told) (record {
      replied = reply;
      stage = g ∙ ap (λ (n : ℕ). next_stage n false) h.stage;
      processes = k ∙ h.processes;
      frontiers = room ∙ h.frontiers;
      text = laid;
      bytes = h.bytes;
      kept = h.kept;
    })

  -- The start labels.
  module _ (line : List ℕ) (read : StartLine) (e : read ≡ start_line line s.k) where
    same_start : read ≡ start_line line t.k
    same_start = e ∙ ap (start_line line) h.processes

    -- The call that is made.
    abbrev pub opening : ℕ → Opened
    opening labels = open_call program_width (take s.text rule) s.k (unpack_labels labels) bytes window

    pub start_refused : (n i : ℕ) → read ≡ StartRefused n i → start_read t (start_line line t.k) ≡ refuse t n i
    unfolding start_read
    start_refused n i told = rw (sym same_start ∙ told)

    pub start_stands : (labels word : ℕ) (r : Session) (after opened : List ℕ) → read ≡ Start labels → Replied s word r
        → word ≡ reply_word (opening labels).answer
        → after ≡ (opening labels).bytes
        → opened ≡ (opening labels).window
        → Stands (start_read t (start_line line t.k)) r rule after opened
    unfolding start_read
    start_stands labels word r after opened told q u b w = rw (sym same_start ∙ told, ← h.text, ← h.processes, ← h.bytes, ← h.kept) (record {
      replied = (q.reply (opening labels).answer (open_fits program_width _ s.k _ bytes window) u).0;
      stage = (q.reply (opening labels).answer (open_fits program_width _ s.k _ bytes window) u).1 ∙ rw h.stage;
      processes = q.processes;
      frontiers = q.frontiers ∙ h.frontiers;
      text = ap (λ (n : ℕ). take n rule) q.text;
      bytes = b;
      kept = w;
    })

  -- An event's line.
  module _ (line : List ℕ) (read : DidLine) (e : read ≡ did_line line s.k) where
    same_did : read ≡ did_line line t.k
    same_did = e ∙ ap (did_line line) h.processes

    -- The call that is made.
    abbrev pub offering : (mask c01 c23 c45 c67 labels : ℕ) → Offered
    offering mask c01 c23 c45 c67 labels =
        offer_call program_width mask (unpack_counts program_width (c01 ∷ c23 ∷ c45 ∷ c67 ∷ [])) (unpack_labels labels) bytes

    pub did_refused : (n i : ℕ) → read ≡ DidRefused n i → did_read t (did_line line t.k) ≡ refuse t n i
    unfolding did_read
    did_refused n i told = rw (sym same_did ∙ told)

    pub did_stands : (mask c01 c23 c45 c67 labels word : ℕ) (r : Session) (after : List ℕ)
        → read ≡ Did mask c01 c23 c45 c67 labels → Replied s word r
        → word ≡ reply_word (offering mask c01 c23 c45 c67 labels).answer
        → after ≡ (offering mask c01 c23 c45 c67 labels).bytes
        → Stands (did_read t (did_line line t.k)) r rule after window
    unfolding did_read
    did_stands mask c01 c23 c45 c67 labels word r after told q u b = rw (sym same_did ∙ told, ← h.bytes) (record {
      replied = (q.reply (offering mask c01 c23 c45 c67 labels).answer (offer_fits program_width mask _ _ bytes) u).0;
      stage = (q.reply (offering mask c01 c23 c45 c67 labels).answer (offer_fits program_width mask _ _ bytes) u).1 ∙ rw h.stage;
      processes = q.processes ∙ h.processes;
      frontiers = q.frontiers ∙ h.frontiers;
      text = ap (λ (n : ℕ). take n rule) q.text ∙ h.text;
      bytes = b;
      kept = h.kept;
    })

-- A refusal is known by its number, which is not 0.
pub refused_told : (a : Answer) (r : Result Accepted Refused) → Fits a → reply_of r ≡ parts_of a → is_err r ≡ is_turned_back a
refused_told a (Ok accepted) f e = refused_by a (reply_of (Ok accepted)) f e
refused_told a (Err refused) f e = sym (rw (ne_eqb refused.number 0 (omega (arith, refused.some)))) ∙ refused_by a (reply_of (Err refused)) f e
