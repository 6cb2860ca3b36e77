-- Open, from the refusals before the text to the reading's answer.
use Prim.Native.Nat.{ℕ, ◌+◌, ◌*◌, ◌≤◌, ◌<◌}
use native.Mathlib.Omega.{arith}
use mathlib.Core.Path.{◌≡◌, refl, sym, ap, ◌∙◌, ap₂}
use mathlib.Core.Bool.{cond, ◌||◌}
use mathlib.Core.List.{List}
use lib.Dec.{lit<}
use lib.ListN.{length}
use borrow.Author.Tests.{eq-eqb}
use Rattle.rules.specs.reading.ReaderAccepts.{accepted}
use Rattle.frontiers.specs.Bytes.{frontier_length}
use Rattle.rules.specs.lines.RuleTableLaws.{length-table_of, lines_of-table_of}
use Rattle.rules.specs.Line.{line_count, lines_at}
use Rattle.pactl.specs.TableBytes.{lines_of}
use Rattle.rules.specs.RuleRead.{Accepted, Refused}
use Rattle.rules.specs.RuleTable.{table_of, answer_of, table_after, rule_answer, rule_table}
use Rattle.rules.specs.reading.ReaderLaws.{form_at-formed}
use Rattle.rules.specs.Formula.{Formula}
use Rattle.rules.specs.reading.PlaceLaws.{fault_place}
use Rattle.rules.specs.lines.LineLaws.{line_count_pos}
use Rattle.rules.specs.Reader.{Reading, read_rule, formed, faulty}
use Rattle.clocks.specs.Refusal.{bad_start}
use Rattle.pactl.specs.declared.Line.{Line}
use Rattle.refusals.specs.RefusalLaws.{right_length, processes_within, window_holds}
use Rattle.records.specs.Record.{record_length}
use Rattle.refusals.specs.Refusals.{bad_record_length, bad_window_length, bad_processes}
use Rattle.call_open.specs.Open.{open_table, open_read, open_call}
use Rattle.answers.specs.Answer.{reply_word}
use Rattle.answers.specs.Turns.{passed}
use Rattle.clocks.specs.stored.BoundedLaws.{or-false_e}
use Rattle.call_open.specs.OpenCode.{open_fault}
use Rattle.call_open.specs.OpenFaultLaws.{open_by, open_back}

-- ---- What a text's answer says of it

-- A text that is a form of so many lines, and the table that was left.
record Read (text : List ℕ) (k lines : ℕ) (table : List ℕ) : Type 0 where
  place : ℕ
  form : Formula
  read : read_rule text k ≡ formed place form
  count : lines ≡ line_count form
  short : line_count form ≤ 64
  bytes : table ≡ table_of form

module _ (text : List ℕ) (k : ℕ) (lent : List ℕ) (long : length lent ≡ 192) where
  read_refused : (n i : ℕ) → Refused n i ≡ rule_answer text k lent → read_rule text k ≡ faulty n i
  unfolding rule_answer answer_of
  read_refused n i e = go (read_rule text k) (e ∙ rw (eq-eqb (length lent) 192 long))
    where
      go : (r : Reading) → Refused n i ≡ answer_of r → r ≡ faulty n i
      go (formed j f) h = let z : ◌≡◌ {A = ℕ} 0 1 = cc in absurd (omega arith)
      go (faulty m j) h = cc

  read_accepted : (lines : ℕ) (table : List ℕ) → Accepted lines ≡ rule_answer text k lent → table ≡ rule_table text k lent → Read text k lines table
  unfolding rule_answer rule_table answer_of table_after
  read_accepted lines table e t =
      go (read_rule text k) refl (e ∙ rw (eq-eqb (length lent) 192 long)) (t ∙ rw (eq-eqb (length lent) 192 long))
    where
      go : (r : Reading) → read_rule text k ≡ r → Accepted lines ≡ answer_of r → table ≡ table_after r lent → Read text k lines table
      go (formed j f) q h u =
          let x = form_at-formed text k 32 0 0 j f (accepted text k j f q).start in
          record { place = j; form = f; read = q; count = cc; short = omega (arith, x.short); bytes = u }
      go (faulty m j) q h u = let z : ◌≡◌ {A = ℕ} 0 1 = cc in absurd (omega arith)

-- ---- The refusals before the text

module _ (w : ℕ) (text : List ℕ) (k : ℕ) (labels s window : List ℕ) where
  abbrev fault : ℕ
  fault = open_fault w k labels (length s) (length window)

  pub open_turned : (n : ℕ) → n ≡ fault → (n ≡ 0 → ⊥)
      → (n ≡ reply_word (open_call w text k labels s window).answer)
      × (s ≡ (open_call w text k labels s window).bytes) × (window ≡ (open_call w text k labels s window).window)
  unfolding reply_word
  open_turned n e h =
      let whole = open_back w text k labels s window n e h in
      (rw whole (omega arith), rw whole, rw whole)

  open_reads : fault ≡ 0 → open_call w text k labels s window ≡ open_read w k labels s window (read_rule text k)
  open_reads h = open_by w text k labels s window ∙ rw (eq-eqb fault 0 h)

  pub open_passed : fault ≡ 0 → (length s ≡ record_length w) × (frontier_length w ≤ length window) × (k ≤ 8)
  unfolding open_fault
  open_passed h =
      let p = passed (bad_record_length w (length s) || bad_window_length w (length window)) 6 (cond (bad_processes k) 5 (cond (bad_start k labels) 9 0)) (lit< tt) h in
      let q = passed (bad_processes k) 5 (cond (bad_start k labels) 9 0) (lit< tt) p.1 in
      let both = or-false_e (bad_record_length w (length s)) (bad_window_length w (length window)) p.0 in
      (right_length w (length s) both.0, window_holds w (length window) both.1, (processes_within k q.0).1)

  -- ---- What the text was read to

  pub open_refused : fault ≡ 0 → (lent : List ℕ) → length lent ≡ 192 → (n i : ℕ) → Refused n i ≡ rule_answer text k lent
      → (i < 1024) × (n + 4294967296 * i ≡ reply_word (open_call w text k labels s window).answer)
      × (s ≡ (open_call w text k labels s window).bytes) × (window ≡ (open_call w text k labels s window).window)
  unfolding reply_word open_read
  open_refused h lent long n i e =
      let read : read_rule text k ≡ faulty n i = read_refused text k lent long n i e in
      let whole : open_call w text k labels s window ≡ open_read w k labels s window (faulty n i) = open_reads h
      ∙ ap (open_read w k labels s window) read in
      (fault_place text k n i read, rw whole, rw whole, rw whole)

  pub open_accepted : fault ≡ 0 → (lent : List ℕ) → length lent ≡ 192 → (lines : ℕ) (table : List ℕ) → Accepted lines ≡ rule_answer text k lent → table ≡ rule_table text k lent
      → (1 ≤ lines) × (lines ≤ 64) × (length table ≡ 192) × (open_table w (lines_of table lines) k labels (length window) ≡ open_call w text k labels s window)
  unfolding open_read
  open_accepted h lent long lines table e t =
      let d = read_accepted text k lent long lines table e t in
      let whole : open_call w text k labels s window ≡ open_table w (lines_at 0 d.form) k labels (length window) = open_reads h ∙ ap (open_read w k labels s window) d.read in
      let same : lines_of table lines ≡ lines_at 0 d.form = ap₂ (λ (bytes : List ℕ) (n : ℕ). lines_of bytes n) d.bytes d.count ∙ lines_of-table_of d.form in
      (omega (arith, line_count_pos d.form, d.count), omega (arith, d.short, d.count), ap length d.bytes ∙ length-table_of d.form d.short, ap (λ (ls : List Line). open_table w ls k labels (length window)) same ∙ sym whole)
