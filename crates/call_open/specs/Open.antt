-- Open (01, The calls): reads a rule's text, the number of processes and the start labels, and writes record and
-- window.
use Rattle.std.specs.Prelude.{ℕ, ◌-◌, ◌*◌, cond, ◌||◌, List, [], ◌∷◌, ◌++◌, length, replicate}
use Rattle.pactl.specs.declared.Line.{Line}
use Rattle.codec.specs.Little.{bytes_of}
use Rattle.window.specs.Start.{start_frontier}
use Rattle.frontiers.specs.Bytes.{window_bytes}
use Rattle.rules.specs.Line.{lines_at}
use Rattle.pactl.specs.Table.{table_bytes}
use Rattle.rules.specs.Reader.{Reading, read_rule, formed, faulty}
use Rattle.clocks.specs.Refusal.{bad_start}
use Rattle.records.specs.Record.{event_length}
use Rattle.refusals.specs.Refusals.{bad_record_length, bad_window_length, bad_processes}
use Rattle.answers.specs.Answer.{Answer, turned_back, state_of}
use Rattle.numbers.specs.Refusal.{labels_number, length_number, processes_number}

-- What open answers and leaves in the two buffers that it is lent.
pub record Opened : Type 0 where
  pub answer : Answer
  pub bytes : List ℕ
  pub window : List ℕ

-- The record of a new watch: the number of processes, the table, one frontier kept; the rest 0.
unfoldable pub first_record : (w k : ℕ) (table : List Line) → List ℕ
first_record w k table =
    let filled = table_bytes table in
    k ∷ length table ∷ 0 ∷ 0 ∷ bytes_of 4 1 ++ replicate (72 * w) 0 ++ filled ++ replicate (192 - length filled) 0 ++ replicate (32 * event_length w) 0

-- Opening with a table, apart from reading a text.
unfoldable pub open_table : (w : ℕ) (table : List Line) (k : ℕ) (labels : List ℕ) (window_length : ℕ) → Opened
open_table w table k labels window_length =
    let fs = start_frontier 8 labels table ∷ [] in
    record {
      answer = state_of (length table) (replicate 8 0) fs;
      bytes = first_record w k table;
      window = window_bytes w window_length fs;
    }

-- What a text read to a form or a fault leads to.
unfoldable pub open_read : (w k : ℕ) (labels s window : List ℕ) (r : Reading) → Opened
open_read w k labels s window (formed i f) = open_table w (lines_at 0 f) k labels (length window)
open_read w k labels s window (faulty n i) = record { answer = turned_back n i; bytes = s; window = window }

unfoldable pub open_call : (w : ℕ) (text : List ℕ) (k : ℕ) (labels s window : List ℕ) → Opened
open_call w text k labels s window =
    let turned : ℕ → Opened = λ n. record { answer = turned_back n 0; bytes = s; window = window } in
    cond (bad_record_length w (length s) || bad_window_length w (length window)) (turned length_number)
    (cond (bad_processes k) (turned processes_number)
    (cond (bad_start k labels) (turned labels_number)
    (open_read w k labels s window (read_rule text k))))
