-- What is true of every open, on all arguments (01, The calls: open; Turned back; Order): each answer, exactly if, and
-- what it leaves. Proved in OpenTheorem.
use Rattle.std.specs.Prelude.{ℕ, ◌*◌, ◌%◌, ◌≤◌, ◌<◌, ◌≡◌, Bool, List, ◌⊎◌, ◌↔◌, ◌≢◌, length}
use Rattle.numbers.specs.Limit.{most_frontiers, most_processes}
use Rattle.numbers.specs.Refusal.{atom_number, labels_number, length_number, processes_number}
use Rattle.clocks.specs.Counts.{at}
use Rattle.frontiers.specs.Bytes.{frontier_length}
use Rattle.records.specs.Record.{record_length}
use Rattle.rules.specs.Formula.{Formula}
use Rattle.rules.specs.Line.{lines_at}
use Rattle.rules.specs.Reader.{read_rule, formed, faulty}
use Rattle.rules.specs.Fault.{Fault, FirstFault}
use Rattle.answers.specs.Answer.{Answer, turned_back, state}
use Rattle.call_open.specs.Open.{open_table, open_call}

-- ---- What an open asks for, in the order in which it does

-- Record and window have right lengths: the record its one, the window that of 1 to 1,024 whole frontiers.
pub record RightBuffers (w : ℕ) (s window : List ℕ) : Type 0 where
  pub whole_record : length s ≡ record_length w
  pub some_frontier : frontier_length w ≤ length window
  pub few_frontiers : length window ≤ most_frontiers * frontier_length w
  pub whole_frontiers : length window % frontier_length w ≡ 0

-- There are 1 to 8 processes.
abbrev pub SomeProcesses : (k : ℕ) → Type 0
SomeProcesses k = (1 ≤ k) × (k ≤ most_processes)

-- No process from k up has a start label.
abbrev pub NoneLabelled : (k : ℕ) (labels : List ℕ) → Type 0
NoneLabelled k labels = (p : ℕ) → k ≤ p → p < most_processes → at labels p ≡ 0

-- Only the text is left to be judged.
pub record Readable (w k : ℕ) (labels s window : List ℕ) : Type 0 where
  pub lengths : RightBuffers w s window
  pub processes : SomeProcesses k
  pub labelled : NoneLabelled k labels

-- The watch is open.
abbrev pub IsOpened : (a : Answer) → Type 0
IsOpened a = (counts : List ℕ) × (truth : Bool) × (kept : ℕ) × (a ≡ state counts truth kept)

-- ---- Statement

pub record OpenExact (w : ℕ) (text : List ℕ) (k : ℕ) (labels s window : List ℕ) : Type 0 where
  -- the refusals in their order
  pub wrong_length : ((open_call w text k labels s window).answer ≡ turned_back length_number 0)
      ↔ (RightBuffers w s window → ⊥)
  pub wrong_processes : ((open_call w text k labels s window).answer ≡ turned_back processes_number 0)
      ↔ (RightBuffers w s window × ((k ≡ 0) ⊎ (most_processes < k)))
  pub wrong_labels : ((open_call w text k labels s window).answer ≡ turned_back labels_number 0)
      ↔ (RightBuffers w s window × SomeProcesses k
      × ((p : ℕ) × (k ≤ p) × (p < most_processes) × (at labels p ≢ 0)))
  -- the text's numbers, with their places: what the reader of rules refuses it with, and so its first fault (rules
  -- Fault: ReaderFindsFirstFault)
  pub wrong_text : (n place : ℕ) → n ≤ atom_number
      → ((open_call w text k labels s window).answer ≡ turned_back n place)
      ↔ (Readable w k labels s window × (read_rule text k ≡ faulty n place))
  pub first_fault : (n place : ℕ) → n ≤ atom_number
      → ((open_call w text k labels s window).answer ≡ turned_back n place)
      ↔ (Readable w k labels s window × FirstFault n text k place)
  -- else it is accepted: the reader reads a form, and so the text has no fault (rules Fault: ReaderAcceptsFaultless)
  pub accepted : IsOpened (open_call w text k labels s window).answer
      ↔ (Readable w k labels s window × ((i : ℕ) × (f : Formula) × (read_rule text k ≡ formed i f)))
  pub faultless : IsOpened (open_call w text k labels s window).answer
      ↔ (Readable w k labels s window × ((n i : ℕ) → Fault n text k i → ⊥))
  -- there is no other answer
  pub no_other : IsOpened (open_call w text k labels s window).answer
      ⊎ ((n place : ℕ) × ((open_call w text k labels s window).answer ≡ turned_back n place))
  -- refused, it leaves both buffers as they were; accepted, its answer and both buffers are those of the form's table
  pub refused_leaves : (n place : ℕ) → (open_call w text k labels s window).answer ≡ turned_back n place
      → ((open_call w text k labels s window).bytes ≡ s) × ((open_call w text k labels s window).window ≡ window)
  pub accepted_leaves : (i : ℕ) (f : Formula) → read_rule text k ≡ formed i f
      → IsOpened (open_call w text k labels s window).answer
      → open_call w text k labels s window ≡ open_table w (lines_at 0 f) k labels (length window)

abbrev pub OpenIsExact : Type 0
OpenIsExact = (w : ℕ) (text : List ℕ) (k : ℕ) (labels s window : List ℕ) → OpenExact w text k labels s window
