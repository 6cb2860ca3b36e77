-- The watches that calls and moves alone wrote (01, demand 2: a watch written by these calls only; 02 [6]): one that an
-- accepted open left, one after a call, one that an accepted move wrote; and the form of what is said of every one.
use Rattle.std.specs.Prelude.{ℕ, ◌<◌, ◌≡◌, List}
use Rattle.rules.specs.Formula.{Formula}
use Rattle.rules.specs.Text.{text_of}
use Rattle.rules.specs.Reader.{read_rule, formed}
use Rattle.clocks.specs.Event.{Cut}
use Rattle.clocks.specs.Counts.{at}
use Rattle.call_open.specs.Open.{open_call}
use Rattle.call_move.specs.Move.{Moved, move_call}
use Rattle.demands.specs.Run.{Call, Passed, Watch, after, opened}
use Rattle.demands.specs.EveryList.{Accepts, EightBytes}

-- The watch that a move wrote: other bytes; events, closed processes and answers are those of the one that it read.
abbrev pub moved_to : (m : Moved) (W : Watch) → Watch
moved_to m W = record {
  bytes = m.bytes;
  window = m.window;
  ledger = W.ledger;
  accepted = W.accepted;
  answers = W.answers;
}

-- Those opened with a rule's text, k processes and start labels, by the width of their counts.
pub data Written (text : List ℕ) (k : ℕ) (labels : List ℕ) : ℕ → Watch → Type 0 where
  opens : (w : ℕ) → 0 < w → (s window : List ℕ) → Accepts w text k labels s window
      → Written text k labels w (opened (open_call w text k labels s window))
  calls : (w : ℕ) (W : Watch) → Written text k labels w W → (c : Call) → Passed w c
      → Written text k labels w (after w c W)
  -- from counts of v bytes to counts of w bytes, in lent buffers of any content
  moves : (v w : ℕ) → 0 < w → (W : Watch) → Written text k labels v W → (t target : List ℕ)
      → (move_call v w W.bytes W.window t target).number ≡ 0
      → Written text k labels w (moved_to (move_call v w W.bytes W.window t target) W)

-- For every such watch, with the formula f that the reader reads: P of the width of a count, the number of processes,
-- f, the start labels and the watch.
abbrev pub OfEveryWatch : (P : ℕ → ℕ → Formula → Cut → Watch → Type 0) → Type 0
OfEveryWatch P =
    (text : List ℕ) (k : ℕ) (labels : List ℕ) → EightBytes labels
    → (w : ℕ) (Z : Watch) → Written text k labels w Z
    → (f : Formula) × (i : ℕ) × (read_rule text k ≡ formed i f) × (text_of f ≡ text) × P w k f (at labels) Z
