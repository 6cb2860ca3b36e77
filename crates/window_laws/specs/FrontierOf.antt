-- The frontier of a cut: its labels, the masks of its last events, and the truth of every line (01, The window); and
-- ascending order.
use Rattle.std.specs.Prelude.{ℕ, zero, suc, Bool, T, length}
use mathlib.Core.List.{List, [], ◌∷◌, Memᴰ}
use Rattle.pactl.specs.declared.Line.{Line}
use Rattle.clocks.specs.declared.Event.{Event}
use Rattle.pactl.specs.Judge.{with_bit}
use Rattle.pactl.specs.Truth.{Model, line_truth}
use Rattle.clocks.specs.History.{mask_of, label_of}
use Rattle.clocks.specs.Event.{Cut}
use Rattle.clocks.specs.Counts.{list_of}
use Rattle.frontiers.specs.declared.Frontier.{Frontier}
use Rattle.lookup.specs.Order.{before}

-- What a watch stands in, whatever is taken: how many processes are stored and how many there are, which are closed
-- (a close alone changes them), the start labels, the rule's table.
pub record World : Type 0 where
  pub stored : ℕ
  pub processes : ℕ
  pub closed : ℕ
  pub start : Cut
  pub table : List Line

-- The model in which the rule is judged after a history.
abbrev pub model_of : (W : World) (ts : List Event) → Model
model_of W ts = record { processes = W.processes; start = W.start; history = ts }

-- The word whose bit i is a test at i, for the first n; the rest 0 (01: values).
unfoldable pub word_of : (n : ℕ) (t : ℕ → Bool) → ℕ
word_of zero t = 0
word_of (suc i) t = with_bit (word_of i t) i (t i)

-- The frontier of a cut.
unfoldable pub frontier_of : (W : World) (ts : List Event) (S : Cut) → Frontier
frontier_of W ts S = record {
  counts = list_of W.stored S;
  labels = list_of W.stored (λ p. label_of W.start ts p (S p));
  masks = list_of W.stored (λ p. mask_of ts p (S p));
  values = word_of (length W.table) (λ i. line_truth (model_of W ts) W.table i S);
}

-- Elements in strictly ascending order of their keys, so each once.
abbrev pub SortedBy : {A : Type 0} → (key : A → List ℕ) (xs : List A) → Type 0
SortedBy key [] = Unit {0}
SortedBy {A} key (x ∷ xs) = ((y : A) → Memᴰ y xs → T (before (key x) (key y))) × SortedBy key xs

-- Cuts in ascending order of their first n counts, process 0 compared first.
abbrev pub Sorted : (n : ℕ) (cuts : List Cut) → Type 0
Sorted n cuts = SortedBy (list_of n) cuts
