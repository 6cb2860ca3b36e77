-- What a find after a list of calls answers (01, The calls: find; 02 [4]): the first kept cut, in the window's order,
-- at which a line of the rule is true, and none exactly if there is none. Proved in lists/Find.
use Rattle.std.specs.Prelude.{ℕ, ◌≤◌, ◌<◌, ◌≡◌, true, false, ◌↔◌, ◌≢◌, length}
use mathlib.Core.List.{List, ◌∷◌, ◌++◌, map, Memᴰ}
use Rattle.frontiers.specs.Bytes.{frontiers}
use Rattle.rules.specs.Line.{lines_at}
use Rattle.pactl.specs.Truth.{Property, line_truth}
use Rattle.rules.specs.Formula.{Formula}
use Rattle.clocks.specs.Event.{Cut}
use Rattle.records.specs.Record.{kept_count}
use Rattle.refusals.specs.Refusals.{bad_window_length}
use Rattle.answers.specs.Answer.{turned_back, found, absent}
use Rattle.call_find.specs.Find.{find_call}
use Rattle.demands.specs.Run.{Watch}
use Rattle.demands.specs.World.{KeptCuts, model_after, frontier_after}
use Rattle.demands.specs.EveryList.{AfterEveryList}
use Rattle.numbers.specs.Refusal.{length_number, no_line_number, state_number}

-- Of these cuts, the one with i before it is the first that has a property.
pub record FirstAt (has : Property) (cuts : List Cut) (i : ℕ) : Type 0 where
  pub earlier : List Cut
  pub cut : Cut
  pub later : List Cut
  pub cuts_are : cuts ≡ earlier ++ (cut ∷ later)
  pub place : length earlier ≡ i
  pub here : has cut ≡ true
  pub none_before : (S : Cut) → Memᴰ S earlier → has S ≡ false

-- PaCTL's truth of a line of the rule after the list's taken events.
abbrev pub line_of : (k : ℕ) (f : Formula) (start : Cut) (Z : Watch) (line : ℕ) → Property
line_of k f start Z line = line_truth (model_after k f start Z.ledger.history) (lines_at 0 f) line

pub record FindExact (w k : ℕ) (f : Formula) (start : Cut) (Z : Watch) : Type 0 where
  -- the kept cuts; the window's bytes have their frontiers in this order, one at each place
  pub cuts : List Cut
  pub cuts_are : KeptCuts k Z.ledger.closed Z.ledger.history cuts
  pub in_window : frontiers w Z.window (kept_count Z.bytes)
      ≡ map (frontier_after k f start Z.ledger.history) cuts
  pub wrong_length : (line : ℕ)
      → (find_call w line Z.bytes Z.window ≡ turned_back length_number 0)
      ↔ (bad_window_length w (length Z.window) ≡ true)
  pub no_line : bad_window_length w (length Z.window) ≡ false → (line : ℕ)
      → (find_call w line Z.bytes Z.window ≡ turned_back no_line_number 0) ↔ (length (lines_at 0 f) ≤ line)
  -- for a line that is there: i exactly if PaCTL makes it true at the i-th kept cut, from 0, and false at all before
  pub first : bad_window_length w (length Z.window) ≡ false → (line : ℕ) → line < length (lines_at 0 f) → (i : ℕ)
      → (find_call w line Z.bytes Z.window ≡ found i) ↔ FirstAt (line_of k f start Z line) cuts i
  -- and none exactly if it is false at every kept cut
  pub none : bad_window_length w (length Z.window) ≡ false → (line : ℕ) → line < length (lines_at 0 f)
      → (find_call w line Z.bytes Z.window ≡ absent)
      ↔ ((S : Cut) → Memᴰ S cuts → line_of k f start Z line S ≡ false)
  pub never_34 : (line : ℕ) → find_call w line Z.bytes Z.window ≢ turned_back state_number 0

abbrev pub FindIsExact : Type 0
FindIsExact = AfterEveryList FindExact
