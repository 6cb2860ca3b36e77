-- What a page after a list of calls answers and shows (02 [7]): a row for each kept cut, in the window's order, with
-- its counts and PaCTL's truth of the rule there; and that watches which end alike print alike. Proved in lists/Page
-- and forms/PagesAlike.
use Rattle.std.specs.Prelude.{ℕ, ◌*◌, ◌≤◌, ◌<◌, ◌≡◌, true, false, List, ◌∷◌, ◌++◌, map, ◌↔◌, ◌≢◌, length, drop}
use Rattle.frontiers.specs.Bytes.{frontiers}
use Rattle.pactl.specs.Truth.{holds}
use Rattle.rules.specs.Formula.{Formula, meaning}
use Rattle.clocks.specs.Event.{Cut}
use Rattle.records.specs.Record.{kept_count}
use Rattle.refusals.specs.Refusals.{bad_window_length}
use Rattle.answers.specs.Result.{refused, gives}
use Rattle.call_page.specs.Page.{row_length, Paged, page_call}
use Rattle.call_page.specs.PageExact.{RowSays}
use Rattle.demands.specs.Run.{Watch}
use Rattle.demands.specs.World.{KeptCuts, model_after, frontier_after}
use Rattle.demands.specs.EveryList.{AfterEveryList, EightBytes, EndsQuiet, SameAccepted, SameClosed}
use Rattle.demands.specs.Written.{Written}
use Rattle.numbers.specs.Refusal.{length_number, short_page_number, state_number}

-- What the next page, in a buffer of these bytes, answers and leaves.
abbrev pub next_page : (w : ℕ) (Z : Watch) (page : List ℕ) → Paged
next_page w Z page = page_call w Z.bytes Z.window page

pub record PageShows (w k : ℕ) (f : Formula) (start : Cut) (Z : Watch) : Type 0 where
  -- the kept cuts; the window's bytes have their frontiers in this order, one at each place
  pub cuts : List Cut
  pub cuts_are : KeptCuts k Z.ledger.closed Z.ledger.history cuts
  pub in_window : frontiers w Z.window (kept_count Z.bytes)
      ≡ map (frontier_after k f start Z.ledger.history) cuts
  -- the answers: 6 for a window of a wrong length, 44 for too short a page, else the number of cuts; 34 never comes
  pub wrong_length : (page : List ℕ)
      → ((next_page w Z page).answer ≡ refused length_number) ↔ (bad_window_length w (length Z.window) ≡ true)
  pub too_short : bad_window_length w (length Z.window) ≡ false → (page : List ℕ)
      → ((next_page w Z page).answer ≡ refused short_page_number) ↔ (length page < row_length * length cuts)
  pub printed : bad_window_length w (length Z.window) ≡ false → (page : List ℕ) (n : ℕ)
      → ((next_page w Z page).answer ≡ gives n) ↔ ((n ≡ length cuts) × (row_length * length cuts ≤ length page))
  pub never_34 : (page : List ℕ) → (next_page w Z page).answer ≢ refused state_number
  -- the row with i rows before it is that of the cut with i cuts before it, for counts of up to four bytes: it shows
  -- the cut's counts, and of the rule PaCTL's truth there
  pub each_row : w ≤ 4 → (page : List ℕ) (n : ℕ) → (next_page w Z page).answer ≡ gives n
      → (earlier : List Cut) (S : Cut) (later : List Cut) → cuts ≡ earlier ++ (S ∷ later)
      → RowSays k S (holds (model_after k f start Z.ledger.history) (meaning f) S) (next_page w Z page).page
      (length earlier)
  -- and there is no other: after them all is as it was
  pub rest_stays : w ≤ 4 → (page : List ℕ) (n : ℕ) → (next_page w Z page).answer ≡ gives n
      → drop (row_length * length cuts) (next_page w Z page).page ≡ drop (row_length * length cuts) page

abbrev pub PageShowsKept : Type 0
PageShowsKept = AfterEveryList PageShows

-- Two watches of one form, whatever calls and moves wrote them, that accepted the same events, closed the same
-- processes and ended with "nothing ready" (demand 3): their pages, in a buffer of the same bytes, are the same.
abbrev pub PagesAlike : Type 0
PagesAlike =
    (text : List ℕ) (k : ℕ) (labels : List ℕ) → EightBytes labels
    → (w : ℕ) (Y Z : Watch) → Written text k labels w Y → Written text k labels w Z
    → EndsQuiet Y → EndsQuiet Z → SameAccepted Y Z → SameClosed Y Z
    → bad_window_length w (length Y.window) ≡ false → bad_window_length w (length Z.window) ≡ false
    → (page : List ℕ) → next_page w Y page ≡ next_page w Z page
