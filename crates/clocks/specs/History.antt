-- Histories: the events taken, newest first; consistent cuts; what precedes what (01, Clocks and cuts).
use Rattle.std.specs.Prelude.{ℕ, suc, ◌+◌, ◌≤◌, ◌≡◌, Bool, cond, ◌&&◌, T, eqb, get_or}
use mathlib.Core.List.{List, [], ◌∷◌, Memᴰ}
use Rattle.std.proofs.Math.Option.{Option, none, some}
use Rattle.clocks.specs.declared.Event.{Event}
use Rattle.clocks.specs.Event.{Cut, one, involved, count, Ready, apply}

-- How many of the events each process took part in (01: taken counts).
unfoldable pub taken : (es : List Event) → Cut
taken [] p = 0
taken (e ∷ ts) p = one (involved e p) + taken ts p

-- The event e, taken after ts, is process p's event number n.
unfoldable pub is_number : (e : Event) (ts : List Event) (p n : ℕ) → Bool
is_number e ts p n = involved e p && eqb n (suc (taken ts p))

-- Process p's event number n, counted from 1.
unfoldable pub event : (es : List Event) (p n : ℕ) → Option Event
event [] p n = none
event (e ∷ ts) p n = cond (is_number e ts p n) (some e) (event ts p n)

-- What is read off an event that may be missing: d where it is.
abbrev pub of_event : {A : Type 0} → (d : A) (v : Event → A) (e : Option Event) → A
of_event d v none = d
of_event d v (some e) = v e

-- The clock of process p's event number n; zeros where there is none.
unfoldable pub clock_of : (ts : List Event) (p n : ℕ) → Cut
clock_of ts p n q = of_event 0 (λ e. count e q) (event ts p n)

-- The mask of process p's event number n; 0 where there is none (01, The window: masks).
unfoldable pub mask_of : (ts : List Event) (p n : ℕ) → ℕ
mask_of ts p n = of_event 0 (λ e. e.mask) (event ts p n)

-- The propositions that hold at process p after its event number n; its start labels where there is none (01, The
-- window: labels).
unfoldable pub label_of : (start : Cut) (ts : List Event) (p n : ℕ) → ℕ
label_of start ts p n = of_event (start p) (λ e. get_or e.labels p 0) (event ts p n)

-- The clock of process p's last event; zeros at the start (01: last clocks).
unfoldable pub last_clock : (ts : List Event) (p : ℕ) → Cut
last_clock ts p = clock_of ts p (taken ts p)

-- A cut of the events taken that has, with an event, all that the event knows of (01: consistent cut).
pub record Consistent (ts : List Event) (S : Cut) : Type 0 where
  pub within : (p : ℕ) → S p ≤ taken ts p
  pub closed : (p q : ℕ) → clock_of ts p (S p) q ≤ S q

-- The event is one of those taken.
abbrev pub In : (e : Event) (ts : List Event) → Type 0
In e ts = Memᴰ e ts

-- Two histories have the same events inside a cut.
pub record Agree (S : Cut) (ts us : List Event) : Type 0 where
  pub events : (p n : ℕ) → n ≤ S p → event ts p n ≡ event us p n

-- One event of the history leads from the consistent cut S' to S (01: precedes).
pub record Precedes (ts : List Event) (S' S : Cut) : Type 0 where
  pub before : Consistent ts S'
  pub by : Event
  pub among : In by ts
  pub enabled : Ready by S'
  pub leads : S ≡ apply by S'

-- Some process takes part.
abbrev pub Occupied : (e : Event) → Type 0
Occupied e = (p : ℕ) × T (involved e p)
