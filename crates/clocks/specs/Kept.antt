-- Which cuts a window keeps (01, The window: dropped; 02 [5]), as the laws of cuts have it.
use Rattle.std.specs.Prelude.{ℕ, ◌<◌, ◌≡◌, Bool, true, List, ◌⊎◌, T}
use Rattle.clocks.specs.declared.Event.{Event}
use Rattle.clocks.specs.History.{taken, Consistent}
use Rattle.clocks.specs.Event.{Cut}

-- Some open process among the first k has all its taken events in the cut.
abbrev pub Complete : (k : ℕ) (opened : ℕ → Bool) (ts : List Event) (S : Cut) → Type 0
Complete k opened ts S = (p : ℕ) × (p < k) × T (opened p) × (S p ≡ taken ts p)

-- The cut is kept: such a process is there, or it is the largest cut. (With all processes open that is 01's: a cut is
-- dropped when every process has a taken event beyond it.)
abbrev pub Kept : (k : ℕ) (opened : ℕ → Bool) (ts : List Event) (S : Cut) → Type 0
Kept k opened ts S = Complete k opened ts S ⊎ (S ≡ taken ts)

-- No process is closed.
abbrev pub all_open : (p : ℕ) → Bool
all_open p = true

-- A consistent cut that is kept.
pub record KeptCut (k : ℕ) (opened : ℕ → Bool) (ts : List Event) (S : Cut) : Type 0 where
  pub consistent : Consistent ts S
  pub kept : Kept k opened ts S

-- Every process has a taken event beyond the cut (01: dropped).
abbrev pub Dropped : (k : ℕ) (ts : List Event) (S : Cut) → Type 0
Dropped k ts S = (p : ℕ) → p < k → S p < taken ts p

-- ---- Source 000, section 3
