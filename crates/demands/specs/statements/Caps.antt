-- The cap of the next take makes no difference where with no pending event more cuts are kept (01, The calls: take).
-- Proved in lists/Caps and forms/EveryWatch.
use Rattle.std.specs.Prelude.{ℕ, ◌≤◌, ◌<◌, ◌≡◌}
use mathlib.Core.List.{List, ◌∷◌, Memᴰ}
use Rattle.clocks.specs.declared.Event.{Event}
use Rattle.clocks.specs.Event.{Cut, Ready}
use Rattle.clocks.specs.History.{taken}
use Rattle.rules.specs.Formula.{Formula}
use Rattle.demands.specs.Ledger.{Ledger}
use Rattle.demands.specs.Run.{Watch, after, takes}
use Rattle.demands.specs.World.{Valid, KeptNumber}
use Rattle.demands.specs.EveryList.{RightLengths, next_take}
use Rattle.demands.specs.Written.{OfEveryWatch}

-- Some pending event is ready and has a true clock, and with it more than n cuts are kept.
abbrev pub WouldPass : (k n : ℕ) (L : Ledger) → Type 0
WouldPass k n L =
    (e : Event) × Memᴰ e L.pending × Ready e (taken L.history) × Valid L.history e
    × ((m : ℕ) × KeptNumber k L.closed (e ∷ L.history) m × (n < m))

-- Where there is none, all caps from n on make the same next take: in answer, in bytes, and in what becomes of the
-- events. (Where lengths are wrong, all caps do.)
abbrev pub CapsAlike : (w k : ℕ) (f : Formula) (start : Cut) (Z : Watch) → Type 0
CapsAlike w k f start Z =
    (n cap cap' more : ℕ) (scratch : List ℕ) → n ≤ cap → n ≤ cap'
    → (RightLengths w Z more scratch → WouldPass k n Z.ledger → ⊥)
    → (next_take w Z cap more scratch ≡ next_take w Z cap' more scratch)
    × (after w (takes cap more scratch) Z ≡ after w (takes cap' more scratch) Z)

abbrev pub CapsAreAlike : Type 0
CapsAreAlike = OfEveryWatch CapsAlike
