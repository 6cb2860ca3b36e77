-- Others make no difference (02 [10]): before the first take in which a ready event would bring its window above its
-- share, two runs with the same shares and its own calls alike give a watch the same answers and bytes of its own,
-- however the others' calls differ. Proved in OthersTheorem.
use Rattle.std.specs.Prelude.{ℕ, ◌<◌, ◌≡◌, take}
use mathlib.Core.List.{List, Memᴰ}
use Rattle.clocks.specs.Counts.{at}
use Rattle.demands.specs.EveryList.{RightLengths}
use Rattle.demands.specs.statements.Caps.{WouldPass}
use Rattle.pool_runs.specs.Runs.{Member, has, IsSet, begun, pool_take, Numbered, AllPoolPassed}
use Rattle.pool_runs.specs.Turns.{own_calls, Turn, own_turns}

-- A take, lent right lengths, in which some pending event is ready and has a true clock, and the cuts kept with it are
-- more than the share: whether it fits or not. It goes by what the watch's own calls left alone.
abbrev pub MayPassShare : (w share : ℕ) (t : Turn) → Type 0
MayPassShare w share t =
    (more : ℕ) × (scratch : List ℕ) × (m : Member) × (t.call ≡ pool_take more scratch) × (t.found ≡ has m)
    × RightLengths w m.watch more scratch × WouldPass m.processes share m.watch.ledger

-- Of each of watch i's first n calls: what it found and left of the watch, record and window among it, the scratch that
-- it left, the watch's own number in the pool, and its answer.
abbrev pub OthersMakeNoDifference : Type 0
OthersMakeNoDifference =
    (w : ℕ) → 0 < w → (shares pool pool' : List ℕ) → IsSet shares pool → IsSet shares pool'
    → (cs ds : List Numbered) → AllPoolPassed w cs → AllPoolPassed w ds
    → (i : ℕ) → own_calls i cs ≡ own_calls i ds
    → (n : ℕ)
    → ((t : Turn) → Memᴰ t (take n (own_turns w i cs (begun shares pool))) → MayPassShare w (at shares i) t → ⊥)
    → take n (own_turns w i cs (begun shares pool)) ≡ take n (own_turns w i ds (begun shares pool'))
