-- How many frontiers a shared take may use, in the request's words (02 [10]), on all bytes. Proved in SharedFitLaws.
use Rattle.std.specs.Prelude.{ℕ, ◌-◌, ◌≤◌, List, ◌↔◌, length}
use Rattle.refusals.specs.Refusals.{room_of}
use Rattle.pool.specs.Pool.{share_at, unpromised, used_by_others, allowance}
use Rattle.call_take.specs.Take.{allowed_of}

-- A window of n frontiers is allowed exactly if the lent bytes hold it, and it passes its watch's share by no more than
-- the unpromised frontiers that no other watch is using.
abbrev pub AllowedIsExact : Type 0
AllowedIsExact =
    (w : ℕ) (window pool : List ℕ) (i n : ℕ)
    → (n ≤ allowed_of w (allowance pool i) window)
    ↔ ((n ≤ room_of w (length window)) × (n - share_at pool i ≤ unpromised pool - used_by_others pool i))
