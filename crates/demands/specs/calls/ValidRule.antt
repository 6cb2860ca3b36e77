-- The rule for valid clocks of a watch grants what the theory asks of such a rule.
use Rattle.std.specs.Prelude.{ℕ}
use Rattle.clocks.specs.Valid.{ClockRule}
use Rattle.clocks.specs.validity.KnownClock.{known_rule}
use Rattle.demands.specs.World.{Valid}

pub valid_rule : (k : ℕ) → ClockRule k Valid
valid_rule k = known_rule k
