-- The rule for valid clocks grants what the theory asks of such a rule: an event knows of a consistent cut, and whether
-- it does is decided by the events inside that cut.
use Rattle.std.specs.Prelude.{ℕ}
use Rattle.clocks.specs.Event.{lowered}
use Rattle.clocks.specs.Valid.{Known, ClockRule}
use Rattle.clocks.specs.cuts.Agree.{agree_consistent}

pub known_rule : (k : ℕ) → ClockRule k Known
known_rule k = record {
  sound = λ ts e h t. t.true_clock;
  local = λ ts us e h i r s a v. agree_consistent ts us (lowered e) a v;
}
