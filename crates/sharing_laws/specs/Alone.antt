-- Events of a single process without messages (02 [8]).
use Rattle.std.specs.Prelude.{ℕ, ◌≡◌, true, false, List, ◌≢◌}
use Rattle.clocks.specs.declared.Event.{Event}
use Rattle.clocks.specs.Event.{involved, count}
use Rattle.clocks.specs.History.{In}

-- One process takes part, and the clock counts no event of another.
pub record Alone (e : Event) : Type 0 where
  pub process : ℕ
  pub takes_part : involved e process ≡ true
  pub no_other : (q : ℕ) → q ≢ process → involved e q ≡ false
  pub knows_none : (q : ℕ) → q ≢ process → count e q ≡ 0

-- Each of the events is one.
abbrev pub AllAlone : (es : List Event) → Type 0
AllAlone es = (e : Event) → In e es → Alone e
