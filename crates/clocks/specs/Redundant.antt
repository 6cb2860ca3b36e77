-- The condition of source 000, section 3, for dropping a cut: sufficient, and compared with what a window keeps.
use Rattle.std.specs.Prelude.{ℕ, zero, suc, Bool, ◌&&◌, ◌||◌, List, length}
use Rattle.clocks.specs.declared.Event.{Event}
use Rattle.clocks.specs.Event.{Cut, involved, apply}
use Rattle.clocks.specs.Bounded.{all_below, any_of}
use Rattle.clocks.specs.Tested.{ready}

-- Each of the k processes takes part in a taken event that is enabled at the cut.
unfoldable pub served : (k : ℕ) (ts : List Event) (S : Cut) → Bool
served k ts S = all_below k (λ p. any_of (λ f. involved f p && ready k f S) ts)

-- The source's sufficient condition for dropping, followed at most d events ahead: every process is served, or an
-- enabled event leads to a cut that meets the condition.
unfoldable pub redundant_within : (n k : ℕ) (ts : List Event) (S : Cut) → Bool
redundant_within zero k ts S = served k ts S
redundant_within (suc d) k ts S = served k ts S || any_of (λ f. ready k f S && redundant_within d k ts (apply f S)) ts

-- ... as far ahead as there are events.
unfoldable pub redundant : (k : ℕ) (ts : List Event) (S : Cut) → Bool
redundant k ts S = redundant_within (length ts) k ts S
