-- What is true of sharings (02 [8]): the frontiers kept are a product less another that is no larger, and an even
-- sharing keeps the most. Proved in Best.
use Rattle.std.specs.Prelude.{ℕ, suc, ◌+◌, ◌≤◌, ◌<◌, ◌≡◌, List, map, length}
use Rattle.call_busiest.specs.Sharing.{shares, total, product, sharing_keeps}

-- The formula without its subtraction.
abbrev pub KeptIsProducts : Type 0
KeptIsProducts = (cs : List ℕ) → sharing_keeps cs + product cs ≡ product (map suc cs)

-- An even sharing shares out all n events among the k processes, and no other sharing of up to as many keeps more.
pub record EvenSharing (k n : ℕ) : Type 0 where
  pub of_processes : length (shares k n) ≡ k
  pub of_events : total (shares k n) ≡ n
  pub best : (cs : List ℕ) → length cs ≡ k → total cs ≤ n → sharing_keeps cs ≤ sharing_keeps (shares k n)

abbrev pub EvenIsBest : Type 0
EvenIsBest = (k n : ℕ) → 0 < k → EvenSharing k n
