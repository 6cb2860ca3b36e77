-- Room for frontiers in a buffer, as the contracts ask for it.
use Rattle.std.specs.Prelude.{ℕ, ◌+◌, ◌*◌, ◌≤◌, List, length}
use Rattle.frontiers.specs.Bytes.{frontier_length}

-- The first n frontiers stand within the bytes; more than 1024 there never are.
abbrev pub RoomFor : ℕ → ℕ → List ℕ → Type 0
RoomFor w n bytes = (n ≤ 1024) × (n * frontier_length w ≤ length bytes)

-- Frontier number i stands within the bytes.
abbrev pub PlaceFor : ℕ → ℕ → List ℕ → Type 0
PlaceFor w i bytes = (i ≤ 1024) × (i * frontier_length w + frontier_length w ≤ length bytes)
