-- What the line that opens gives: the number of processes and the room in frontiers, or its fault by number and place.
use Rattle.std.specs.Prelude.{ℕ}

pub data WatchLine : Type 0 where
  Watch : (k room : ℕ) → WatchLine
  Refused : (number place : ℕ) → WatchLine
