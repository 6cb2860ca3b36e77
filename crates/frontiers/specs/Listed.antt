-- The frontiers at the start of a window's bytes, as a list: what the code's `Frontiers` comes to.
use Rattle.std.specs.Prelude.{◌*◌, ◌≤◌, List, length}
use Rattle.frontiers.specs.declared.Frontier.{Frontier}
use Rattle.frontiers.specs.declared.listed.Frontiers.TheInside.{Inside}
use Rattle.frontiers.specs.Bytes.{frontier_length, frontiers}

-- The list.
abbrev pub listed : Inside → List Frontier
listed f = frontiers f.width f.bytes.now f.count

-- The bytes hold so many, and no window holds more.
pub record Stands (f : Inside) : Type 0 where
  pub most : f.count ≤ 1024
  pub within : f.count * frontier_length f.width ≤ length f.bytes.now
