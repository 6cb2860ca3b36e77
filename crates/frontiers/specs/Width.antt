-- The widths of a count: two bytes (01, The window), or four.
use Rattle.std.specs.Prelude.{ℕ, ◌%◌, ◌≤◌, ◌≡◌}

-- Two or four, in a form that arithmetic reads.
pub record Width (w : ℕ) : Type 0 where
  pub least : 2 ≤ w
  pub most : w ≤ 4
  pub even : w % 2 ≡ 0
