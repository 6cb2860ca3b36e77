-- The order of keys as a statement.
use Rattle.std.specs.Prelude.{◌<◌, ◌≡◌, ◌⊎◌}
use Rattle.clocks.specs.declared.Key.{Key}

-- The same, as a statement.
abbrev pub Before : Key → Key → Type 0
Before a b = (a.process < b.process) ⊎ ((a.process ≡ b.process) × (a.count < b.count))
