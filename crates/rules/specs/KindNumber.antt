-- The kinds of a table's lines by their numbers.
use Rattle.std.specs.Prelude.{ℕ}
use Rattle.rules.specs.declared.laying.Kind.{Kind}
use Rattle.rules.specs.declared.laying.Kind.TheVariants.{Proposition, Not, And, Ey, Es, As}

-- The number that a table has for a kind (pactl Line).
abbrev pub kind_number : (kind : Kind) → ℕ
kind_number Proposition = 0
kind_number Not = 1
kind_number And = 2
kind_number Ey = 3
kind_number Es = 4
kind_number As = 5
