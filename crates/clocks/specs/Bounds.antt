-- The cut of zeros, and the larger and the smaller of two cuts, count by count.
use Rattle.std.specs.Prelude.{max, min}
use Rattle.clocks.specs.Event.{Cut}

abbrev pub upper : Cut → Cut → Cut
upper S R p = max (S p) (R p)

abbrev pub lower : Cut → Cut → Cut
lower S R p = min (S p) (R p)

-- The cut of zeros.
abbrev pub zeros : Cut
zeros p = 0
