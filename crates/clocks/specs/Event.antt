-- Events and cuts: when an event may be taken, and where it leads (01, Clocks and cuts).
use Rattle.std.specs.Prelude.{ℕ, ◌+◌, ◌-◌, ◌≤◌, ◌≡◌, Bool, true, false, get_or}
use Rattle.codec.specs.Bit.{bit}
use Rattle.clocks.specs.declared.Event.{Event}

-- A count of events for each process: a cut, a clock, or the taken counts.
abbrev pub Cut : Type 0
Cut = ℕ → ℕ

-- 1 for a process that takes part, 0 for another.
abbrev pub one : (b : Bool) → ℕ
one true = 1
one false = 0

-- Process p took part in the event: bit p of its mask is set (01: involved desk).
unfoldable pub involved : (e : Event) (p : ℕ) → Bool
involved e p = bit e.mask p

-- The event's clock at process p.
unfoldable pub count : (e : Event) → Cut
count e p = get_or e.clock p 0

-- What one process asks of an event with count n there, at a cut with count c there.
abbrev pub ReadyAt : (b : Bool) (n c : ℕ) → Type 0
ReadyAt true n c = n ≡ c + 1
ReadyAt false n c = n ≤ c

-- The event may be taken next at a cut: it is the next one of each process that takes part, and it knows of no event of
-- another process beyond the cut (01: ready, with the taken counts; enabled, with a cut's).
pub record Ready (e : Event) (S : Cut) : Type 0 where
  pub each : (p : ℕ) → ReadyAt (involved e p) (count e p) (S p)

-- Where the event leads from a cut: 1 more at each process that takes part (01: taking it).
unfoldable pub apply : (e : Event) (S : Cut) → Cut
apply e S p = one (involved e p) + S p

-- The cut less an event of which only the mask is known: 1 less at each process in it.
unfoldable pub minus : (m : ℕ) (S : Cut) → Cut
minus m S p = S p - one (bit m p)

-- The cut less the event: 1 less at each process that takes part.
unfoldable pub less : (e : Event) (S : Cut) → Cut
less e S p = S p - one (involved e p)

-- The event's clock before the event itself: what it knows of.
unfoldable pub lowered : (e : Event) → Cut
lowered e = less e (count e)
