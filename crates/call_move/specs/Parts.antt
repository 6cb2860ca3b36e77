-- The parts of a record and of a window (01, The window; 02 [6]): bytes, which both forms have alike, and counts, which
-- have w bytes each in the form of w. The order is the same in both forms.
use Rattle.std.specs.Prelude.{ℕ, zero, suc, List, [], ◌∷◌, ◌++◌}

pub data Part : Type 0 where
  -- so many bytes
  plain : (n : ℕ) → Part
  -- so many counts
  counts : (n : ℕ) → Part

-- The parts of so many things of one kind, one after the other.
unfoldable pub many_of : (n : ℕ) (ps : List Part) → List Part
many_of zero ps = []
many_of (suc n) ps = ps ++ many_of n ps

-- A pending event: its mask and seven bytes, its clock, its labels.
abbrev pub event_parts : List Part
event_parts = plain 8 ∷ counts 8 ∷ plain 8 ∷ []

-- A record: its first eight bytes, the taken counts, each process's last clock, the table, 32 pending events.
abbrev pub record_parts : List Part
record_parts = plain 8 ∷ counts 8 ∷ counts 64 ∷ plain 192 ∷ many_of 32 event_parts

-- A frontier: its counts; its labels, masks and values.
abbrev pub frontier_parts : List Part
frontier_parts = counts 8 ∷ plain 24 ∷ []

-- A window that has room for so many frontiers.
abbrev pub window_parts : (n : ℕ) → List Part
window_parts n = many_of n frontier_parts
