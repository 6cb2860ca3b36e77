-- The record's bytes (01, The window: the record), for counts of w bytes: where each field stands, how it is read and
-- how it is set.
use Rattle.std.specs.Prelude.{ℕ, zero, suc, ◌+◌, ◌-◌, ◌*◌, Bool, cond, List, [], ◌∷◌, ◌++◌, get_or, take, drop, set, replicate}
use Rattle.std.proofs.lemmas.List.Edits.{sets}
use Rattle.pactl.specs.declared.Line.{Line}
use Rattle.clocks.specs.declared.Event.{Event}
use Rattle.codec.specs.Little.{number, put}
use Rattle.frontiers.specs.Bytes.{count_bytes}
use Rattle.pactl.specs.TableBytes.{lines_of}
use Rattle.clocks.specs.Event.{involved, apply}
use Rattle.clocks.specs.Counts.{list_of, at}
use Rattle.clocks.specs.Tested.{ready}

-- ---- Places

abbrev pub taken_place : ℕ
taken_place = 8

abbrev pub clocks_place : (w : ℕ) → ℕ
clocks_place w = 8 + 8 * w

abbrev pub table_place : (w : ℕ) → ℕ
table_place w = 8 + 72 * w

-- A pending event's length: mask, seven zeros, clock, labels (01: held events).
abbrev pub event_length : (w : ℕ) → ℕ
event_length w = 8 * w + 16

abbrev pub pending_place : (w i : ℕ) → ℕ
pending_place w i = 200 + 72 * w + i * event_length w

abbrev pub record_length : (w : ℕ) → ℕ
record_length w = pending_place w 32

-- ---- Fields

-- The number of processes.
abbrev pub process_count : (s : List ℕ) → ℕ
process_count s = get_or s 0 0

-- The number of the table's lines.
abbrev pub line_total : (s : List ℕ) → ℕ
line_total s = get_or s 1 0

-- The number of pending events (01: held).
abbrev pub pending_count : (s : List ℕ) → ℕ
pending_count s = get_or s 2 0

-- The closed processes, a bit for each (02 [5]).
abbrev pub closed_mask : (s : List ℕ) → ℕ
closed_mask s = get_or s 3 0

-- The number of kept frontiers.
abbrev pub kept_count : (s : List ℕ) → ℕ
kept_count s = number s 4 4

unfoldable pub taken_counts : (w : ℕ) (s : List ℕ) → List ℕ
taken_counts w s = list_of 8 (λ p. number s (taken_place + p * w) w)

unfoldable pub last_clocks : (w : ℕ) (s : List ℕ) → List (List ℕ)
last_clocks w s = list_of 8 (λ p. list_of 8 (λ q. number s (clocks_place w + p * (8 * w) + q * w) w))

-- The rule's table, as many lines as the record says.
unfoldable pub table_lines : (w : ℕ) (s : List ℕ) → List Line
table_lines w s = lines_of (drop (table_place w) s) (line_total s)

-- The event whose bytes begin at a place.
abbrev pub event_from : (w : ℕ) (s : List ℕ) (place : ℕ) → Event
event_from w s place = record {
  mask = get_or s place 0;
  clock = list_of 8 (λ p. number s (place + 8 + p * w) w);
  labels = take 8 (drop (place + 8 + 8 * w) s);
}

-- Pending event number i.
unfoldable pub pending_at : (w : ℕ) (s : List ℕ) (i : ℕ) → Event
pending_at w s i = event_from w s (pending_place w i)

unfoldable pub pending_events : (w : ℕ) (s : List ℕ) → List Event
pending_events w s = list_of (pending_count s) (pending_at w s)

-- ---- By the fields

-- The event is ready, by the record's bytes.
unfoldable pub ready_in : (w : ℕ) (s : List ℕ) (e : Event) → Bool
ready_in w s e = ready 8 e (at (taken_counts w s))

-- ---- Setting

-- The bytes of a pending event.
unfoldable pub event_bytes : (w : ℕ) (e : Event) → List ℕ
event_bytes w e = e.mask ∷ replicate 7 0 ++ count_bytes w e.clock ++ e.labels

-- The bytes of events, one behind the other.
unfoldable pub events_bytes : (w : ℕ) (es : List Event) → List ℕ
events_bytes w [] = []
events_bytes w (e ∷ es) = event_bytes w e ++ events_bytes w es

-- Event e laid down as number i of the pending events, those from i on moved up by one.
unfoldable pub inserted : (w : ℕ) (s : List ℕ) (i : ℕ) (e : Event) → List ℕ
inserted w s i e =
    let moved = take ((pending_count s - i) * event_length w) (drop (pending_place w i) s) in
    set (sets s (pending_place w i) (event_bytes w e ++ moved)) 2 (pending_count s + 1)

-- Pending event number i gone, those behind it moved down by one, the freed place 0.
unfoldable pub removed : (w : ℕ) (s : List ℕ) (i : ℕ) → List ℕ
removed w s i =
    let moved = take ((pending_count s - (i + 1)) * event_length w) (drop (pending_place w (i + 1)) s) in
    set (sets s (pending_place w i) (moved ++ replicate (event_length w) 0)) 2 (pending_count s - 1)

-- The clock of an event as the last one of each of its processes among the first n.
unfoldable pub clocks_set : (w n : ℕ) (s : List ℕ) (e : Event) → List ℕ
clocks_set w zero s e = s
clocks_set w (suc p) s e = cond (involved e p) (sets (clocks_set w p s e) (clocks_place w + p * (8 * w)) (count_bytes w e.clock)) (clocks_set w p s e)

-- The closed processes, and the number of frontiers kept.
unfoldable pub closed_set : (s : List ℕ) (closed kept : ℕ) → List ℕ
closed_set s closed kept = put (set s 3 closed) 4 4 kept

-- The taken counts with the event, its clock as its processes' last, and the number of frontiers kept.
unfoldable pub counted : (w : ℕ) (s : List ℕ) (e : Event) (kept : ℕ) → List ℕ
counted w s e kept = clocks_set w 8 (sets (put s 4 4 kept) taken_place (count_bytes w (list_of 8 (apply e (at (taken_counts w s)))))) e
