-- The conditions of the refusals that a record, a window or the state of a watch meets, each in the papers' words (01,
-- Turned back; 02 [5]).
use Rattle.std.specs.Prelude.{ℕ, ◌*◌, ◌/◌, ◌%◌, Bool, not, ◌&&◌, ◌||◌, List, leb, ltb, eqb}
use Rattle.clocks.specs.declared.Event.{Event}
use Rattle.codec.specs.Bit.{bit}
use Rattle.frontiers.specs.Bytes.{frontier_length}
use Rattle.pactl.specs.Table.{good_table}
use Rattle.clocks.specs.Event.{count, Cut, involved}
use Rattle.clocks.specs.Bounded.{any_below, any_of}
use Rattle.records.specs.Record.{record_length, process_count, line_total, pending_count, kept_count, table_lines}

-- 6: a record of a wrong length.
unfoldable pub bad_record_length : (w n : ℕ) → Bool
bad_record_length w n = not (eqb n (record_length w))

-- 6: a window that has not 1 to 1,024 whole frontiers.
unfoldable pub bad_window_length : (w n : ℕ) → Bool
bad_window_length w n = ltb n (frontier_length w) || (ltb (1024 * frontier_length w) n || not (eqb (n % frontier_length w) 0))

-- How many frontiers a lent window has room for.
unfoldable pub room_of : (w n : ℕ) → ℕ
room_of w n = n / frontier_length w

-- 5: a number of processes that is not 1 to 8.
unfoldable pub bad_processes : (k : ℕ) → Bool
bad_processes k = eqb k 0 || ltb 8 k

-- 34: k not 1 to 8, more than 32 pending, lines not 1 to 64, kept not 1 to 1,024 or above the room, or a bad table
-- line. (Offer is lent no window: there the room is 1,024.)
unfoldable pub bad_state : (w room : ℕ) (s : List ℕ) → Bool
bad_state w room s =
    bad_processes (process_count s)
    || (ltb 32 (pending_count s)
    || (eqb (line_total s) 0
    || (ltb 64 (line_total s)
    || (eqb (kept_count s) 0
    || (ltb 1024 (kept_count s)
    || (ltb room (kept_count s)
    || not (good_table (process_count s) (table_lines w s))))))))

-- 31: a process that takes part has this count taken already.
unfoldable pub already_taken : (e : Event) (t : Cut) → Bool
already_taken e t = any_below 8 (λ p. involved e p && leb (count e p) (t p))

-- Two events have the same count at a common process.
unfoldable pub conflicts : (e f : Event) → Bool
conflicts e f = any_below 8 (λ p. (involved e p && involved f p) && eqb (count e p) (count f p))

-- 32: a pending event has the same count at a common process.
unfoldable pub conflicting : (e : Event) (fs : List Event) → Bool
conflicting e fs = any_of (conflicts e) fs

-- 41: a process that the watch has not, or that is closed already (02 [5]).
unfoldable pub not_open : (k closed p : ℕ) → Bool
not_open k closed p = leb k p || bit closed p

-- 42, of a close: a pending event names the process (02 [5]).
unfoldable pub named_by : (p : ℕ) (es : List Event) → Bool
named_by p es = any_of (λ e. involved e p) es

-- 42, of an offer: the event names a closed process (02 [5]).
unfoldable pub names_closed : (closed : ℕ) (e : Event) → Bool
names_closed closed e = any_below 8 (λ p. involved e p && bit closed p)
