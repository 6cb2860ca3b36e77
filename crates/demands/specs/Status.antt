-- A record decoded, and the one list of bytes that such a record has.
use Rattle.std.specs.Prelude.{ℕ, suc, ◌-◌, ◌*◌, List, [], ◌∷◌, ◌++◌, length, take, drop, replicate}
use Rattle.pactl.specs.declared.Line.{Line}
use Rattle.clocks.specs.declared.Event.{Event}
use Rattle.codec.specs.Little.{bytes_of}
use Rattle.frontiers.specs.Bytes.{count_bytes}
use Rattle.pactl.specs.Table.{table_bytes}
use Rattle.clocks.specs.Event.{Cut}
use Rattle.clocks.specs.Counts.{list_of}
use Rattle.records.specs.Record.{event_length, events_bytes}

-- What a record says: the number of processes, the table, the closed processes, the frontiers kept, the taken counts,
-- each process's last clock, the pending events in their order.
pub record Status : Type 0 where
  pub processes : ℕ
  pub table : List Line
  pub closed : ℕ
  pub kept : ℕ
  pub counts : Cut
  pub clocks : ℕ → Cut
  pub pending : List Event

-- The bytes of eight clocks.
unfoldable pub clock_bytes : (w : ℕ) → (lists : List (List ℕ)) → List ℕ
clock_bytes w [] = []
clock_bytes w (c ∷ cs) = count_bytes w c ++ clock_bytes w cs

-- The record's bytes; unused bytes are 0 (01, The window: the record).
unfoldable pub record_bytes : (w : ℕ) (t : Status) → List ℕ
record_bytes w t =
    t.processes ∷ length t.table ∷ length t.pending ∷ t.closed ∷ bytes_of 4 t.kept
    ++ count_bytes w (list_of 8 t.counts)
    ++ clock_bytes w (list_of 8 (λ p. list_of 8 (t.clocks p)))
    ++ (table_bytes t.table ++ replicate (192 - 3 * length t.table) 0)
    ++ (events_bytes w t.pending ++ replicate ((32 - length t.pending) * event_length w) 0)

-- ---- What the calls change

-- A list with an element put in at a place, or the element at a place left out.
unfoldable pub insert_at : {A : Type 0} → (i : ℕ) (x : A) (xs : List A) → List A
insert_at i x xs = take i xs ++ (x ∷ drop i xs)

unfoldable pub remove_at : {A : Type 0} → (i : ℕ) (xs : List A) → List A
remove_at i xs = take i xs ++ drop (suc i) xs
