-- Pending events in the record's bytes: they come back, and one is put in or left out as in the list.
use Rattle.std.specs.Prelude.{ℕ, suc, ◌+◌, ◌-◌, ◌*◌, ◌<◌, ◌≤◌, ◌≡◌, length, get_or, take, drop, set}
use Rattle.std.proofs.Common.{arith, add-one}
use Rattle.std.proofs.Math.Path.{refl, sym}
use mathlib.Core.List.{List, [], ◌++◌}
use Rattle.std.proofs.lemmas.List.Edits.{sets}
use Rattle.clocks.specs.declared.Event.{Event}
use Rattle.frontiers.specs.ListLaws.{place_member}
use Rattle.clocks.specs.stored.CountsLaws.{filled}
use Rattle.demands.specs.bytes.PlaceLaws.{zeros, drop_behind, sets_behind}
use Rattle.demands.specs.bytes.BlockLaws.{blocks, events_bytes-blocks, block_apart, length_before, Even}
use Rattle.records.specs.Record.{event_length, pending_place, pending_at, pending_events, event_bytes, inserted, removed}
use Rattle.demands.specs.bytes.RecordBlocks.{front_bytes, record_bytes-blocks, even_pending, length-front_bytes, pending_block}
use Rattle.demands.specs.Status.{Status, record_bytes, insert_at, remove_at}
use Rattle.demands.specs.bytes.RecordLaws.{pending_count-record_bytes}
use Rattle.demands.specs.bytes.StoredLaws.{event_from_bytes, length-event_bytes}
use Rattle.demands.specs.bytes.RoomLaws.{in_room, part-in_room, inserted-in_room, removed-in_room}
use Rattle.demands.specs.bytes.InsertLaws.{length-insert_at, length-remove_at}
use Rattle.demands.specs.bytes.Sized.{Sized, Storable, with_pending}

-- An event for the places past the end.
none : Event
none = record { mask = 0; clock = []; labels = [] }

module _ (w : ℕ) (t : Status) (z : Sized w t) where
  pub pending_at-record_bytes : (i : ℕ) (d : Event) → i < length t.pending
      → pending_at w (record_bytes w t) i ≡ get_or t.pending i d
  unfolding pending_at
  pending_at-record_bytes i d l =
      rw (record_bytes-blocks w t, events_bytes-blocks w es, block_apart (event_bytes w) es i d l front rest)
      (event_from_bytes w (get_or es i d) (z.storable (get_or es i d) (place_member es i d l))
      (front ++ blocks (event_bytes w) (take i es)) (blocks (event_bytes w) (drop (suc i) es) ++ rest) (pending_place w i)
      (length_before (event_bytes w) (event_length w) es (even_pending w es z.storable) i (omega arith) front
      (200 + 72 * w) (length-front_bytes w t (length es) z.short)))
    where
      es : List Event
      es = t.pending

      front : List ℕ
      front = front_bytes w t (length es)

      rest : List ℕ
      rest = zeros ((32 - length es) * event_length w)

  pub pending_events-record_bytes : pending_events w (record_bytes w t) ≡ t.pending
  unfolding pending_events
  pending_events-record_bytes =
      rw (pending_count-record_bytes w t)
      (sym (filled (length t.pending) (pending_at w (record_bytes w t)) none t.pending refl
      (λ i l. sym (pending_at-record_bytes i none l))))

-- ---- One put in or left out

-- The pending events' block, as blocks in a room of 32 places.
block_in_room : (w : ℕ) (es : List Event) → pending_block w es ≡ in_room (event_bytes w) (event_length w) 32 es
block_in_room w es = rw (events_bytes-blocks w es)

-- Other pending events behind the front, and their number, are another record.
with_pending_front : (w : ℕ) (t : Status) (n : ℕ) (es : List Event)
    → set (front_bytes w t n ++ pending_block w es) 2 (length es) ≡ record_bytes w (with_pending t es)
unfolding record_bytes
with_pending_front w t n es = refl

module _ (w : ℕ) (t : Status) (z : Sized w t) where
  even : Even (event_bytes w) (event_length w) t.pending
  even = even_pending w t.pending z.storable

  long : length (front_bytes w t (length t.pending)) ≡ 200 + 72 * w
  long = length-front_bytes w t (length t.pending) z.short

  -- The bytes of the events from number i on.
  part_pending : (i : ℕ) → i ≤ length t.pending
      → take ((length t.pending - i) * event_length w) (drop (pending_place w i) (record_bytes w t))
      ≡ blocks (event_bytes w) (drop i t.pending)
  part_pending i l =
      rw (
        record_bytes-blocks w t,
        drop_behind (front_bytes w t (length t.pending)) (pending_block w t.pending) (200 + 72 * w) long
            (i * event_length w),
        block_in_room w t.pending,
      )
      (part-in_room (event_bytes w) (event_length w) 32 t.pending even i l)

  -- Bytes stored from event number i on.
  sets_pending : (i : ℕ) (xs : List ℕ) (es : List Event)
      → sets (in_room (event_bytes w) (event_length w) 32 t.pending) (i * event_length w) xs
      ≡ in_room (event_bytes w) (event_length w) 32 es
      → set (sets (record_bytes w t) (pending_place w i) xs) 2 (length es) ≡ record_bytes w (with_pending t es)
  sets_pending i xs es h =
      rw (
        record_bytes-blocks w t,
        sets_behind (front_bytes w t (length t.pending)) (pending_block w t.pending) (200 + 72 * w) long
            (i * event_length w) xs,
        block_in_room w t.pending,
        h,
        ← block_in_room w es,
      )
      (with_pending_front w t (length t.pending) es)

  pub inserted-record_bytes : (i : ℕ) (e : Event) → i ≤ length t.pending → length t.pending < 32 → Storable w e
      → inserted w (record_bytes w t) i e ≡ record_bytes w (with_pending t (insert_at i e t.pending))
  unfolding inserted
  inserted-record_bytes i e l free s =
      rw (pending_count-record_bytes w t, part_pending i l, ← length-insert_at i e t.pending)
      (sets_pending i (event_bytes w e ++ blocks (event_bytes w) (drop i t.pending)) (insert_at i e t.pending)
      (inserted-in_room (event_bytes w) (event_length w) 32 t.pending even i e l free (length-event_bytes w e s)))

  pub removed-record_bytes : (i : ℕ) → i < length t.pending
      → removed w (record_bytes w t) i ≡ record_bytes w (with_pending t (remove_at i t.pending))
  unfolding removed
  removed-record_bytes i l =
      rw (pending_count-record_bytes w t, part_pending (i + 1) (omega arith), ← length-remove_at i t.pending l, add-one)
      (sets_pending i (blocks (event_bytes w) (drop (suc i) t.pending) ++ zeros (event_length w))
      (remove_at i t.pending)
      (removed-in_room (event_bytes w) (event_length w) 32 t.pending even i none l z.few))
