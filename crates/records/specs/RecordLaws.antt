-- Places in the record, and fields from the parts that are read there.
use Rattle.std.specs.Prelude.{ℕ, ◌+◌, ◌*◌, ◌≤◌, ◌<◌, ◌-◌, ◌≡◌, List, get_or, take, drop}
use Rattle.std.proofs.Common.{arith, mul-le-mul_right, mul_comm}
use Rattle.std.proofs.Math.Nat.{mul-sub}
use Rattle.frontiers.specs.StoreLaws.{count_next}
use Rattle.codec.specs.Little.{number}
use Rattle.clocks.specs.Counts.{list_of, at}
use Rattle.clocks.specs.declared.Event.{Event}
use Rattle.frontiers.specs.BytesLaws.{count-within}
use Rattle.clocks.specs.stored.CountsLaws.{at-list_of}
use Rattle.records.specs.Record.{clocks_place, event_length, pending_place, record_length, pending_at, taken_counts}

-- ---- Places

-- A pending event ends within the record.
pub event-within : (w i : ℕ) → i < 32 → pending_place w i + event_length w ≤ record_length w
event-within w i l = omega (arith, count-within i 32 (event_length w) l)

-- The last clock of process p ends within the record's clocks.
pub clock_within : (w p : ℕ) → p < 8 → clocks_place w + p * (8 * w) + 8 * w ≤ 8 + 72 * w
clock_within w p l = omega (arith, count-within p 8 (8 * w) l)

pub clock_next : (w p : ℕ) → clocks_place w + (p + 1) * (8 * w) ≡ clocks_place w + p * (8 * w) + 8 * w
clock_next w p = omega (arith, count_next p (8 * w))

-- The last clock of process p.
abbrev pub clock_at : ℕ → List ℕ → ℕ → List ℕ
clock_at w s p = list_of 8 (λ q. number s (clocks_place w + p * (8 * w) + q * w) w)

-- A pending event from its parts, each read at its place.
pub event_parts_lem : (w i : ℕ) (s : List ℕ) (place mask : ℕ) (clock labels : List ℕ) → place ≡ pending_place w i → mask ≡ get_or s place 0
    → clock ≡ list_of 8 (λ p. number s (place + 8 + p * w) w) → labels ≡ take 8 (drop (place + 8 + 8 * w) s)
    → ◌≡◌ {A = Event} (record { mask = mask; clock = clock; labels = labels }) (pending_at w s i)
unfolding pending_at
event_parts_lem w i s place mask clock labels p m c l = rw (m, c, l, p)

-- The places of pending events grow, by an event's length each.
pub place_below : (w i n : ℕ) → i ≤ n → pending_place w i ≤ pending_place w n
place_below w i n l = omega (arith, mul-le-mul_right (event_length w) l)

pub place_next : (w i : ℕ) → pending_place w (i + 1) ≡ pending_place w i + event_length w
place_next w i = omega (arith, count_next i (event_length w))

pub events_between : (w i n : ℕ) → pending_place w n - pending_place w i ≡ (n - i) * event_length w
events_between w i n =
    let k = event_length w in
    rw (mul_comm (n - i) k, mul-sub k n i, mul_comm k n, mul_comm k i) (omega arith)

-- The taken count of process p.
pub taken_at : (w : ℕ) (s : List ℕ) (p : ℕ) → p < 8 → at (taken_counts w s) p ≡ number s (8 + p * w) w
unfolding taken_counts
taken_at w s p l = at-list_of 8 (λ q. number s (8 + q * w) w) p l
