-- What the writers of the record lay down, store by store.
use Prim.Native.Nat.{ℕ, ◌+◌, ◌*◌, ◌-◌, ◌≤◌, ◌<◌, ◌^◌}
use native.Mathlib.Numerals.{add-one}
use native.Mathlib.Omega.{arith}
use native.Mathlib.Decide.{dec_lt}
use mathlib.Core.Path.{◌≡◌, refl, ap, ◌∙◌}
use mathlib.Core.Bool.{true, false, Bool}
use mathlib.Core.List.{List, [], ◌∷◌, ◌++◌}
use lib.Seq.{sets, length-take-le}
use lib.ListN.{length, take, drop, set, replicate, length-append, length-drop}
use lib.Dec.{T, eqb→eq}
use Rattle.clocks.specs.declared.Event.{Event}
use Rattle.codec.specs.Bit.{bit}
use Rattle.frontiers.specs.Bytes.{count_bytes}
use Rattle.clocks.specs.Event.{involved, count, one, apply}
use Rattle.codec.specs.SetsLaws.{sets-append, sets_comm}
use Rattle.frontiers.specs.BytesLaws.{length-count_bytes}
use Rattle.codec.specs.PutLaws.{number_lt}
use Rattle.codec.specs.Little.{Bytes}
use Rattle.codec.specs.LittleLaws.{pow_256_pos}
use Rattle.clocks.specs.Counts.{at, list_of}
use Rattle.clocks.specs.stored.BoundedLaws.{all_e}
use Rattle.clocks.specs.Tested.{ready_at, ready}
use Rattle.clocks.specs.stored.CountsLaws.{length-list_of, at-list_of, at_beyond}
use Rattle.records.specs.Record.{clocks_place, clocks_set, event_length, pending_place, record_length, pending_count, event_bytes, inserted, removed, taken_counts, ready_in}
use Rattle.records.specs.RecordLaws.{event-within, place_below, place_next, events_between, taken_at}

-- ---- The last clocks

pub clocks_none : (w : ℕ) (s : List ℕ) (e : Event) → s ≡ clocks_set w 0 s e
unfolding clocks_set
clocks_none w s e = refl

pub clocks_next : (w p : ℕ) (s : List ℕ) (e : Event) → bit e.mask p ≡ true
    → sets (clocks_set w p s e) (clocks_place w + p * (8 * w)) (count_bytes w e.clock) ≡ clocks_set w (p + 1) s e
unfolding clocks_set involved
clocks_next w p s e h = rw (add-one, h)

pub clocks_skip : (w p : ℕ) (s : List ℕ) (e : Event) → bit e.mask p ≡ false → clocks_set w p s e ≡ clocks_set w (p + 1) s e
unfolding clocks_set involved
clocks_skip w p s e h = rw (add-one, h)

-- ---- Pending events

-- A run stored behind another.
behind : (s : List ℕ) (a : ℕ) (front : List ℕ) (n : ℕ) (back : List ℕ) → a + length front ≡ n → sets (sets s a front) n back ≡ sets s a (front ++ back)
behind s a front n back e = rw (← e) (sets-append s a front back)

pub length-event_bytes : (w : ℕ) (e : Event) → length e.clock ≡ 8 → length e.labels ≡ 8 → length (event_bytes w e) ≡ event_length w
unfolding event_bytes
length-event_bytes w e c l = simp (length-append, length-count_bytes, c, l) (omega arith)

-- The four parts of an event, stored one behind the other.
pub stored_event : (w : ℕ) (s : List ℕ) (place : ℕ) (e : Event) → length e.clock ≡ 8
    → sets (sets (sets (set s place e.mask) (place + 1) (replicate 7 0)) (place + 8) (count_bytes w e.clock)) (place + 8 + 8 * w) e.labels
    ≡ sets s place (event_bytes w e)
unfolding event_bytes
stored_event w s place e c =
    let head : List ℕ = e.mask ∷ replicate 7 0 in
    let counts_end : place + length (head ++ count_bytes w e.clock) ≡ place + 8 + 8 * w =
    simp (length-count_bytes, c) (omega arith) in
    rw (behind s place (e.mask ∷ []) (place + 1) (replicate 7 0) refl, behind s place head (place + 8) (count_bytes w e.clock) refl)
    (behind s place (head ++ count_bytes w e.clock) (place + 8 + 8 * w) e.labels counts_end)

-- The events from i on moved up, then the event stored in their place.
pub stored_inserted : (w i : ℕ) (s : List ℕ) (e : Event) → length (event_bytes w e) ≡ event_length w
    → set (sets (sets s (pending_place w i + event_length w) (take (pending_place w (pending_count s) - pending_place w i) (drop (pending_place w i) s))) (pending_place w i) (event_bytes w e)) 2 (pending_count s + 1)
    ≡ inserted w s i e
unfolding inserted
stored_inserted w i s e l =
    let moved : List ℕ = take ((pending_count s - i) * event_length w) (drop (pending_place w i) s) in
    rw (events_between w i (pending_count s), ← sets_comm s (pending_place w i) (event_bytes w e) (pending_place w i + event_length w) moved (omega arith), behind s (pending_place w i) (event_bytes w e) (pending_place w i + event_length w) moved (omega arith))

-- The events behind i moved down, then the last place cleared.
pub stored_removed : (w i n : ℕ) (s : List ℕ) → pending_count s ≡ n → i < n → n ≤ 32 → length s ≡ record_length w
    → set (sets (sets s (pending_place w i) (take (pending_place w (n - 1) - pending_place w i) (drop (pending_place w i + event_length w) s))) (pending_place w (n - 1)) (replicate (event_length w) 0)) 2 (n - 1)
    ≡ removed w s i
unfolding removed
stored_removed w i n s count l few long =
    let many : pending_place w (n - 1) - pending_place w i ≡ (n - (i + 1)) * event_length w =
    events_between w i (n - 1) ∙ ap (λ (m : ℕ). m * event_length w) (omega arith) in
    let moved : List ℕ = take ((n - (i + 1)) * event_length w) (drop (pending_place w i + event_length w) s) in
    let long_moved : length moved ≡ (n - (i + 1)) * event_length w =
    length-take-le ((n - (i + 1)) * event_length w) (drop (pending_place w i + event_length w) s)
    (simp length-drop (omega (arith, event-within w (n - 1) (omega arith), place_below w i (n - 1) (omega arith)))) in
    rw (many, count, place_next w i, behind s (pending_place w i) moved (pending_place w (n - 1)) (replicate (event_length w) 0) (omega (arith, place_below w i (n - 1) (omega arith))))

-- ---- The taken counts

-- One count more is the event's own, so it fits as that does.
counted-fits : (b : Bool) (n c m : ℕ) → T (ready_at b n c) → n < m → c < m → one b + c < m
counted-fits true n c m r h l = omega (arith, eqb→eq n (c + 1) r)
counted-fits false n c m r h l = omega arith

-- The taken counts with a ready event fit where its clock does.
pub applied_fits : (w : ℕ) (s : List ℕ) (e : Event) → Bytes s → T (ready_in w s e) → ((p : ℕ) → at e.clock p < 256 ^ w)
    → (p : ℕ) → at (list_of 8 (apply e (at (taken_counts w s)))) p < 256 ^ w
unfolding ready_in ready apply count
applied_fits w s e b r h p = go (dec_lt p 8)
  where
    taken : ℕ → ℕ
    taken = at (taken_counts w s)

    stored : (q : ℕ) → q < 8 → taken q < 256 ^ w
    stored q l = rw (taken_at w s q l) (number_lt s (8 + q * w) w b)

    go : Dec (p < 8) → at (list_of 8 (apply e taken)) p < 256 ^ w
    go (yes l) =
        rw (at-list_of 8 (apply e taken) p l)
        (counted-fits (involved e p) (count e p) (taken p) (256 ^ w) (all_e 8 (λ q. ready_at (involved e q) (count e q) (taken q)) r p l) (h p) (stored p l))
    go (no l) = rw (at_beyond (list_of 8 (apply e taken)) p (rw (length-list_of 8 (apply e taken)) (omega arith))) (pow_256_pos w)
