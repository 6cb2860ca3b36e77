-- The record's parts, as the code goes through them.
use Prim.Native.Nat.{ℕ, ◌+◌, ◌*◌, ◌≤◌, ◌<◌}
use native.Mathlib.Omega.{arith}
use mathlib.Core.Path.{◌≡◌, refl, sym, ap, ◌∙◌}
use mathlib.Core.Bool.{false, ◌||◌, or-false}
use mathlib.Core.List.{List, ◌++◌, append_assoc, append-nil}
use lib.ListN.{length, take, drop, length-append, length-drop}
use lib.Seq.{sets, drop-drop, length-take-le}
use Rattle.codec.specs.SetsLaws.{sets-sets}
use Rattle.clocks.specs.stored.BoundedLaws.{or-false_e}
use Rattle.frontiers.specs.Bytes.{count_bytes}
use Rattle.records.specs.Record.{event_length, table_place, pending_place}
use Rattle.call_move.specs.Parts.{Part, many_of, event_parts, record_parts}
use Rattle.call_move.specs.PartLengths.{part_length, length_of}
use Rattle.call_move.specs.Move.{counts_from, moved, some_too_large}
use Rattle.call_move.specs.MoveCode.{any_too_large, front_parts, parts_to}
use Rattle.call_move.specs.PartLaws.{length_of-append, length_of-repeated, length-event_parts, repeated_more, some_too_large-append}
use Rattle.call_move.specs.PlaceLaws.{none_in_each}
use Rattle.call_move.proofs.PartSteps.{length-counts, stored_behind, parts_looked, parts_written}

-- ---- Places

pub parts_place : (w i : ℕ) → pending_place w i ≡ length_of w (parts_to i)
unfolding length_of part_length front_parts parts_to
parts_place w i =
    rw (length_of-append w front_parts (many_of i event_parts), length_of-repeated w i event_parts, length-event_parts w)
    (omega arith)

parts_next : (i : ℕ) → parts_to (i + 1) ≡ parts_to i ++ event_parts
unfolding parts_to
parts_next i =
    ap (λ (l : List Part). front_parts ++ l) (repeated_more i event_parts)
    ∙ sym (append_assoc front_parts (many_of i event_parts) event_parts)

-- All of them are the record's.
pub parts_all : parts_to 32 ≡ record_parts
unfolding parts_to front_parts
parts_all = refl

-- ---- Looked at

pub front_looked : (v w : ℕ) (s : List ℕ)
    → (any_too_large v w 8 (drop 8 s) || any_too_large v w 64 (drop (8 + 8 * v) s)) ≡ some_too_large v w (parts_to 0) s
unfolding some_too_large any_too_large many_of parts_to front_parts
front_looked v w s = rw (← drop-drop (8 * v) 8 s, or-false)

-- The counts of the pending event from a place on.
event-counts : (v w : ℕ) (s : List ℕ) (place : ℕ)
    → some_too_large v w event_parts (drop place s) ≡ any_too_large v w 8 (drop (place + 8) s)
unfolding some_too_large any_too_large
event-counts v w s place = rw (drop-drop 8 place s, or-false)

pub event_looked : (v w i : ℕ) (s : List ℕ) (place : ℕ) → place ≡ pending_place v i
    → (some_too_large v w (parts_to i) s || any_too_large v w 8 (drop (place + 8) s))
    ≡ some_too_large v w (parts_to (i + 1)) s
event_looked v w i s place e =
    rw (← event-counts v w s place, parts_next i)
    (parts_looked v w (parts_to i) event_parts s place (e ∙ parts_place v i))

-- ---- None too large

pub front_fits : (v w : ℕ) (s : List ℕ) → some_too_large v w record_parts s ≡ false → some_too_large v w front_parts s ≡ false
unfolding parts_to
front_fits v w s h =
    (or-false_e (some_too_large v w front_parts s) _
    (sym (some_too_large-append v w front_parts (many_of 32 event_parts) s)
    ∙ ap (λ (l : List Part). some_too_large v w l s) parts_all ∙ h)).0

pub event-fits : (v w i : ℕ) (s : List ℕ) (place : ℕ) → place ≡ pending_place v i → i < 32
    → some_too_large v w record_parts s ≡ false → some_too_large v w event_parts (drop place s) ≡ false
unfolding parts_to
event-fits v w i s place e l h =
    rw (e ∙ parts_place v i)
    (none_in_each v w front_parts event_parts s 32 i l (ap (λ (l : List Part). some_too_large v w l s) parts_all ∙ h))

-- The same, for the counts of a front and of an event.
pub front_counts_fit : (v w : ℕ) (s : List ℕ) → some_too_large v w front_parts s ≡ false
    → (any_too_large v w 8 (drop 8 s) ≡ false) × (any_too_large v w 64 (drop (8 + 8 * v) s) ≡ false)
unfolding some_too_large any_too_large front_parts
front_counts_fit v w s h =
    let both = or-false_e (any_too_large v w 8 (drop 8 s)) _ h in
    let clocks = or-false_e (any_too_large v w 64 (drop (8 * v) (drop 8 s))) false both.1 in
    (both.0, rw (← drop-drop (8 * v) 8 s) clocks.0)

pub event-counts_fit : (v w : ℕ) (s : List ℕ) (place : ℕ) → some_too_large v w event_parts (drop place s) ≡ false
    → any_too_large v w 8 (drop (place + 8) s) ≡ false
event-counts_fit v w s place h = sym (event-counts v w s place) ∙ h

-- ---- Written

-- The three parts of a pending event, stored one after the other.
pub event-written : (v w : ℕ) (s : List ℕ) (from : ℕ) (t t₁ t₂ t₃ : List ℕ) (to : ℕ) → from + event_length v ≤ length s
    → t₁ ≡ sets t to (take 8 (drop from s))
    → t₂ ≡ sets t₁ (to + 8) (count_bytes w (counts_from v 8 (drop (from + 8) s)))
    → t₃ ≡ sets t₂ (to + 8 + 8 * w) (take 8 (drop (from + 8 + 8 * v) s))
    → t₃ ≡ sets t to (moved v w event_parts (drop from s))
unfolding moved
event-written v w s from t t₁ t₂ t₃ to h e₁ e₂ e₃ =
    let first : List ℕ = take 8 (drop from s) in
    let clock : List ℕ = count_bytes w (counts_from v 8 (drop (from + 8) s)) in
    let labels : List ℕ = take 8 (drop (from + 8 + 8 * v) s) in
    let eight : length first ≡ 8 = length-take-le 8 (drop from s) (simp length-drop (omega arith)) in
    let long : length clock ≡ 8 * w = length-counts v w 8 (drop (from + 8) s) in
    let both : length (first ++ clock) ≡ 8 + 8 * w = rw (length-append, eight, long) in
    let d₂ : t₂ ≡ sets t to (first ++ clock) =
    e₂ ∙ ap (λ (u : List ℕ). sets u (to + 8) clock) e₁ ∙ stored_behind t to first (to + 8) clock (omega arith) in
    let d₃ : t₃ ≡ sets t to (first ++ clock ++ labels) =
    e₃ ∙ ap (λ (u : List ℕ). sets u (to + 8 + 8 * w) labels) d₂
    ∙ stored_behind t to (first ++ clock) (to + 8 + 8 * w) labels (omega arith) in
    d₃ ∙ rw (drop-drop 8 from s, drop-drop (8 * v) (from + 8) s, append-nil, append_assoc)

pub events_written : (v w i : ℕ) (s : List ℕ) (from : ℕ) (t : List ℕ) (to : ℕ) → from ≡ pending_place v i
    → to ≡ pending_place w i → from ≤ length s
    → sets (sets t 0 (moved v w (parts_to i) s)) to (moved v w event_parts (drop from s))
    ≡ sets t 0 (moved v w (parts_to (i + 1)) s)
events_written v w i s from t to e f h =
    rw (parts_next i)
    (parts_written v w (parts_to i) event_parts s from t to (e ∙ parts_place v i) (f ∙ parts_place w i) h)

-- The four parts before the pending events, stored one after the other.
pub front_written : (v w : ℕ) (s t t₁ t₂ t₃ t₄ : List ℕ) (from to : ℕ) → from ≡ table_place v → to ≡ table_place w
    → 200 + 72 * v ≤ length s → t₁ ≡ sets t 0 (take 8 (drop 0 s))
    → t₂ ≡ sets t₁ 8 (count_bytes w (counts_from v 8 (drop 8 s)))
    → t₃ ≡ sets t₂ (8 + 8 * w) (count_bytes w (counts_from v 64 (drop (8 + 8 * v) s)))
    → t₄ ≡ sets t₃ to (take 192 (drop from s)) → t₄ ≡ sets t 0 (moved v w front_parts s)
unfolding moved front_parts
front_written v w s t t₁ t₂ t₃ t₄ from to e f h e₁ e₂ e₃ e₄ =
    let first : List ℕ = take 8 s in
    let taken : List ℕ = count_bytes w (counts_from v 8 (drop 8 s)) in
    let clocks : List ℕ = count_bytes w (counts_from v 64 (drop (8 + 8 * v) s)) in
    let table : List ℕ = take 192 (drop (table_place v) s) in
    let eight : length first ≡ 8 = length-take-le 8 s (omega arith) in
    let long : length taken ≡ 8 * w = length-counts v w 8 (drop 8 s) in
    let longer : length clocks ≡ 64 * w = length-counts v w 64 (drop (8 + 8 * v) s) in
    let two : length (first ++ taken) ≡ 8 + 8 * w = rw (length-append, eight, long) in
    let three : length (first ++ taken ++ clocks) ≡ 8 + 72 * w = rw (length-append, two, longer) (omega arith) in
    let far : 8 + 8 * v + 64 * v ≡ table_place v = omega arith in
    let d₂ : t₂ ≡ sets t 0 (first ++ taken) =
    e₂ ∙ ap (λ (u : List ℕ). sets u 8 taken) e₁ ∙ stored_behind t 0 first 8 taken (omega arith) in
    let d₃ : t₃ ≡ sets t 0 (first ++ taken ++ clocks) =
    e₃ ∙ ap (λ (u : List ℕ). sets u (8 + 8 * w) clocks) d₂
    ∙ stored_behind t 0 (first ++ taken) (8 + 8 * w) clocks (omega arith) in
    let d₄ : t₄ ≡ sets t 0 (first ++ taken ++ clocks ++ table) =
    e₄ ∙ rw (e, d₃) (stored_behind t 0 (first ++ taken ++ clocks) to table (omega arith)) in
    d₄ ∙ rw (drop-drop (8 * v) 8 s, drop-drop (64 * v) (8 + 8 * v) s, far, append-nil) (simp append_assoc)

-- Once more over what is written, nothing changes.
pub front_begins : (v w : ℕ) (s t u : List ℕ) → u ≡ sets t 0 (moved v w front_parts s)
    → u ≡ sets u 0 (moved v w (parts_to 0) s)
unfolding parts_to many_of
front_begins v w s t u e =
    let front : List ℕ = moved v w front_parts s in
    rw (append-nil, e) (sym (sets-sets t 0 front front refl))
