-- The bytes of a day: so many for each event, one event behind the other, and counts that fit.
use Rattle.std.specs.Prelude.{ℕ, zero, suc, ◌*◌, ◌^◌, ◌≤◌, ◌<◌, ◌≡◌, refl, List, [], ◌∷◌, ◌++◌, length}
use Rattle.std.proofs.Common.{zero-mul, suc-mul, add-mul, arith, sym, ap, ◌∙◌, append_assoc, length-append}
use Rattle.std.proofs.Math.Nat.{pow-le-pow_right}
use Rattle.clocks.specs.declared.Event.{Event}
use Rattle.clocks.specs.Counts.{list_of}
use Rattle.clocks.specs.stored.CountsLaws.{length-list_of}
use Rattle.frontiers.specs.BytesLaws.{length-count_bytes}
use Rattle.records.specs.Record.{event_length, event_bytes, events_bytes}
use Rattle.call_busiest.specs.Sharing.{total}
use Rattle.call_busiest.specs.SharingLaws.{total_next}
use Rattle.call_busiest.specs.Busiest.{single, singles, day}

pub length-single : (w p n : ℕ) → length (event_bytes w (single p n)) ≡ event_length w
unfolding event_bytes single
length-single w p n =
    simp (length-append, length-count_bytes, length-list_of) (omega arith)

pub events_append : (w : ℕ) (es fs : List Event) → events_bytes w (es ++ fs) ≡ events_bytes w es ++ events_bytes w fs
unfolding events_bytes
events_append w [] fs = refl
events_append w (e ∷ es) fs =
    rw (events_append w es fs) (sym (append_assoc (event_bytes w e) (events_bytes w es) (events_bytes w fs)))

length_events : (w n : ℕ) (g : ℕ → Event) → ((i : ℕ) → length (event_bytes w (g i)) ≡ event_length w)
    → length (events_bytes w (list_of n g)) ≡ n * event_length w
unfolding events_bytes list_of
length_events w zero g h = sym (zero-mul (event_length w))
length_events w (suc n) g h =
    rw (length-append, h 0, length_events w n (λ i. g (suc i)) (λ i. h (suc i)), suc-mul n (event_length w))
    (omega arith)

pub length-singles : (w p n : ℕ) → length (events_bytes w (singles p n)) ≡ n * event_length w
unfolding singles
length-singles w p n = length_events w n (λ i. single p (suc i)) (λ i. length-single w p (suc i))

pub length-day : (w : ℕ) (f : ℕ → ℕ) (p : ℕ) → length (events_bytes w (day f p)) ≡ total (list_of p f) * event_length w
unfolding day events_bytes total list_of
length-day w f zero = sym (zero-mul (event_length w))
length-day w f (suc p) =
    rw (events_append w (day f p) (singles p (f p)), length-append, length-day w f p, length-singles w p (f p))
    (sym (ap (λ (n : ℕ). n * event_length w) (total_next f p) ∙ add-mul (total (list_of p f)) (f p) (event_length w)))

-- Every count of a day fits, from two bytes up.
pub number_fits : (w n : ℕ) → 2 ≤ w → n ≤ 65535 → n < 256 ^ w
number_fits w n l m = omega (arith, pow-le-pow_right {n = 256} (omega arith) {i = 2} {j = w} l)
