-- The record's taken counts after a taken event are those that it leads to.
use Rattle.std.specs.Prelude.{ℕ, zero, suc, ◌+◌, ◌-◌, ◌*◌, ◌^◌, ◌≤◌, ◌<◌, ◌≡◌, refl, Bool, true, false, cond, List, [], ◌∷◌, ◌++◌, T, length, take, drop, replicate}
use Rattle.std.proofs.Math.Decide.{dec_lt}
use Rattle.std.proofs.Common.{arith, sym, ap, ◌∙◌, append-nil, length-set}
use Rattle.std.proofs.lemmas.List.Edits.{sets}
use Rattle.std.proofs.Math.Seq.{length-sets}
use Rattle.codec.specs.Little.{Bytes, number, put}
use Rattle.codec.specs.LittleLaws.{pow_256_pos}
use Rattle.codec.specs.PutLaws.{number_lt, number_middle, length-put}
use Rattle.codec.specs.SetsLaws.{take-sets, part-sets, part-sets-before, part-sets-after}
use Rattle.clocks.specs.declared.Event.{Event}
use Rattle.clocks.specs.Event.{Cut, involved, count, apply}
use Rattle.clocks.specs.Counts.{at, list_of}
use Rattle.clocks.specs.stored.CountsLaws.{length-list_of, list_of-same, at-list_of, at_beyond}
use Rattle.clocks.specs.stored.StepCountLaws.{apply-ready}
use Rattle.frontiers.specs.Bytes.{count_bytes}
use Rattle.frontiers.specs.BytesLaws.{count-within, length-count_bytes, number-count_bytes}
use Rattle.records.specs.Record.{taken_place, clocks_place, record_length, pending_count, pending_place, event_length, taken_counts, pending_at, ready_in, removed, clocks_set, counted}
use Rattle.records.specs.RecordLaws.{taken_at}

-- Two lists with the same part have the same number there.
number-alike : (s t : List ℕ) (a n : ℕ) → take n (drop a s) ≡ take n (drop a t) → number s a n ≡ number t a n
unfolding number
number-alike s t a n e = rw e

-- What the removal of pending event i lays down from its place on.
abbrev pub moved_up : ℕ → List ℕ → ℕ → List ℕ
moved_up w s i =
    take ((pending_count s - (i + 1)) * event_length w) (drop (pending_place w (i + 1)) s) ++ replicate (event_length w) 0

-- The removal leaves the taken counts, and the length.
pub removed-taken : (w : ℕ) (s : List ℕ) (i : ℕ) → taken_counts w (removed w s i) ≡ taken_counts w s
unfolding taken_counts removed
removed-taken w s i = list_of-same 8 _ _ λ p l.
    let moved = sets s (pending_place w i) (moved_up w s i) in
    number-alike _ s (8 + p * w) w
    (part-sets-after moved 2 ((pending_count s - 1) ∷ []) (8 + p * w) w (omega arith)
    ∙ part-sets-before s (pending_place w i) (moved_up w s i) (8 + p * w) w (omega (arith, count-within p 8 w l)))

pub length_removed : (w : ℕ) (s : List ℕ) (i : ℕ) → length (removed w s i) ≡ length s
unfolding removed
length_removed w s i =
    length-set (sets s (pending_place w i) (moved_up w s i)) 2 (pending_count s - 1)
    ∙ length-sets s (pending_place w i) (moved_up w s i)

-- The last clocks stand after the taken counts.
pub clocks_leave : (w n : ℕ) (s : List ℕ) (e : Event) → take (clocks_place w) (clocks_set w n s e)
    ≡ take (clocks_place w) s
unfolding clocks_set
clocks_leave w zero s e = refl
clocks_leave w (suc p) s e = go (involved e p) ∙ clocks_leave w p s e
  where
    before : List ℕ
    before = clocks_set w p s e

    with_clock : List ℕ
    with_clock = sets before (clocks_place w + p * (8 * w)) (count_bytes w e.clock)

    go : (b : Bool) → take (clocks_place w) (cond b with_clock before) ≡ take (clocks_place w) before
    go true = take-sets (clocks_place w) before (clocks_place w + p * (8 * w)) (count_bytes w e.clock) (omega arith)
    go false = refl

-- The taken counts are read from the bytes before the last clocks.
taken-alike : (w : ℕ) (s t : List ℕ) → take (clocks_place w) s ≡ take (clocks_place w) t
    → taken_counts w s ≡ taken_counts w t
unfolding taken_counts
taken-alike w s t e = list_of-same 8 _ _ λ p l.
    here s p l ∙ ap (λ (u : List ℕ). number u (8 + p * w) w) e ∙ sym (here t p l)
  where
    here : (u : List ℕ) (p : ℕ) → p < 8 → number u (8 + p * w) w ≡ number (take (clocks_place w) u) (8 + p * w) w
    here u p l =
        sym (number_middle u 0 (clocks_place w) (8 + p * w) w (omega (arith, count-within p 8 w l))
        ∙ ap (λ (m : ℕ). number u m w) (omega arith))

-- Eight counts that fit are read where they were stored.
taken_stored : (w : ℕ) (s : List ℕ) (f : Cut) → clocks_place w ≤ length s → ((p : ℕ) → p < 8 → f p < 256 ^ w)
    → taken_counts w (sets s taken_place (count_bytes w (list_of 8 f))) ≡ list_of 8 f
unfolding taken_counts
taken_stored w s f long small = list_of-same 8 _ f λ p l.
    sym (number_middle t 8 (8 * w) (p * w) w (count-within p 8 w l))
    ∙ ap (λ (u : List ℕ). number u (p * w) w) part
    ∙ number-count_bytes w cs [] (λ q. fit q (dec_lt q 8)) p (rw (length-list_of 8 f) l)
    ∙ at-list_of 8 f p l
  where
    cs : List ℕ
    cs = list_of 8 f

    t : List ℕ
    t = sets s 8 (count_bytes w cs)

    size : length (count_bytes w cs) ≡ 8 * w
    size = length-count_bytes w cs ∙ ap (λ (n : ℕ). n * w) (length-list_of 8 f)

    part : take (8 * w) (drop 8 t) ≡ count_bytes w cs ++ []
    part = rw (append-nil, ← size) (part-sets s 8 (count_bytes w cs) (omega (arith, size)))

    fit : (q : ℕ) → Dec (q < 8) → at cs q < 256 ^ w
    fit q (yes l) = rw (at-list_of 8 f q l) (small q l)
    fit q (no l) = rw (at_beyond cs q (rw (length-list_of 8 f) (omega arith))) (pow_256_pos w)

-- A pending event's counts fit where they were read from.
pending_fits : (w : ℕ) (s : List ℕ) (i : ℕ) → Bytes s → (p : ℕ) → p < 8 → count (pending_at w s i) p < 256 ^ w
unfolding pending_at count
pending_fits w s i b p l =
    let at = pending_place w i + 8 in
    rw (at-list_of 8 (λ q. number s (at + q * w) w) p l) (number_lt s (at + p * w) w b)

-- The counts that a ready pending event leads to fit: they are its own, or were there before.
reached_fit : (w : ℕ) (s : List ℕ) (i : ℕ) → Bytes s → T (ready_in w s (pending_at w s i)) → (p : ℕ) → p < 8
    → apply (pending_at w s i) (at (taken_counts w s)) p < 256 ^ w
unfolding ready_in
reached_fit w s i b r p l = rw (← apply-ready 8 e (at (taken_counts w s)) r p l) (go (involved e p))
  where
    e : Event
    e = pending_at w s i

    go : (t : Bool) → cond t (count e p) (at (taken_counts w s) p) < 256 ^ w
    go true = pending_fits w s i b p l
    go false = rw (taken_at w s p l) (number_lt s (8 + p * w) w b)

-- ---- Theorem

-- The record of a taken event has the counts that it leads to.
pub counted-taken : (w : ℕ) (s : List ℕ) (i kept : ℕ) → Bytes s → length s ≡ record_length w
    → T (ready_in w s (pending_at w s i))
    → taken_counts w (counted w (removed w s i) (pending_at w s i) kept)
    ≡ list_of 8 (apply (pending_at w s i) (at (taken_counts w s)))
unfolding counted
counted-taken w s i kept b long r =
    rw (removed-taken w s i)
    (taken-alike w (clocks_set w 8 stored e) stored (clocks_leave w 8 stored e)
    ∙ taken_stored w (put (removed w s i) 4 4 kept) reached within (reached_fit w s i b r))
  where
    e : Event
    e = pending_at w s i

    reached : Cut
    reached = apply e (at (taken_counts w s))

    stored : List ℕ
    stored = sets (put (removed w s i) 4 4 kept) taken_place (count_bytes w (list_of 8 reached))

    within : clocks_place w ≤ length (put (removed w s i) 4 4 kept)
    within = rw (length-put (removed w s i) 4 4 kept, length_removed w s i, long) (omega arith)
