-- The refusals' conditions, test by test, as the functions go through them.
use Rattle.std.specs.Prelude.{ℕ, ◌+◌, ◌≤◌, ◌<◌, ◌*◌, ◌%◌, ◌≡◌, refl, Bool, true, false, not, ◌&&◌, ◌||◌, List, ltb, eqb}
use Rattle.std.proofs.Common.{arith, sym, ◌∙◌, true≢false, ltb-false, eqb-true, mul-le-mul_right, le-div_iff_mul-le}
use Rattle.std.proofs.Math.Bool.{or_assoc}
use Rattle.std.specs.Int.Bits.{bit_and}
use Rattle.std.proofs.lemmas.Bool.{not-false, eqb-false}
use Rattle.codec.specs.Bit.{bit}
use Rattle.codec.specs.BitLaws.{bit-zero, bit-and, bits_none, bit_above}
use Rattle.clocks.specs.declared.Event.{Event}
use Rattle.clocks.specs.Event.{involved}
use Rattle.clocks.specs.Bounded.{any_below}
use Rattle.pactl.specs.Table.{good_table}
use Rattle.frontiers.specs.Bytes.{frontier_length}
use Rattle.records.specs.Record.{process_count, line_total, pending_count, kept_count, table_lines, record_length}
use Rattle.refusals.specs.Refusals.{bad_processes, bad_state, bad_record_length, bad_window_length, room_of, names_closed}
use Rattle.refusals.specs.RefusalCode.{bad_numbers}
use Rattle.clocks.specs.stored.BoundedLaws.{or-false_e}
use Rattle.clocks.specs.stored.BoundedTurns.{any-false_i, any-false_e}
use Rattle.std.proofs.Math.Decide.{dec_lt}

-- ---- 34

-- They, or a bad table line.
pub state_parts : (w room : ℕ) (s : List ℕ)
    → bad_state w room s ≡ (bad_numbers (process_count s) (pending_count s) (line_total s) (kept_count s) room || not (good_table (process_count s) (table_lines w s)))
unfolding bad_state bad_numbers
state_parts w room s =
    simp or_assoc

-- A state with good numbers has 1 to 8 processes, at most 32 pending events and 1 to 64 lines.
pub numbers_within : (k pending lines kept room : ℕ) → bad_numbers k pending lines kept room ≡ false → (k ≤ 8) × (pending ≤ 32) × (lines ≤ 64) × (kept ≤ 1024) × (kept ≤ room) × (1 ≤ lines)
unfolding bad_numbers bad_processes
numbers_within k pending lines kept room h =
    let p = or-false_e _ _ h in
    let q = or-false_e _ _ p.1 in
    let r = or-false_e (eqb lines 0) _ q.1 in
    let t = or-false_e _ _ r.1 in
    let u = or-false_e (eqb kept 0) _ t.1 in
    let v = or-false_e _ _ u.1 in
    let some : lines ≡ 0 → ⊥ = eqb-false lines 0 r.0 in
    (ltb-false 8 k (or-false_e (eqb k 0) _ p.0).1, ltb-false 32 pending q.0, ltb-false 64 lines t.0, ltb-false 1024 kept v.0, ltb-false room kept v.1, omega arith)

-- ---- What is known where none of them holds

pub right_length : (w n : ℕ) → bad_record_length w n ≡ false → n ≡ record_length w
unfolding bad_record_length
right_length w n h = eqb-true n (record_length w) (not-false _ h)

pub state-within : (w room : ℕ) (s : List ℕ) → bad_state w room s ≡ false
    → (process_count s ≤ 8) × (pending_count s ≤ 32) × (line_total s ≤ 64) × (kept_count s ≤ 1024) × (kept_count s ≤ room) × (1 ≤ line_total s)
state-within w room s h =
    numbers_within (process_count s) (pending_count s) (line_total s) (kept_count s) room (or-false_e _ _ (sym (state_parts w room s) ∙ h)).0

pub processes_within : (k : ℕ) → bad_processes k ≡ false → (1 ≤ k) × (k ≤ 8)
unfolding bad_processes
processes_within k h =
    let p = or-false_e (eqb k 0) (ltb 8 k) h in
    let some : k ≡ 0 → ⊥ = eqb-false k 0 p.0 in
    (omega arith, ltb-false 8 k p.1)

pub window_holds : (w n : ℕ) → bad_window_length w n ≡ false → frontier_length w ≤ n
unfolding bad_window_length
window_holds w n h = ltb-false n (frontier_length w) (or-false_e _ _ h).0

-- ---- Room

-- As many frontiers as there is room for lie within the window.
pub room_within : (w kept n : ℕ) → kept ≤ room_of w n → kept * frontier_length w ≤ n
unfolding room_of frontier_length
room_within w kept n h = (le-div_iff_mul-le {k = 8 * w + 24} {x = kept} {y = n} (omega arith)).0 h

-- A window of a right length has room for at most 1,024 frontiers.
pub room_few : (w n : ℕ) → bad_window_length w n ≡ false → room_of w n ≤ 1024
unfolding bad_window_length frontier_length
room_few w n h = go (dec_lt 1024 (room_of w n))
  where
    size : ℕ
    size = 8 * w + 24

    short : n ≤ 1024 * size
    short = ltb-false (1024 * size) n (or-false_e (ltb (1024 * size) n) (not (eqb (n % size) 0)) (or-false_e (ltb n size) (ltb (1024 * size) n || not (eqb (n % size) 0)) h).1).0

    go : Dec (1024 < room_of w n) → room_of w n ≤ 1024
    go (yes l) = absurd (omega (arith, short, mul-le-mul_right size l, room_within w (room_of w n) n (omega arith)))
    go (no l) = omega arith

-- ---- 42, of an offer

-- An event names a closed process exactly where its mask and theirs have a common bit.
pub named_by_mask : (closed : ℕ) (e : Event) → e.mask < 256
    → not (eqb (bit_and e.mask closed) 0) ≡ names_closed closed e
unfolding names_closed involved
named_by_mask closed e byte = go (eqb common 0) refl (any_below 8 both) refl
  where
    common : ℕ
    common = bit_and e.mask closed

    both : ℕ → Bool
    both p = bit e.mask p && bit closed p

    -- Bit by bit, whether below 8 or above.
    absent-bit : any_below 8 both ≡ false → (p : ℕ) → Dec (p < 8) → both p ≡ false
    absent-bit h p (yes l) = any-false_e 8 both h p l
    absent-bit h p (no l) = rw (bit_above e.mask 8 p byte (omega arith))

    shared : (p : ℕ) → bit common p ≡ both p
    shared p = bit-and e.mask closed p

    go : (a : Bool) → eqb common 0 ≡ a → (b : Bool) → any_below 8 both ≡ b → not a ≡ b
    go true h true q =
        let none : (p : ℕ) → both p ≡ false = λ p. sym (shared p) ∙ rw (eqb-true common 0 h) (bit-zero p) in
        absurd (true≢false (sym q ∙ any-false_i 8 both (λ p l. none p)))
    go true h false q = refl
    go false h true q = refl
    go false h false q =
        absurd (eqb-false common 0 h (bits_none common (λ p. shared p ∙ absent-bit q p (dec_lt p 8))))
