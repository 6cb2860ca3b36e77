-- What is true of every move on all bytes (02 [6]): what an accepted one leaves, and that moved back it is what it was.
-- Proved in MoveTheorem.
use Rattle.std.specs.Prelude.{ℕ, ◌≤◌, ◌<◌, ◌≡◌, false, List, ◌≢◌, length}
use Rattle.codec.specs.Little.{Bytes}
use Rattle.frontiers.specs.Bytes.{frontier_at}
use Rattle.records.specs.Record.{process_count, line_total, pending_count, closed_mask, kept_count, taken_counts, last_clocks, table_lines, pending_at}
use Rattle.refusals.specs.Refusals.{room_of, bad_state}
use Rattle.numbers.specs.Refusal.{too_large_number}
use Rattle.call_move.specs.Move.{Moved, bad_move_lengths, move_call}

-- A record t with counts of w bytes says in every field what s says with counts of v bytes.
pub record SameFields (v w : ℕ) (s t : List ℕ) : Type 0 where
  pub processes : process_count t ≡ process_count s
  pub lines : line_total t ≡ line_total s
  pub pending_number : pending_count t ≡ pending_count s
  pub closed : closed_mask t ≡ closed_mask s
  pub kept : kept_count t ≡ kept_count s
  pub taken : taken_counts w t ≡ taken_counts v s
  pub clocks : last_clocks w t ≡ last_clocks v s
  pub table : table_lines w t ≡ table_lines v s
  -- every place for a pending event, used or not
  pub pending : (i : ℕ) → i < 32 → pending_at w t i ≡ pending_at v s i

-- What a move m of record s and window `window` left, which was accepted.
pub record Accepted (v w : ℕ) (s window : List ℕ) (m : Moved) : Type 0 where
  pub same_fields : SameFields v w s m.bytes
  -- every place for a frontier, used or not
  pub same_frontiers : (i : ℕ) → i < room_of v (length window) → frontier_at w m.window i ≡ frontier_at v window i
  -- the windows have room for as many frontiers, and 34 holds of neither record or of both
  pub same_room : room_of w (length m.window) ≡ room_of v (length window)
  pub same_state : (room : ℕ) → bad_state w room m.bytes ≡ bad_state v room s
  -- moved back, to buffers of the lengths that the first ones have: accepted, and their bytes
  pub back : (t target : List ℕ) → length t ≡ length s → length target ≡ length window
      → move_call w v m.bytes m.window t target ≡ record { number = 0; bytes = s; window = window }

abbrev pub MoveExact : Type 0
MoveExact =
    (v w : ℕ) (s window t target : List ℕ) → Bytes s → Bytes window
    → (move_call v w s window t target).number ≡ 0 → Accepted v w s window (move_call v w s window t target)

-- To as many bytes or more, 43 never comes: widening is turned back by 6 and 34 alone.
abbrev pub WidenNever43 : Type 0
WidenNever43 =
    (v w : ℕ) → v ≤ w → (s window t target : List ℕ) → Bytes s → Bytes window
    → (move_call v w s window t target).number ≢ too_large_number

-- So there and back gives the old bytes, for all bytes that 6 and 34 let pass. (The other way round, from more bytes to
-- fewer, it is `back` that says it, where 43 lets pass too.)
abbrev pub ThereAndBack : Type 0
ThereAndBack =
    (v w : ℕ) → v ≤ w → (s window t target : List ℕ) → Bytes s → Bytes window
    → bad_move_lengths v w (length s) (length window) (length t) (length target) ≡ false
    → bad_state v (room_of v (length window)) s ≡ false
    → (u away : List ℕ) → length u ≡ length s → length away ≡ length window
    → let m = move_call v w s window t target in
    move_call w v m.bytes m.window u away ≡ record { number = 0; bytes = s; window = window }
