-- Every accepted move, on all bytes: the same fields and frontiers, the same refusal by 34, and the way back.
use Rattle.std.specs.Prelude.{ℕ, ◌*◌, ◌≤◌, ◌≡◌, false, List, length}
use Rattle.std.proofs.Common.{arith, sym, ap, ◌∙◌, true≢false}
use Rattle.std.proofs.Math.Seq.{take_all}
use Rattle.codec.specs.Little.{Bytes}
use Rattle.clocks.specs.stored.BoundedLaws.{or-false_e}
use Rattle.frontiers.specs.Bytes.{frontier_length}
use Rattle.records.specs.Record.{record_length}
use Rattle.refusals.specs.Refusals.{room_of, bad_state}
use Rattle.refusals.specs.RefusalLaws.{state-within}
use Rattle.call_move.specs.Parts.{record_parts, window_parts}
use Rattle.call_move.specs.PartLengths.{length_of}
use Rattle.call_move.specs.PartLaws.{length-record_parts, length-window_parts, length_moved}
use Rattle.call_move.specs.CountLaws.{none_too_large}
use Rattle.call_move.specs.BackLaws.{fit_again, moved_back}
use Rattle.call_move.specs.FieldLaws.{record_same, frontier_moved}
use Rattle.call_move.specs.LengthLaws.{Lengths, right_lengths, none_wrong}
use Rattle.call_move.specs.MoveCases.{Passes, passes, window_written, too_large, number_0}
use Rattle.call_move.specs.MoveExact.{SameFields, MoveExact, WidenNever43, ThereAndBack}
use Rattle.call_move.specs.Move.{moved, some_too_large, bad_move_lengths, overflows, move_call}

module _ (v w : ℕ) (s window t target : List ℕ) (b : Bytes s) (c : Bytes window)
    (p : Passes v w s window t target) where
  abbrev n : ℕ
  n = room_of v (length window)

  abbrev t' : List ℕ
  t' = moved v w record_parts s

  abbrev target' : List ℕ
  target' = moved v w (window_parts n) window

  long : Lengths v w (length s) (length window) (length t) (length target)
  long = right_lengths v w (length s) (length window) (length t) (length target) p.lengths

  fits : (some_too_large v w record_parts s ≡ false) × (some_too_large v w (window_parts n) window ≡ false)
  unfolding overflows
  fits = or-false_e (some_too_large v w record_parts s) (some_too_large v w (window_parts n) window) p.fits

  length_record : length t' ≡ record_length w
  length_record =
      length_moved v w record_parts s (omega (arith, long.source, length-record_parts v)) ∙ length-record_parts w

  length_window : length target' ≡ n * frontier_length w
  length_window = window_written v w s window t target p

  -- as long as the buffer that was lent
  window_as_lent : length target' ≡ length target
  window_as_lent = length_window ∙ sym long.target_whole

  room_same : room_of w (length target') ≡ n
  room_same = ap (room_of w) window_as_lent ∙ sym long.rooms

  fields : SameFields v w s t'
  fields = record_same v w s long.source fits.0 (state-within v n s p.state).2

  state-same : (room : ℕ) → bad_state w room t' ≡ bad_state v room s
  unfolding bad_state
  state-same room = rw (fields.processes, fields.lines, fields.pending_number, fields.kept, fields.table)

  -- ---- the way back
  module _ (u away : List ℕ) (lu : length u ≡ length s) (la : length away ≡ length window) where
    lengths_back : bad_move_lengths w v (length t') (length target') (length u) (length away) ≡ false
    lengths_back =
        none_wrong w v (length t') (length target') (length u) (length away) length_record
        (rw window_as_lent long.target_window) (lu ∙ long.source) (rw la long.window)
        (room_same ∙ ap (room_of v) (sym la))

    back_moves : move_call w v t' target' u away ≡ record { number = 0; bytes = s; window = window }
    unfolding move_call overflows
    back_moves = rw (
      lengths_back,
      state-same (room_of w (length target')),
      room_same,
      p.state,
      fit_again v w record_parts s b (omega (arith, long.source, length-record_parts v)) fits.0,
      fit_again v w (window_parts n) window c (omega (arith, long.whole, length-window_parts v n)) fits.1,
      moved_back v w record_parts s b (omega (arith, long.source, length-record_parts v)) fits.0,
      moved_back v w (window_parts n) window c (omega (arith, long.whole, length-window_parts v n)) fits.1,
      take_all (length_of v record_parts) s (omega (arith, long.source, length-record_parts v)),
      take_all (length_of v (window_parts n)) window (omega (arith, long.whole, length-window_parts v n)),
    )

-- ---- Theorems

pub move_exact : MoveExact
move_exact v w s window t target b c q =
    let p = passes v w s window t target q in
    rw p.moves (record {
      same_fields = fields v w s window t target b c p;
      same_frontiers = frontier_moved v w (room_of v (length window)) window (long v w s window t target b c p).whole
          (fits v w s window t target b c p).1;
      same_room = room_same v w s window t target b c p;
      same_state = state-same v w s window t target b c p;
      back = back_moves v w s window t target b c p;
    })

-- With as many bytes or more every count fits.
all_fit : (v w : ℕ) → v ≤ w → (s window : List ℕ) → Bytes s → Bytes window → overflows v w s window ≡ false
unfolding overflows
all_fit v w l s window b c =
    rw (none_too_large v w l record_parts s b, none_too_large v w l (window_parts (room_of v (length window))) window c)

pub widen_never_43 : WidenNever43
widen_never_43 v w l s window t target b c q =
    true≢false (sym (too_large v w s window t target q) ∙ all_fit v w l s window b c)

pub there_and_back : ThereAndBack
there_and_back v w l s window t target b c right state =
    (move_exact v w s window t target b c (number_0 v w s window t target right state (all_fit v w l s window b c))).back
