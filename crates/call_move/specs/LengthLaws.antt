-- What is known where none of a move's lengths is wrong (6), and when none is.
use Rattle.std.specs.Prelude.{ℕ, ◌*◌, ◌%◌, ◌≤◌, ◌≡◌, false, not, ◌||◌, ltb, eqb}
use Rattle.std.proofs.Common.{arith, div-add-mod', eqb-true, eq-eqb}
use Rattle.std.proofs.lemmas.Bool.{not-false}
use Rattle.clocks.specs.stored.BoundedLaws.{or-false_e}
use Rattle.frontiers.specs.Bytes.{frontier_length}
use Rattle.records.specs.Record.{record_length}
use Rattle.refusals.specs.Refusals.{bad_record_length, bad_window_length, room_of}
use Rattle.refusals.specs.RefusalLaws.{right_length, room_few}
use Rattle.call_move.specs.Move.{bad_move_lengths}

-- A window of a right length is as long as the frontiers that it has room for.
pub window_whole : (w n : ℕ) → bad_window_length w n ≡ false → n ≡ room_of w n * frontier_length w
unfolding bad_window_length room_of
window_whole w n h =
    let size : ℕ = frontier_length w in
    let whole = (or-false_e (ltb n size) (ltb (1024 * size) n || not (eqb (n % size) 0)) h).1 in
    let exact = (or-false_e (ltb (1024 * size) n) (not (eqb (n % size) 0)) whole).1 in
    omega (arith, div-add-mod' n size, eqb-true (n % size) 0 (not-false (eqb (n % size) 0) exact))

-- As many frontiers as there is room for lie within a window.
pub frontiers-within : (w room n m : ℕ) → m ≡ room → n ≡ room * frontier_length w → m * frontier_length w ≤ n
frontiers-within w room n m e h = rw e (omega arith)

-- The lengths of a record and a window that are read, and of those that are written: each is right, and the windows are
-- of as many frontiers.
pub record Lengths (v w source_length window_length target_length target_window_length : ℕ) : Type 0 where
  pub source : source_length ≡ record_length v
  pub window : bad_window_length v window_length ≡ false
  pub target : target_length ≡ record_length w
  pub target_window : bad_window_length w target_window_length ≡ false
  pub rooms : room_of v window_length ≡ room_of w target_window_length
  -- so both are the frontiers of one room
  pub whole : window_length ≡ room_of v window_length * frontier_length v
  pub target_whole : target_window_length ≡ room_of v window_length * frontier_length w
  pub few : room_of v window_length ≤ 1024

pub right_lengths : (v w a b c d : ℕ) → bad_move_lengths v w a b c d ≡ false → Lengths v w a b c d
unfolding bad_move_lengths
right_lengths v w a b c d h =
    let first = or-false_e (bad_record_length v a) _ h in
    let second = or-false_e (bad_window_length v b) _ first.1 in
    let third = or-false_e (bad_record_length w c) _ second.1 in
    let fourth = or-false_e (bad_window_length w d) (not (eqb (room_of v b) (room_of w d))) third.1 in
    let same : room_of v b ≡ room_of w d = eqb-true (room_of v b) (room_of w d) (not-false _ fourth.1) in
    record {
      source = right_length v a first.0;
      window = second.0;
      target = right_length w c third.0;
      target_window = fourth.0;
      rooms = same;
      whole = window_whole v b second.0;
      target_whole = rw same (window_whole w d fourth.0);
      few = room_few v b second.0;
    }

pub none_wrong : (v w a b c d : ℕ) → a ≡ record_length v → bad_window_length v b ≡ false → c ≡ record_length w
    → bad_window_length w d ≡ false → room_of v b ≡ room_of w d → bad_move_lengths v w a b c d ≡ false
unfolding bad_move_lengths bad_record_length
none_wrong v w a b c d source window target target_window rooms =
    rw (
      eq-eqb a (record_length v) source,
      window,
      eq-eqb c (record_length w) target,
      target_window,
      eq-eqb (room_of v b) (room_of w d) rooms,
    )
