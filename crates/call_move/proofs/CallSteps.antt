-- A move from its lengths on: what turns it back, what is known where nothing does, and what its parts make up.
use Prim.Native.Nat.{ℕ, ◌*◌, ◌≤◌}
use native.Mathlib.Omega.{arith}
use mathlib.Core.Path.{◌≡◌, sym, ◌∙◌}
use mathlib.Core.Bool.{Bool, true, false, cond, ◌||◌, or_assoc}
use mathlib.Core.List.{List}
use lib.Dec.{eqb, lit<}
use lib.ListN.{length}
use lib.Seq.{sets}
use borrow.Author.Tests.{ne_eqb, eq-eqb}
use Rattle.clocks.specs.stored.BoundedLaws.{or-false_e}
use Rattle.frontiers.specs.Bytes.{frontier_length}
use Rattle.refusals.specs.Refusals.{room_of, bad_state}
use Rattle.answers.specs.Turns.{chosen_by, passed, end, turn}
use Rattle.call_move.specs.Parts.{record_parts, window_parts}
use Rattle.call_move.specs.PartLengths.{length_of}
use Rattle.call_move.specs.Move.{Moved, moved, some_too_large, bad_move_lengths, overflows, move_call}
use Rattle.call_move.specs.MoveCode.{move_fault}
use Rattle.call_move.specs.PartLaws.{length-window_parts}
use Rattle.call_move.specs.LengthLaws.{Lengths, right_lengths}
use Rattle.call_move.proofs.PartSteps.{all-written}

-- ---- Two tests, the second made only where the first does not hold

pub first_holds : {value first a : Bool} (b : Bool) → first ≡ a → first ≡ true → value ≡ first → value ≡ (a || b)
first_holds b p h e = rw (← p, h) (e ∙ h)

pub second_decides : {value first second a b : Bool} → first ≡ a → first ≡ false → second ≡ b → value ≡ second
    → value ≡ (a || b)
second_decides p h q e = rw (← p, h) (e ∙ q)

-- Four such tests, and a last one.
pub five_tests : (a b c d e x y z : Bool) → x ≡ (a || b) → y ≡ (x || c) → z ≡ (y || d)
    → (z || e) ≡ (a || (b || (c || (d || e))))
five_tests a b c d e x y z p q r = rw (r, q, p) (simp or_assoc)

-- ---- The call

module _ (v w : ℕ) (s window t target : List ℕ) where
  abbrev room : ℕ
  room = room_of v (length window)

  abbrev fault : ℕ
  fault = move_fault v w s window (length t) (length target)

  -- What a move that is turned back answers and leaves, and one that is not.
  turned : ℕ → Moved
  turned n = record { number = n; bytes = t; window = target }

  whole : Moved
  whole = record {
    number = 0;
    bytes = moved v w record_parts s;
    window = moved v w (window_parts room) window;
  }

  move_by : move_call v w s window t target ≡ cond (eqb fault 0) whole (turned fault)
  unfolding move_call move_fault turned whole
  move_by =
      chosen_by
      (turn (bad_move_lengths v w (length s) (length window) (length t) (length target)) 6
      (turn (bad_state v room s) 34
      (turn (overflows v w s window) 43 end)))
      turned whole (lit< tt, (lit< tt, (lit< tt, tt)))

  pub move_turned : (n : ℕ) → n ≡ fault → (n ≡ 0 → ⊥)
      → (n ≡ (move_call v w s window t target).number) × (t ≡ (move_call v w s window t target).bytes)
      × (target ≡ (move_call v w s window t target).window)
  unfolding turned
  move_turned n e h =
      let back : move_call v w s window t target ≡ turned n = move_by ∙ rw (← e, ne_eqb n 0 h) in
      (rw back, rw back, rw back)

  -- Where nothing turns it back: the lengths are right, and no count is too large.
  pub move_right : fault ≡ 0 → Lengths v w (length s) (length window) (length t) (length target)
  unfolding move_fault
  move_right h =
      let lengths = passed (bad_move_lengths v w (length s) (length window) (length t) (length target)) 6 _ (lit< tt) h in
      right_lengths v w (length s) (length window) (length t) (length target) lengths.0

  pub move_fits : fault ≡ 0
      → (some_too_large v w record_parts s ≡ false) × (some_too_large v w (window_parts room) window ≡ false)
  unfolding move_fault overflows
  move_fits h =
      let lengths = passed (bad_move_lengths v w (length s) (length window) (length t) (length target)) 6 _ (lit< tt) h in
      let state = passed (bad_state v room s) 34 _ (lit< tt) lengths.1 in
      or-false_e (some_too_large v w record_parts s) (some_too_large v w (window_parts room) window)
      (passed (overflows v w s window) 43 _ (lit< tt) state.1).0

  -- What the frontiers' turn asks for.
  pub window_asked : (n : ℕ) → fault ≡ 0 → n ≡ room
      → (n ≤ 1024) × (n * frontier_length v ≤ length window) × (n * frontier_length w ≤ length target)
      × (some_too_large v w (window_parts n) window ≡ false)
  window_asked n h e =
      let right = move_right h in
      rw e (right.few, omega (arith, right.whole), omega (arith, right.target_whole), (move_fits h).1)

  pub move_whole : (n : ℕ) (bytes frontiers : List ℕ) → fault ≡ 0 → n ≡ room → bytes ≡ moved v w record_parts s
      → frontiers ≡ sets target 0 (moved v w (window_parts n) window)
      → (0 ≡ (move_call v w s window t target).number) × (bytes ≡ (move_call v w s window t target).bytes)
      × (frontiers ≡ (move_call v w s window t target).window)
  unfolding whole
  move_whole n bytes frontiers h e b f =
      let done : move_call v w s window t target ≡ whole = move_by ∙ rw (eq-eqb fault 0 h) in
      let right = move_right h in
      let read : length_of v (window_parts room) ≤ length window =
      omega (arith, length-window_parts v room, right.whole) in
      let room_there : length target ≡ length_of w (window_parts room) =
      right.target_whole ∙ sym (length-window_parts w room) in
      let all = all-written v w (window_parts room) window target read room_there in
      (rw done, rw done b, rw done (f ∙ rw e all))
