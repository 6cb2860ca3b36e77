-- What is known where a move is accepted, and where its number is another.
use Rattle.std.specs.Prelude.{ℕ, ◌*◌, ◌≡◌, refl, Bool, true, false, List, length}
use Rattle.std.proofs.Common.{arith, ◌∙◌}
use Rattle.frontiers.specs.Bytes.{frontier_length}
use Rattle.refusals.specs.Refusals.{room_of, bad_state}
use Rattle.call_move.specs.Parts.{record_parts, window_parts}
use Rattle.call_move.specs.PartLaws.{length-window_parts, length_moved}
use Rattle.call_move.specs.LengthLaws.{right_lengths}
use Rattle.call_move.specs.Move.{moved, bad_move_lengths, overflows, move_call}

pub record Passes (v w : ℕ) (s window t target : List ℕ) : Type 0 where
  pub lengths : bad_move_lengths v w (length s) (length window) (length t) (length target) ≡ false
  pub state : bad_state v (room_of v (length window)) s ≡ false
  pub fits : overflows v w s window ≡ false
  pub moves : move_call v w s window t target ≡ record {
    number = 0;
    bytes = moved v w record_parts s;
    window = moved v w (window_parts (room_of v (length window))) window;
  }

pub passes : (v w : ℕ) (s window t target : List ℕ) → (move_call v w s window t target).number ≡ 0
    → Passes v w s window t target
unfolding move_call
passes v w s window t target q =
    go (bad_move_lengths v w (length s) (length window) (length t) (length target)) refl
    (bad_state v (room_of v (length window)) s) refl (overflows v w s window) refl
  where
    go : (a : Bool) → bad_move_lengths v w (length s) (length window) (length t) (length target) ≡ a
        → (b : Bool) → bad_state v (room_of v (length window)) s ≡ b → (c : Bool) → overflows v w s window ≡ c
        → Passes v w s window t target
    go true h b i c j = let z : ◌≡◌ {A = ℕ} 6 0 = rw h at q in absurd (omega arith)
    go false h true i c j = let z : ◌≡◌ {A = ℕ} 34 0 = rw (h, i) at q in absurd (omega arith)
    go false h false i true j = let z : ◌≡◌ {A = ℕ} 43 0 = rw (h, i, j) at q in absurd (omega arith)
    go false h false i false j = record { lengths = h; state = i; fits = j; moves = rw (h, i, j) }

-- The window that is written then: as many frontiers as the other has room for.
pub window_written : (v w : ℕ) (s window t target : List ℕ) → Passes v w s window t target
    → length (moved v w (window_parts (room_of v (length window))) window) ≡ room_of v (length window) * frontier_length w
window_written v w s window t target p =
    let n : ℕ = room_of v (length window) in
    let long = right_lengths v w (length s) (length window) (length t) (length target) p.lengths in
    length_moved v w (window_parts n) window (omega (arith, long.whole, length-window_parts v n))
    ∙ length-window_parts w n

-- 43 comes only where some count is too large.
pub too_large : (v w : ℕ) (s window t target : List ℕ) → (move_call v w s window t target).number ≡ 43
    → overflows v w s window ≡ true
unfolding move_call
too_large v w s window t target q =
    go (bad_move_lengths v w (length s) (length window) (length t) (length target)) refl
    (bad_state v (room_of v (length window)) s) refl (overflows v w s window) refl
  where
    go : (a : Bool) → bad_move_lengths v w (length s) (length window) (length t) (length target) ≡ a
        → (b : Bool) → bad_state v (room_of v (length window)) s ≡ b → (c : Bool) → overflows v w s window ≡ c
        → overflows v w s window ≡ true
    go true h b i c j = let z : ◌≡◌ {A = ℕ} 6 43 = rw h at q in absurd (omega arith)
    go false h true i c j = let z : ◌≡◌ {A = ℕ} 34 43 = rw (h, i) at q in absurd (omega arith)
    go false h false i true j = j
    go false h false i false j = let z : ◌≡◌ {A = ℕ} 0 43 = rw (h, i, j) at q in absurd (omega arith)

-- The number by the conditions.
module _ (v w : ℕ) (s window t target : List ℕ) where
  pub number_6 : bad_move_lengths v w (length s) (length window) (length t) (length target) ≡ true
      → (move_call v w s window t target).number ≡ 6
  unfolding move_call
  number_6 h = rw h

  pub number_43 : bad_move_lengths v w (length s) (length window) (length t) (length target) ≡ false
      → bad_state v (room_of v (length window)) s ≡ false → overflows v w s window ≡ true
      → (move_call v w s window t target).number ≡ 43
  unfolding move_call
  number_43 h i j = rw (h, i, j)

  pub number_0 : bad_move_lengths v w (length s) (length window) (length t) (length target) ≡ false
      → bad_state v (room_of v (length window)) s ≡ false → overflows v w s window ≡ false
      → (move_call v w s window t target).number ≡ 0
  unfolding move_call
  number_0 h i j = rw (h, i, j)
