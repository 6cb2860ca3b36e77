-- A move (02 [6]): a watch with counts of v bytes is written as one with counts of w bytes, every place of it, used or
-- not. Widening is the move from 2 to 4, narrowing the one from 4 to 2.
use Rattle.std.specs.Prelude.{ℕ, ◌*◌, ◌^◌, Bool, false, cond, not, ◌||◌, List, [], ◌∷◌, ◌++◌, leb, eqb, length, take, drop}
use Rattle.codec.specs.Little.{number}
use Rattle.clocks.specs.Counts.{list_of}
use Rattle.clocks.specs.Bounded.{any_below}
use Rattle.frontiers.specs.Bytes.{count_bytes}
use Rattle.refusals.specs.Refusals.{bad_record_length, bad_window_length, room_of, bad_state}
use Rattle.numbers.specs.Refusal.{length_number, state_number, too_large_number}
use Rattle.call_move.specs.Parts.{Part, plain, counts, record_parts, window_parts}

-- ---- Bytes moved

-- The first n counts of v bytes.
unfoldable pub counts_from : (v n : ℕ) (s : List ℕ) → List ℕ
counts_from v n s = list_of n (λ i. number s (i * v) v)

-- Parts moved: bytes as they are, counts of v bytes written with w bytes.
unfoldable pub moved : (v w : ℕ) (parts : List Part) (s : List ℕ) → List ℕ
moved v w [] s = []
moved v w (plain n ∷ ps) s = take n s ++ moved v w ps (drop n s)
moved v w (counts n ∷ ps) s = count_bytes w (counts_from v n s) ++ moved v w ps (drop (n * v) s)

-- A count has no place in w bytes.
unfoldable pub too_large : (w c : ℕ) → Bool
too_large w c = leb (256 ^ w) c

-- Some count of the parts has none.
unfoldable pub some_too_large : (v w : ℕ) (parts : List Part) (s : List ℕ) → Bool
some_too_large v w [] s = false
some_too_large v w (plain n ∷ ps) s = some_too_large v w ps (drop n s)
some_too_large v w (counts n ∷ ps) s =
    any_below n (λ i. too_large w (number s (i * v) v)) || some_too_large v w ps (drop (n * v) s)

-- ---- The call

-- 6: one of the four lengths is wrong for its form, or the windows are not of as many frontiers.
unfoldable pub bad_move_lengths : (v w record_length window_length target_length target_window_length : ℕ) → Bool
bad_move_lengths v w record_length window_length target_length target_window_length =
    bad_record_length v record_length
    || (bad_window_length v window_length
    || (bad_record_length w target_length
    || (bad_window_length w target_window_length
    || not (eqb (room_of v window_length) (room_of w target_window_length)))))

-- 43: some count of the record or of the window, in an unused place too, is too large for w bytes. (From 2 bytes to 4
-- none is.)
unfoldable pub overflows : (v w : ℕ) (s window : List ℕ) → Bool
overflows v w s window =
    some_too_large v w record_parts s || some_too_large v w (window_parts (room_of v (length window))) window

-- What a move answers, a number, 0 for moved, and leaves in the record and the window that it writes. Those that it
-- reads stay as they are.
pub record Moved : Type 0 where
  pub number : ℕ
  pub bytes : List ℕ
  pub window : List ℕ

-- The watch of record s and window `window`, moved to a record t and a window `target`.
unfoldable pub move_call : (v w : ℕ) (s window t target : List ℕ) → Moved
move_call v w s window t target =
    let turned : ℕ → Moved = λ n. record { number = n; bytes = t; window = target } in
    cond (bad_move_lengths v w (length s) (length window) (length t) (length target)) (turned length_number)
    (cond (bad_state v (room_of v (length window)) s) (turned state_number)
    (cond (overflows v w s window) (turned too_large_number)
    (record {
      number = 0;
      bytes = moved v w record_parts s;
      window = moved v w (window_parts (room_of v (length window))) window;
    })))
