-- Calls that were lent other buffers than the watch's, of any lengths and bytes (01, demand 3: refused calls among
-- them): what they answer, and which buffers they leave. A list of calls may have them anywhere, where 6 or 34 is the
-- answer.
use Rattle.std.specs.Prelude.{ℕ, ◌≡◌, Bool, ◌||◌, List, [], ◌⊎◌, length}
use Rattle.numbers.specs.Refusal.{length_number, state_number}
use Rattle.refusals.specs.Refusals.{bad_record_length, bad_window_length, room_of, bad_state}
use Rattle.answers.specs.Answer.{Answer, turned_back}
use Rattle.call_offer.specs.Offer.{offer_call}
use Rattle.call_take.specs.Take.{bad_lengths, take_capped}
use Rattle.call_find.specs.Find.{find_call}
use Rattle.call_close.specs.Close.{close_call}

-- A call with its arguments and the buffers that it is lent: the record's, the window's, the scratch.
pub data Mislent : Type 0 where
  offer_lent : (mask : ℕ) (clock labels s : List ℕ) → Mislent
  take_lent : (cap : ℕ) (s window scratch : List ℕ) → Mislent
  find_lent : (line : ℕ) (s window : List ℕ) → Mislent
  close_lent : (p : ℕ) (s window : List ℕ) → Mislent

-- What it answers.
unfoldable pub answer_to : (w : ℕ) (m : Mislent) → Answer
answer_to w (offer_lent mask clock labels s) = (offer_call w mask clock labels s).answer
answer_to w (take_lent cap s window scratch) = (take_capped w cap s window scratch).answer
answer_to w (find_lent line s window) = find_call w line s window
answer_to w (close_lent p s window) = (close_call w p s window).answer

-- It is turned back by 6 or by 34.
abbrev pub TurnedAway : (w : ℕ) (m : Mislent) → Type 0
TurnedAway w m = (answer_to w m ≡ turned_back length_number 0) ⊎ (answer_to w m ≡ turned_back state_number 0)

-- ---- What it was lent and what it leaves

-- Three buffers; one that a call is not lent has no bytes.
pub record Buffers : Type 0 where
  pub bytes : List ℕ
  pub window : List ℕ
  pub scratch : List ℕ

unfoldable pub lent_to : (m : Mislent) → Buffers
lent_to (offer_lent mask clock labels s) = record { bytes = s; window = []; scratch = [] }
lent_to (take_lent cap s window scratch) = record { bytes = s; window = window; scratch = scratch }
lent_to (find_lent line s window) = record { bytes = s; window = window; scratch = [] }
lent_to (close_lent p s window) = record { bytes = s; window = window; scratch = [] }

-- Find writes in none.
unfoldable pub left_by : (w : ℕ) (m : Mislent) → Buffers
left_by w (offer_lent mask clock labels s) =
    record { bytes = (offer_call w mask clock labels s).bytes; window = []; scratch = [] }
left_by w (take_lent cap s window scratch) =
    let r = take_capped w cap s window scratch in
    record { bytes = r.bytes; window = r.window; scratch = r.scratch }
left_by w (find_lent line s window) = record { bytes = s; window = window; scratch = [] }
left_by w (close_lent p s window) =
    let r = close_call w p s window in
    record { bytes = r.bytes; window = r.window; scratch = [] }

-- ---- When it is turned back so

-- 6: a buffer that it is lent has a wrong length.
unfoldable pub wrong_lengths : (w : ℕ) (m : Mislent) → Bool
wrong_lengths w (offer_lent mask clock labels s) = bad_record_length w (length s)
wrong_lengths w (take_lent cap s window scratch) = bad_lengths w (length s) (length window) (length scratch)
wrong_lengths w (find_lent line s window) = bad_record_length w (length s) || bad_window_length w (length window)
wrong_lengths w (close_lent p s window) = bad_record_length w (length s) || bad_window_length w (length window)

-- 34, where the lengths are right: an offer is lent no window, and 1,024 frontiers are the most that any has.
unfoldable pub wrong_state : (w : ℕ) (m : Mislent) → Bool
wrong_state w (offer_lent mask clock labels s) = bad_state w 1024 s
wrong_state w (take_lent cap s window scratch) = bad_state w (room_of w (length window)) s
wrong_state w (find_lent line s window) = bad_state w (room_of w (length window)) s
wrong_state w (close_lent p s window) = bad_state w (room_of w (length window)) s
