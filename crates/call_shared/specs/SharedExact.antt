-- What is true of every open, take and close of a watch that shares, on all bytes (02 [10]): each refusal of its own,
-- exactly if; else it is the plain call; what it leaves in the pool; how its word is told apart. Proved in
-- SharedOpenTheorem, SharedTakeTheorem and SharedCloseTheorem.
use Rattle.std.specs.Prelude.{ℕ, ◌+◌, ◌≤◌, ◌<◌, ◌≡◌, true, false, List, ◌⊎◌, ◌↔◌, ◌≢◌, length, get_or}
use Rattle.codec.specs.Little.{Bytes}
use Rattle.numbers.specs.Limit.{most_members}
use Rattle.numbers.specs.Refusal.{atom_number, labels_number, length_number, processes_number, state_number}
use Rattle.records.specs.Record.{kept_count}
use Rattle.refusals.specs.Refusals.{room_of, bad_state}
use Rattle.answers.specs.Answer.{Answer, turned_back}
use Rattle.answers.specs.Kinds.{is_turned_back}
use Rattle.pool.specs.Pool.{share_at, kept_place, kept_at, pool_length, allowance}
use Rattle.call_open.specs.Open.{Opened, open_call}
use Rattle.call_open.specs.OpenExact.{RightBuffers}
use Rattle.call_open.specs.OpenReplies.{OpenWord}
use Rattle.call_take.specs.Take.{Taken, take_capped}
use Rattle.call_take.specs.TakeReplies.{TakeTold}
use Rattle.call_close.specs.Close.{Closed, close_call}
use Rattle.call_close.specs.CloseReplies.{CloseTold}
use Rattle.call_shared.specs.Shared.{Shared, shared_open, shared_take, shared_close}

-- ---- What the calls have in common

-- Watch i has no share: its number is not below 8, or the pool has 0 for it.
abbrev pub Shareless : (pool : List ℕ) (i : ℕ) → Type 0
Shareless pool i = (most_members ≤ i) ⊎ (share_at pool i ≡ 0)

-- Record, window and pool have right lengths.
abbrev pub RightlyPooled : (w : ℕ) (s window pool : List ℕ) → Type 0
RightlyPooled w s window pool = RightBuffers w s window × (length pool ≡ pool_length)

-- What 34 asks of a take or a close: the record is none, or is with too short a window, or the watch has no share.
abbrev pub Unfit : (w : ℕ) (s window pool : List ℕ) (i : ℕ) → Type 0
Unfit w s window pool i = (bad_state w (room_of w (length window)) s ≡ true) ⊎ Shareless pool i

-- What a call of watch i that gives this answer, and leaves this record, makes of the pool.
pub record PoolExact (pool : List ℕ) (i : ℕ) (a : Answer) (s after : List ℕ) : Type 0 where
  -- no refusal writes it
  pub refused_leaves : (n place : ℕ) → a ≡ turned_back n place → after ≡ pool
  -- else, "nothing ready" too, the watch's number kept becomes the record's
  pub kept_written : is_turned_back a ≡ false → kept_at after i ≡ kept_count s
  -- and no other byte is written
  pub others_stay : is_turned_back a ≡ false → (place : ℕ) → place ≢ kept_place i → place ≢ kept_place i + 1
      → get_or after place 0 ≡ get_or pool place 0
  pub long : is_turned_back a ≡ false → length after ≡ pool_length

-- ---- Open

-- What its word tells: that of a plain open, but 34 too turns it back.
pub record SharedOpenTold (w : ℕ) (o : Opened) : Type 0 where
  pub word : OpenWord w o
  pub turned_by : (n place : ℕ) → o.answer ≡ turned_back n place
      → ((place ≡ 0)
      × ((n ≡ length_number) ⊎ ((n ≡ state_number) ⊎ ((n ≡ processes_number) ⊎ (n ≡ labels_number)))))
      ⊎ ((1 ≤ n) × (n ≤ atom_number) × (place < 1024))

pub record SharedOpenExact (w : ℕ) (text : List ℕ) (k : ℕ) (labels s window pool : List ℕ) (i : ℕ)
    (r : Shared Opened) : Type 0 where
  pub wrong_length : (r.call.answer ≡ turned_back length_number 0) ↔ (RightlyPooled w s window pool → ⊥)
  pub no_share : (r.call.answer ≡ turned_back state_number 0) ↔ (RightlyPooled w s window pool × Shareless pool i)
  -- else it is the plain open, and every other answer is the plain one's (call_open OpenExact)
  pub else_plain : RightlyPooled w s window pool → (Shareless pool i → ⊥)
      → r.call ≡ open_call w text k labels s window
  pub else_exactly : (a : Answer) → a ≢ turned_back length_number 0 → a ≢ turned_back state_number 0
      → (r.call.answer ≡ a)
      ↔ (RightlyPooled w s window pool × (Shareless pool i → ⊥) × ((open_call w text k labels s window).answer ≡ a))
  pub refused_leaves : (n place : ℕ) → r.call.answer ≡ turned_back n place
      → (r.call.bytes ≡ s) × (r.call.window ≡ window)
  pub pool_exact : PoolExact pool i r.call.answer r.call.bytes r.pool
  pub told : SharedOpenTold w r.call

abbrev pub SharedOpenIsExact : Type 0
SharedOpenIsExact =
    (w : ℕ) (text : List ℕ) (k : ℕ) (labels s window pool : List ℕ) (i : ℕ)
    → SharedOpenExact w text k labels s window pool i (shared_open w text k labels s window pool i)

-- ---- Take

-- Lengths as take asks for: the scratch is as long as the window.
abbrev pub TakeLengths : (w : ℕ) (s window scratch pool : List ℕ) → Type 0
TakeLengths w s window scratch pool = RightlyPooled w s window pool × (length scratch ≡ length window)

pub record SharedTakeExact (w : ℕ) (s window scratch pool : List ℕ) (i : ℕ) (r : Shared Taken) : Type 0 where
  pub wrong_length : (r.call.answer ≡ turned_back length_number 0) ↔ (TakeLengths w s window scratch pool → ⊥)
  pub no_share : (r.call.answer ≡ turned_back state_number 0)
      ↔ (TakeLengths w s window scratch pool × Unfit w s window pool i)
  -- else it is a take under the cap that the pool allows, and so is every other answer
  pub else_plain : TakeLengths w s window scratch pool → bad_state w (room_of w (length window)) s ≡ false
      → (Shareless pool i → ⊥)
      → r.call ≡ take_capped w (allowance pool i) s window scratch
  pub else_exactly : (a : Answer) → a ≢ turned_back length_number 0 → a ≢ turned_back state_number 0
      → (r.call.answer ≡ a)
      ↔ (TakeLengths w s window scratch pool × (Unfit w s window pool i → ⊥)
      × ((take_capped w (allowance pool i) s window scratch).answer ≡ a))
  pub unfit_leaves : (n : ℕ) → (n ≡ length_number) ⊎ (n ≡ state_number) → r.call.answer ≡ turned_back n 0
      → (r.call.bytes ≡ s) × (r.call.window ≡ window) × (r.call.scratch ≡ scratch)
  pub pool_exact : PoolExact pool i r.call.answer r.call.bytes r.pool
  -- the word of a plain take
  pub told : Bytes s → TakeTold w r.call

abbrev pub SharedTakeIsExact : Type 0
SharedTakeIsExact =
    (w : ℕ) (s window scratch pool : List ℕ) (i : ℕ)
    → SharedTakeExact w s window scratch pool i (shared_take w s window scratch pool i)

-- ---- Close

pub record SharedCloseExact (w p : ℕ) (s window pool : List ℕ) (i : ℕ) (r : Shared Closed) : Type 0 where
  pub wrong_length : (r.call.answer ≡ turned_back length_number 0) ↔ (RightlyPooled w s window pool → ⊥)
  pub no_share : (r.call.answer ≡ turned_back state_number 0)
      ↔ (RightlyPooled w s window pool × Unfit w s window pool i)
  -- else it is the plain close, and every other answer is the plain one's
  pub else_plain : RightlyPooled w s window pool → bad_state w (room_of w (length window)) s ≡ false
      → (Shareless pool i → ⊥)
      → r.call ≡ close_call w p s window
  pub else_exactly : (a : Answer) → a ≢ turned_back length_number 0 → a ≢ turned_back state_number 0
      → (r.call.answer ≡ a)
      ↔ (RightlyPooled w s window pool × (Unfit w s window pool i → ⊥) × ((close_call w p s window).answer ≡ a))
  pub refused_leaves : (n place : ℕ) → r.call.answer ≡ turned_back n place
      → (r.call.bytes ≡ s) × (r.call.window ≡ window)
  pub pool_exact : PoolExact pool i r.call.answer r.call.bytes r.pool
  -- the word of a plain close
  pub told : CloseTold r.call.answer

abbrev pub SharedCloseIsExact : Type 0
SharedCloseIsExact =
    (w p : ℕ) (s window pool : List ℕ) (i : ℕ)
    → SharedCloseExact w p s window pool i (shared_close w p s window pool i)
