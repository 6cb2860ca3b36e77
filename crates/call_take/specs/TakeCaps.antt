-- The cap of a take makes no difference where no pending event would leave more frontiers (01, The calls: take). Proved
-- in TakeCapsLaws.
use Rattle.std.specs.Prelude.{ℕ, ◌≤◌, ◌<◌, ◌≡◌, false, List, T, length}
use Rattle.frontiers.specs.Bytes.{frontiers}
use Rattle.window.specs.Step.{kept_after}
use Rattle.records.specs.Record.{pending_count, kept_count, pending_at, ready_in}
use Rattle.refusals.specs.Refusals.{room_of, bad_state}
use Rattle.trial.specs.Trial.{valid_among, setting_in}
use Rattle.call_take.specs.Take.{bad_lengths, take_capped}

-- No pending event that is ready and has a valid clock would leave more than n frontiers.
abbrev pub NoneAbove : (w n : ℕ) (s window : List ℕ) → Type 0
NoneAbove w n s window =
    let fs = frontiers w window (kept_count s) in
    (i : ℕ) → i < pending_count s → T (ready_in w s (pending_at w s i)) → T (valid_among fs (pending_at w s i))
    → kept_after (setting_in w s (pending_at w s i)) fs ≤ n

-- Lengths and state are right: neither 6 nor 34 comes.
abbrev pub RightlyLent : (w : ℕ) (s window scratch : List ℕ) → Type 0
RightlyLent w s window scratch =
    (bad_lengths w (length s) (length window) (length scratch) ≡ false)
    × (bad_state w (room_of w (length window)) s ≡ false)

-- Then all caps from n on make the same take, in answer and bytes. (Where 6 or 34 comes, all caps do.)
abbrev pub CapsMakeNoDifference : Type 0
CapsMakeNoDifference =
    (w n cap cap' : ℕ) (s window scratch : List ℕ) → (RightlyLent w s window scratch → NoneAbove w n s window)
    → n ≤ cap → n ≤ cap' → take_capped w cap s window scratch ≡ take_capped w cap' s window scratch
