-- Caps from n on make the same trial, and so the same take, where no pending event would leave more than n frontiers.
use Rattle.std.specs.Prelude.{ℕ, ◌≤◌, min, ◌≡◌, refl, Bool, true, false, cond, ◌&&◌, T, ltb, leb, length}
use Rattle.std.proofs.Common.{le_trans, ap, leb→le, le→leb}
use Rattle.std.proofs.Math.Nat.{le-min, min-le_right}
use mathlib.Core.List.{List, [], ◌∷◌, Memᴰ}
use Rattle.clocks.specs.declared.Event.{Event}
use Rattle.clocks.specs.cuts.EventLaws.{true-T}
use Rattle.clocks.specs.stored.BoundedLaws.{same_test}
use Rattle.frontiers.specs.declared.Frontier.{Frontier}
use Rattle.frontiers.specs.Bytes.{frontiers}
use Rattle.window.specs.Step.{Setting, fits, kept_after}
use Rattle.records.specs.Record.{kept_count, pending_at, pending_events, ready_in}
use Rattle.refusals.specs.Refusals.{room_of, bad_state}
use Rattle.trial.specs.Trial.{valid_among, setting_in, in_turn, chosen, tried, trial}
use Rattle.trial.specs.TrialLaws.{pending_below}
use Rattle.call_take.specs.Take.{decided, bad_lengths, take_within, allowed_of, take_capped}
use Rattle.call_take.specs.TakeCaps.{NoneAbove, CapsMakeNoDifference}

-- ---- The window fits under both or under neither

within : (m n cap cap' room : ℕ) → m ≤ n → n ≤ cap' → T (leb m (min cap room)) → T (leb m (min cap' room))
within m n cap cap' room few large t =
    le→leb m (min cap' room)
    (le-min (le_trans few large) (le_trans (leb→le m (min cap room) t) (min-le_right cap room)))

same_fit : (s : Setting) (fs : List Frontier) (n cap cap' room : ℕ) → kept_after s fs ≤ n → n ≤ cap → n ≤ cap'
    → fits s (min cap room) fs ≡ fits s (min cap' room) fs
unfolding fits
same_fit s fs n cap cap' room few large large' =
    let m = kept_after s fs in
    ap (λ (b : Bool). ltb 0 m && b)
    (same_test (leb m (min cap room)) (leb m (min cap' room)) (within m n cap cap' room few large')
    (within m n cap' cap room few large))

-- ---- So the same is decided

same-tried : (w : ℕ) (s : List ℕ) (valid : Event → Bool) (allowed allowed' : ℕ) (fs : List Frontier) (seen : Bool)
    (places : List ℕ)
    → ((i : ℕ) → Memᴰ i places → T (ready_in w s (pending_at w s i)) → T (valid (pending_at w s i))
    → fits (setting_in w s (pending_at w s i)) allowed fs ≡ fits (setting_in w s (pending_at w s i)) allowed' fs)
    → tried w s valid allowed fs seen places ≡ tried w s valid allowed' fs seen places
unfolding tried
same-tried w s valid allowed allowed' fs seen [] same = refl
same-tried w s valid allowed allowed' fs seen (i ∷ is) same =
    go (ready_in w s e) refl (valid e) refl
    (λ b. same-tried w s valid allowed allowed' fs b is (λ j m. same j (Memᴰ.tail m)))
  where
    e : Event
    e = pending_at w s i

    go : (a : Bool) → ready_in w s e ≡ a → (b : Bool) → valid e ≡ b
        → ((seen' : Bool) → tried w s valid allowed fs seen' is ≡ tried w s valid allowed' fs seen' is)
        → tried w s valid allowed fs seen (i ∷ is) ≡ tried w s valid allowed' fs seen (i ∷ is)
    go false p b q rest = rw p (rest seen)
    go true p false q rest = rw (p, q)
    go true p true q rest =
        rw (p, q, same i (Memᴰ.head refl) (true-T p) (true-T q))
        (ap (cond (fits (setting_in w s e) allowed' fs) (chosen i)) (rest true))

pub same-trial_capped : (w n cap cap' : ℕ) (s window : List ℕ) → NoneAbove w n s window → n ≤ cap → n ≤ cap'
    → trial w s (allowed_of w cap window) (frontiers w window (kept_count s))
    ≡ trial w s (allowed_of w cap' window) (frontiers w window (kept_count s))
same-trial_capped w n cap cap' s window none large large' =
    let fs = frontiers w window (kept_count s) in
    same-tried w s (valid_among fs) (allowed_of w cap window) (allowed_of w cap' window) fs false
    (in_turn (pending_events w s))
    (λ i m r v. same_fit (setting_in w s (pending_at w s i)) fs n cap cap' (room_of w (length window))
    (none i (pending_below w s i m) r v) large large')

-- ---- Theorem
pub caps_make_no_difference : CapsMakeNoDifference
unfolding take_capped take_within
caps_make_no_difference w n cap cap' s window scratch none large large' =
    go (bad_lengths w (length s) (length window) (length scratch)) refl (bad_state w (room_of w (length window)) s) refl
  where
    go : (a : Bool) → bad_lengths w (length s) (length window) (length scratch) ≡ a
        → (b : Bool) → bad_state w (room_of w (length window)) s ≡ b
        → take_capped w cap s window scratch ≡ take_capped w cap' s window scratch
    go true p b q = rw p
    go false p true q = rw (p, q)
    go false p false q =
        rw (p, q) (ap (decided w s window (frontiers w window (kept_count s)))
        (same-trial_capped w n cap cap' s window (none (p, q)) large large'))
