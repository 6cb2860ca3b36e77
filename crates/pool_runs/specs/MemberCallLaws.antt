-- The shared calls of a number that has a share, lent a pool of the right length: they are the plain calls, the take
-- under the cap that the pool allows; and what an open comes to.
use Prim.Native.Nat.{ℕ, zero, suc, ◌≤◌, ◌<◌}
use Rattle.std.proofs.Common.{arith, eq-eqb, leb-false}
use Rattle.std.specs.Prelude.{◌≡◌, Bool, ◌||◌, List, leb, eqb, length}
use Rattle.std.proofs.Math.Path.{refl, ap}
use Rattle.std.proofs.Math.Bool.{true, false}
use Rattle.std.proofs.lemmas.Bool.{eqb-false}
use Rattle.clocks.specs.stored.BoundedLaws.{or-false_e}
use Rattle.numbers.specs.Limit.{most_members}
use Rattle.records.specs.Record.{kept_count}
use Rattle.refusals.specs.Refusals.{bad_record_length, bad_window_length, room_of, bad_state}
use Rattle.answers.specs.Answer.{turned_back, state_of}
use Rattle.answers.specs.Kinds.{is_turned_back}
use Rattle.answers.specs.Turns.{by_test}
use Rattle.pool.specs.Pool.{share_at, pool_length, bad_pool_length, no_share, allowance, brought_up}
use Rattle.call_open.specs.Open.{Opened, open_table, open_call}
use Rattle.call_take.specs.Take.{bad_lengths, take_capped}
use Rattle.call_close.specs.Close.{close_call}
use Rattle.call_shared.specs.Shared.{Shared, pool_after, shared_open, shared_take, shared_close}
use Rattle.demands.specs.EveryList.{Accepts}
use Rattle.demands.specs.calls.OpenLaws.{OpenCase, open_case, turns_back, opens}

pub good_length : (pool : List ℕ) → length pool ≡ pool_length → bad_pool_length (length pool) ≡ false
unfolding bad_pool_length
good_length pool size = rw (eq-eqb (length pool) pool_length size)

positive : (n : ℕ) → (n ≡ 0 → ⊥) → 1 ≤ n
positive zero some = absurd (some refl)
positive (suc n) some = omega arith

pub with_share : (pool : List ℕ) (i : ℕ) → no_share pool i ≡ false → (i < most_members) × (1 ≤ share_at pool i)
unfolding no_share
with_share pool i h =
    let both = or-false_e (leb most_members i) (eqb (share_at pool i) 0) h in
    let some : share_at pool i ≡ 0 → ⊥ = eqb-false (share_at pool i) 0 both.1 in
    (leb-false most_members i both.0, positive (share_at pool i) some)

-- ---- A number that has a share
module _ (w : ℕ) (pool : List ℕ) (i : ℕ) (size : length pool ≡ pool_length) (share : no_share pool i ≡ false) where
  pub take_as : (s window scratch : List ℕ)
      → let t = take_capped w (allowance pool i) s window scratch in
      shared_take w s window scratch pool i ≡ record { call = t; pool = pool_after pool i t.answer t.bytes }
  unfolding shared_take take_capped pool_after
  take_as s window scratch =
      go (bad_lengths w (length s) (length window) (length scratch)) refl (bad_state w (room_of w (length window)) s) refl
    where
      go : (b : Bool) → bad_lengths w (length s) (length window) (length scratch) ≡ b
          → (c : Bool) → bad_state w (room_of w (length window)) s ≡ c
          → let t = take_capped w (allowance pool i) s window scratch in
          shared_take w s window scratch pool i ≡ record { call = t; pool = pool_after pool i t.answer t.bytes }
      go true b c d = rw b
      go false b true d = rw (b, d, good_length pool size)
      go false b false d = rw (b, d, good_length pool size, share)

  pub close_as : (p : ℕ) (s window : List ℕ)
      → let c = close_call w p s window in
      shared_close w p s window pool i ≡ record { call = c; pool = pool_after pool i c.answer c.bytes }
  unfolding shared_close close_call pool_after
  close_as p s window =
      go (bad_record_length w (length s)) refl (bad_window_length w (length window)) refl
      (bad_state w (room_of w (length window)) s) refl
    where
      go : (a : Bool) → bad_record_length w (length s) ≡ a → (b : Bool) → bad_window_length w (length window) ≡ b
          → (c : Bool) → bad_state w (room_of w (length window)) s ≡ c
          → let r = close_call w p s window in
          shared_close w p s window pool i ≡ record { call = r; pool = pool_after pool i r.answer r.bytes }
      go true a b c d e = rw a
      go false a true c d e = rw (a, c)
      go false a false c true e = rw (a, c, e, good_length pool size)
      go false a false c false e = rw (a, c, e, good_length pool size, share)

-- ---- Open

-- Refused, it leaves the pool; accepted, its number has a share, and is one.
pub data SharedOpenCase (w : ℕ) (text : List ℕ) (k : ℕ) (labels s window pool : List ℕ) (i : ℕ) (r : Shared Opened)
    : Type 0 where
  refused_open : is_turned_back r.call.answer ≡ true → r.pool ≡ pool
      → SharedOpenCase w text k labels s window pool i r
  accepted_open : no_share pool i ≡ false → Accepts w text k labels s window → is_turned_back r.call.answer ≡ false
      → r.call ≡ open_call w text k labels s window → r.pool ≡ brought_up pool i (kept_count r.call.bytes)
      → SharedOpenCase w text k labels s window pool i r

module _ (w : ℕ) (text : List ℕ) (k : ℕ) (labels s window pool : List ℕ) (i : ℕ) where
  abbrev o : Opened
  o = open_call w text k labels s window

  plain_case : no_share pool i ≡ false
      → SharedOpenCase w text k labels s window pool i
      (record { call = o; pool = pool_after pool i o.answer o.bytes })
  unfolding pool_after open_table state_of
  plain_case share = go (open_case w text k labels s window)
    where
      go : OpenCase w text k labels s window
          → SharedOpenCase w text k labels s window pool i
          (record { call = o; pool = pool_after pool i o.answer o.bytes })
      go (turns_back n x q) = rw q (refused_open refl refl)
      go (opens f x h6 h5 h9 h q) =
          let a = ap (λ (z : Opened). z.answer) q in
          accepted_open share (_, _, _, a) (ap is_turned_back a) refl (rw (ap is_turned_back a))

  pub shared_open_case : SharedOpenCase w text k labels s window pool i (shared_open w text k labels s window pool i)
  unfolding shared_open
  shared_open_case =
      let P = SharedOpenCase w text k labels s window pool i in
      let back : ℕ → Shared Opened = λ n.
      record { call = record { answer = turned_back n 0; bytes = s; window = window }; pool = pool } in
      let six = bad_record_length w (length s) || (bad_window_length w (length window) || bad_pool_length (length pool)) in
      by_test P six (back 6) _ (λ _. refused_open refl refl) λ _.
      by_test P (no_share pool i) (back 34) _ (λ _. refused_open refl refl) λ share.
      plain_case share
