-- What the number of a fault says: a call is turned back with it, or record and window are good.
use Rattle.std.specs.Prelude.{ℕ, ◌*◌, ◌≤◌, ◌≡◌, Bool, cond, ◌||◌, List, length}
use Rattle.std.proofs.Common.{arith}
use Rattle.std.proofs.Math.Path.{refl}
use Rattle.std.proofs.Math.Bool.{true, false}
use Rattle.clocks.specs.stored.BoundedLaws.{or-false_e}
use Rattle.frontiers.specs.Bytes.{frontier_length}
use Rattle.records.specs.Record.{record_length, process_count, line_total, pending_count, kept_count}
use Rattle.refusals.specs.Refusals.{bad_record_length, bad_window_length, room_of, bad_state}
use Rattle.refusals.specs.RefusalCode.{watch_fault}
use Rattle.refusals.specs.RefusalLaws.{right_length, state-within, room_within}

-- By the two tests, with what a call asks for behind.
abbrev number : Bool → Bool → ℕ → ℕ
number wrong damaged x = cond wrong 6 (cond damaged 34 x)

module _ (w : ℕ) (s : List ℕ) (n : ℕ) where
  abbrev wrong : Bool
  wrong = bad_record_length w (length s) || bad_window_length w n

  abbrev damaged : Bool
  damaged = bad_state w (room_of w n) s

  -- Where it is not 0 it is the number of a call that asks for more behind.
  pub fault_first : (x : ℕ) → (watch_fault w s n ≡ 0 → ⊥) → watch_fault w s n ≡ number wrong damaged x
  unfolding watch_fault
  fault_first x some = go wrong damaged some
    where
      go : (a b : Bool) → (number a b 0 ≡ 0 → ⊥) → number a b 0 ≡ number a b x
      go true b h = refl
      go false true h = refl
      go false false h = absurd (h refl)

  -- Where it is 0 there is neither.
  pub no_fault : watch_fault w s n ≡ 0 → (wrong ≡ false) × (damaged ≡ false)
  unfolding watch_fault
  no_fault none = go wrong damaged none
    where
      go : (a b : Bool) → number a b 0 ≡ 0 → (a ≡ false) × (b ≡ false)
      go true b h = absurd (omega arith)
      go false true h = absurd (omega arith)
      go false false h = (refl, refl)

  pub fault_passed : (x : ℕ) → watch_fault w s n ≡ 0 → number wrong damaged x ≡ x
  fault_passed x none = let good = no_fault none in rw (good.0, good.1)

  -- What is known then.
  pub record Good : Type 0 where
    pub record_long : length s ≡ record_length w
    pub processes : process_count s ≤ 8
    pub pending : pending_count s ≤ 32
    pub lines : line_total s ≤ 64
    pub some_line : 1 ≤ line_total s
    pub kept : kept_count s ≤ 1024
    pub kept_within : kept_count s * frontier_length w ≤ n

  pub tests_good : wrong ≡ false → damaged ≡ false → Good
  tests_good right sound =
      let within = state-within w (room_of w n) s sound in
      record {
        record_long = right_length w (length s) (or-false_e (bad_record_length w (length s)) _ right).0;
        processes = within.0;
        pending = within.1;
        lines = within.2;
        some_line = within.5;
        kept = within.3;
        kept_within = room_within w (kept_count s) n within.4;
      }

  pub good_watch : watch_fault w s n ≡ 0 → Good
  good_watch none = let good = no_fault none in tests_good good.0 good.1
