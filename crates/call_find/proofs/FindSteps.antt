-- Find, test by test, as its functions go through it.
use Prim.Native.Nat.{ℕ, zero, suc, ◌+◌, ◌-◌, ◌*◌, ◌/◌, ◌≤◌, ◌<◌}
use native.Mathlib.Nat.{le_refl}
use native.Mathlib.Omega.{arith}
use mathlib.Core.Path.{◌≡◌, refl, sym, ap, ◌∙◌}
use Rattle.std.proofs.Common.{Option, None, Some}
use Rattle.std.specs.Option.{MatchOption, unwrap_or, IsNone, IfSome}
use mathlib.Core.Bool.{Bool, true, false, cond, ◌||◌}
use mathlib.Core.List.{List, [], ◌∷◌}
use lib.Bits.{bit_or}
use lib.Dec.{leb}
use lib.ListN.{length, get_or, drop}
use Rattle.codec.specs.Bit.{bit}
use Rattle.codec.specs.BitLaws.{bit-or}
use Rattle.std.proofs.Common.{add-one, drop-cons, drop_of_length-le}
use Rattle.std.proofs.Math.ListN.{get_or-map}
use Rattle.frontiers.specs.declared.Frontier.{Frontier}
use Rattle.frontiers.specs.Bytes.{frontiers}
use Rattle.records.specs.Record.{line_total, kept_count}
use Rattle.refusals.specs.Refusals.{bad_record_length, bad_window_length, room_of, bad_state}
use Rattle.refusals.specs.RefusalCode.{watch_fault}
use Rattle.refusals.specs.FaultLaws.{no_fault}
use Rattle.call_find.specs.Find.{find_from, find_call}
use Rattle.answers.specs.Answer.{turned_back, reply_word}
use Rattle.clocks.specs.stored.BoundedLaws.{or-false_e}
use Rattle.call_find.specs.FindCode.{values_at, reply_from, IsFirst, four_values}

-- ---- The number

-- What record and window turn back, and what a find comes to where they turn nothing back.
module _ (w line : ℕ) (s window : List ℕ) where
  pub find_faulted : (fault : ℕ) → fault ≡ watch_fault w s (length window) → 0 < fault
      → fault ≡ reply_word (find_call w line s window)
  unfolding find_call reply_word watch_fault
  find_faulted fault e some =
      go (bad_record_length w (length s) || bad_window_length w (length window)) (bad_state w (room_of w (length window)) s)
      fault e some
    where
      go : (a b : Bool) (n : ℕ) → n ≡ cond a 6 (cond b 34 0) → 0 < n
          → n ≡ reply_word (cond a (turned_back 6 0) (cond b (turned_back 34 0)
          (cond (leb (line_total s) line) (turned_back 11 0) (find_from line 0 (frontiers w window (kept_count s))))))
      go true b n q h = q
      go false true n q h = q
      go false false n q h = absurd (omega arith)

  pub find_passed : watch_fault w s (length window) ≡ 0
      → find_call w line s window
      ≡ cond (leb (line_total s) line) (turned_back 11 0) (find_from line 0 (frontiers w window (kept_count s)))
  unfolding find_call
  find_passed none = let good = no_fault w s (length window) none in rw (good.0, good.1)

-- ---- Through the frontiers

module _ (line : ℕ) (laid : List Frontier) (i : ℕ) where
  abbrev none : Frontier
  none = record { counts = []; labels = []; masks = []; values = 0 }

  -- The frontiers from number i on begin with it.
  next : i < length laid → drop i laid ≡ get_or laid i none ∷ drop (i + 1) laid
  next l = rw add-one (drop-cons laid i none l)

  read : values_at laid i ≡ (get_or laid i none).values
  read = get_or-map (λ (f : Frontier). f.values) laid i none

  pub find_here : i < length laid → bit (values_at laid i) line ≡ true → reply_from line laid i ≡ 256 + 65536 * i
  unfolding find_from reply_word
  find_here l h = rw (next l, rw read at h)

  pub find_further : i < length laid → bit (values_at laid i) line ≡ false
      → reply_from line laid i ≡ reply_from line laid (i + 1)
  unfolding find_from
  find_further l h = rw (next l, rw read at h)

  pub find_none : length laid ≤ i → reply_from line laid i ≡ 0
  unfolding find_from reply_word
  find_none l = rw (drop_of_length-le laid {i = i} l)

-- ---- Four frontiers at once

pub find_further_four : (line : ℕ) (laid : List Frontier) (i : ℕ) → i + 4 ≤ length laid
    → bit (four_values laid i) line ≡ false → reply_from line laid i ≡ reply_from line laid (i + 4)
find_further_four line laid i l h =
    let halves = neither (bit_or (v i) (v (i + 1))) (bit_or (v (i + 2)) (v (i + 3))) h in
    let front = neither (v i) (v (i + 1)) halves.0 in
    let back = neither (v (i + 2)) (v (i + 3)) halves.1 in
    further i (i + 1) (omega arith) (omega arith) front.0
    ∙ further (i + 1) (i + 2) (omega arith) (omega arith) front.1
    ∙ further (i + 2) (i + 3) (omega arith) (omega arith) back.0
    ∙ further (i + 3) (i + 4) (omega arith) (omega arith) back.1
  where
    v : ℕ → ℕ
    v = values_at laid

    neither : (a b : ℕ) → bit (bit_or a b) line ≡ false → (bit a line ≡ false) × (bit b line ≡ false)
    neither a b e = or-false_e (bit a line) (bit b line) (sym (bit-or a b line) ∙ e)

    further : (j k : ℕ) → j < length laid → j + 1 ≡ k → bit (v j) line ≡ false
        → reply_from line laid j ≡ reply_from line laid k
    further j k b q e = find_further line laid j b e ∙ ap (reply_from line laid) q

-- ---- Searches

-- The line holds at none of the four; and not at this one.
abbrev pub NoneOfFour : ℕ → List Frontier → ℕ → Type 0
NoneOfFour line laid four = bit (four_values laid (4 * four)) line ≡ false

abbrev pub NotAt : ℕ → List Frontier → ℕ → Type 0
NotAt line laid i = bit (values_at laid i) line ≡ false

module _ (line : ℕ) (laid : List Frontier) where
  abbrev kept : ℕ
  kept = length laid

  abbrev from : ℕ → ℕ
  from = reply_from line laid

  fours_passed : (n : ℕ) → 4 * n ≤ kept → ((k : ℕ) → k < n → NoneOfFour line laid k) → from 0 ≡ from (4 * n)
  fours_passed zero l none = refl
  fours_passed (suc n) l none =
      fours_passed n (omega arith) (λ k m. none k (omega arith))
      ∙ find_further_four line laid (4 * n) (omega arith) (none n (omega arith))
      ∙ ap from (omega arith)

  pub fours_end : (r : Option ℕ) → let n = kept / 4 in
      MatchOption r ((k : ℕ) → 0 ≤ k → k < n → NoneOfFour line laid k)
      (λ i. (0 ≤ i) × (i < n) × Unit {0} × ((k : ℕ) → 0 ≤ k → k < i → NoneOfFour line laid k))
      → (unwrap_or r n ≤ n) × (from 0 ≡ from (4 * unwrap_or r n))
  fours_end None none = (omega arith, fours_passed (kept / 4) (omega arith) (λ k l. none k (omega arith) l))
  fours_end (Some i) found =
      (omega (arith, found.1), fours_passed i (omega (arith, found.1)) (λ k l. found.3 k (omega arith) l))

  ones_passed : (start n : ℕ) → start + n ≤ kept → ((k : ℕ) → start ≤ k → k < start + n → NotAt line laid k)
      → from start ≡ from (start + n)
  ones_passed start zero l none = ap from (omega arith)
  ones_passed start (suc n) l none =
      ones_passed start n (omega arith) (λ k a b. none k a (omega arith))
      ∙ find_further line laid (start + n) (omega arith) (none (start + n) (omega arith) (omega arith))
      ∙ ap from (omega arith)

  ones_to : (start i : ℕ) → start ≤ i → i ≤ kept → ((k : ℕ) → start ≤ k → k < i → NotAt line laid k) → from start ≡ from i
  ones_to start i l m none =
      let whole : start + (i - start) ≡ i = omega arith in
      ones_passed start (i - start) (omega arith) (λ k a b. none k a (omega arith)) ∙ ap from whole

  pub first_end : (r : Option ℕ) (start : ℕ) → start ≤ kept → from 0 ≡ from start
      → MatchOption r ((k : ℕ) → start ≤ k → k < kept → NotAt line laid k)
      (λ i. (start ≤ i) × (i < kept) × (bit (values_at laid i) line ≡ true)
      × ((k : ℕ) → start ≤ k → k < i → NotAt line laid k))
      → (IsNone r → from 0 ≡ from kept) × IfSome r (IsFirst line laid)
  first_end None start l so_far none = (λ _. so_far ∙ ones_to start kept l (le_refl _) none, tt)
  first_end (Some i) start l so_far found =
      (λ q. cc, (found.1, found.2, so_far ∙ ones_to start i found.0 (omega (arith, found.1)) found.3))
