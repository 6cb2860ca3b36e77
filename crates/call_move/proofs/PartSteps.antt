-- Parts one behind the other, as the code goes through them: one more is looked at, or written behind those that are.
use Prim.Native.Nat.{ℕ, ◌+◌, ◌*◌, ◌≤◌}
use native.Mathlib.Omega.{arith}
use mathlib.Core.Path.{◌≡◌, refl, sym, ap, ◌∙◌}
use mathlib.Core.Bool.{◌||◌}
use mathlib.Core.List.{List, ◌++◌}
use lib.ListN.{length, take, drop, length-drop}
use lib.Seq.{sets, take-add, drop-drop, length-take-le}
use Rattle.codec.specs.SetsLaws.{sets-append, sets_whole}
use Rattle.frontiers.specs.Bytes.{count_bytes}
use Rattle.frontiers.specs.BytesLaws.{length-count_bytes}
use Rattle.call_move.specs.Parts.{Part}
use Rattle.call_move.specs.PartLengths.{length_of}
use Rattle.call_move.specs.Move.{counts_from, moved, some_too_large}
use Rattle.call_move.specs.PartLaws.{moved-append, some_too_large-append, length-counts_from, length_moved}

pub length-counts : (v w n : ℕ) (s : List ℕ) → length (count_bytes w (counts_from v n s)) ≡ n * w
length-counts v w n s =
    length-count_bytes w (counts_from v n s) ∙ ap (λ (m : ℕ). m * w) (length-counts_from v n s)

-- Bytes stored behind others.
pub stored_behind : (t : List ℕ) (a : ℕ) (xs : List ℕ) (b : ℕ) (ys : List ℕ) → b ≡ a + length xs
    → sets (sets t a xs) b ys ≡ sets t a (xs ++ ys)
stored_behind t a xs b ys e = rw e (sets-append t a xs ys)

module _ (v w : ℕ) (ps qs : List Part) (s : List ℕ) (place : ℕ) where
  pub parts_looked : place ≡ length_of v ps
      → (some_too_large v w ps s || some_too_large v w qs (drop place s)) ≡ some_too_large v w (ps ++ qs) s
  parts_looked e = rw e (sym (some_too_large-append v w ps qs s))

  pub parts_written : (t : List ℕ) (to : ℕ) → place ≡ length_of v ps → to ≡ length_of w ps → place ≤ length s
      → sets (sets t 0 (moved v w ps s)) to (moved v w qs (drop place s)) ≡ sets t 0 (moved v w (ps ++ qs) s)
  parts_written t to e f within =
      let long : length (moved v w ps s) ≡ length_of w ps = length_moved v w ps s (rw (← e) within) in
      stored_behind t 0 (moved v w ps s) to (moved v w qs (drop place s)) (omega arith)
      ∙ rw e (ap (sets t 0) (sym (moved-append v w ps qs s)))

-- Bytes copied, none, and eight more.
pub copied_none : (t : List ℕ) (to : ℕ) (s : List ℕ) → t ≡ sets t to (take (8 * 0) s)
copied_none t to s = refl

pub copied_more : (t : List ℕ) (to : ℕ) (s : List ℕ) (from i : ℕ) → from + 8 * (i + 1) ≤ length s
    → sets (sets t to (take (8 * i) (drop from s))) (to + 8 * i) (take 8 (drop (from + 8 * i) s))
    ≡ sets t to (take (8 * (i + 1)) (drop from s))
copied_more t to s from i within =
    let d = drop from s in
    let far : 8 * (i + 1) ≡ 8 * i + 8 = omega arith in
    let long : length (take (8 * i) d) ≡ 8 * i = length-take-le (8 * i) d (simp length-drop (omega arith)) in
    rw (far, take-add (8 * i) 8 d, drop-drop (8 * i) from s)
    (stored_behind t to (take (8 * i) d) (to + 8 * i) (take 8 (drop (from + 8 * i) s)) (omega arith))

-- All parts written.
pub all-written : (v w : ℕ) (ps : List Part) (s t : List ℕ) → length_of v ps ≤ length s → length t ≡ length_of w ps
    → sets t 0 (moved v w ps s) ≡ moved v w ps s
all-written v w ps s t within e = sets_whole t (moved v w ps s) (length_moved v w ps s within ∙ sym e)
