-- The window's frontiers, as the code goes through them.
use Prim.Native.Nat.{ℕ, ◌+◌, ◌*◌, ◌≤◌, ◌<◌}
use native.Mathlib.Omega.{arith}
use mathlib.Core.Path.{◌≡◌, refl, sym, ap, ◌∙◌}
use mathlib.Core.Bool.{false, ◌||◌, or-false}
use mathlib.Core.List.{List, [], append-nil}
use lib.ListN.{length, take, drop}
use lib.Seq.{sets, drop-drop}
use Rattle.frontiers.specs.Bytes.{count_bytes, frontier_length}
use Rattle.call_move.specs.Parts.{many_of, frontier_parts, window_parts}
use Rattle.call_move.specs.Move.{counts_from, moved, some_too_large}
use Rattle.call_move.specs.MoveCode.{any_too_large}
use Rattle.call_move.specs.PartLaws.{length-window_parts, repeated_more}
use Rattle.call_move.specs.PlaceLaws.{none_in_each}
use Rattle.call_move.proofs.PartSteps.{length-counts, stored_behind, parts_looked, parts_written}

-- ---- Looked at

-- The counts of the frontier from a place on.
pub frontier_counts : (v w : ℕ) (s : List ℕ) → some_too_large v w frontier_parts s ≡ any_too_large v w 8 s
unfolding some_too_large any_too_large
frontier_counts v w s = rw or-false

pub frontier_looked : (v w i : ℕ) (s : List ℕ) (place : ℕ) → place ≡ i * frontier_length v
    → (some_too_large v w (window_parts i) s || any_too_large v w 8 (drop place s))
    ≡ some_too_large v w (window_parts (i + 1)) s
frontier_looked v w i s place e =
    rw (← frontier_counts v w (drop place s), repeated_more i frontier_parts)
    (parts_looked v w (window_parts i) frontier_parts s place (e ∙ sym (length-window_parts v i)))

-- ---- None too large

pub frontier_fits : (v w n i : ℕ) (s : List ℕ) (place : ℕ) → place ≡ i * frontier_length v → i < n
    → some_too_large v w (window_parts n) s ≡ false → some_too_large v w frontier_parts (drop place s) ≡ false
frontier_fits v w n i s place e l h =
    rw (e ∙ sym (length-window_parts v i)) (none_in_each v w [] frontier_parts s n i l h)

-- ---- Written

-- The two parts of a frontier, stored one after the other.
pub frontier_written : (v w : ℕ) (s : List ℕ) (from : ℕ) (t t₁ t₂ : List ℕ) (to : ℕ)
    → t₁ ≡ sets t to (count_bytes w (counts_from v 8 (drop from s)))
    → t₂ ≡ sets t₁ (to + 8 * w) (take 24 (drop (from + 8 * v) s))
    → t₂ ≡ sets t to (moved v w frontier_parts (drop from s))
unfolding moved
frontier_written v w s from t t₁ t₂ to e₁ e₂ =
    let clock : List ℕ = count_bytes w (counts_from v 8 (drop from s)) in
    let rest : List ℕ = take 24 (drop (from + 8 * v) s) in
    let long : length clock ≡ 8 * w = length-counts v w 8 (drop from s) in
    e₂ ∙ ap (λ (u : List ℕ). sets u (to + 8 * w) rest) e₁ ∙ stored_behind t to clock (to + 8 * w) rest (omega arith)
    ∙ rw (drop-drop (8 * v) from s, append-nil)

pub frontiers-written : (v w i : ℕ) (s : List ℕ) (from : ℕ) (t : List ℕ) (to : ℕ) → from ≡ i * frontier_length v
    → to ≡ i * frontier_length w → from ≤ length s
    → sets (sets t 0 (moved v w (window_parts i) s)) to (moved v w frontier_parts (drop from s))
    ≡ sets t 0 (moved v w (window_parts (i + 1)) s)
frontiers-written v w i s from t to e f h =
    rw (repeated_more i frontier_parts)
    (parts_written v w (window_parts i) frontier_parts s from t to (e ∙ sym (length-window_parts v i))
    (f ∙ sym (length-window_parts w i)) h)

pub none_looked : (v w : ℕ) (s : List ℕ) → false ≡ some_too_large v w (window_parts 0) s
unfolding some_too_large many_of
none_looked v w s = refl

pub none_written : (v w : ℕ) (s t : List ℕ) → t ≡ sets t 0 (moved v w (window_parts 0) s)
unfolding moved many_of
none_written v w s t = refl
