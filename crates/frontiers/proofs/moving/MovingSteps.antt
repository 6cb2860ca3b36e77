-- What one turn of a loop adds that moves bytes down within a list, the first byte first.
use Prim.Native.Nat.{ℕ, ◌+◌, ◌≤◌, ◌<◌}
use native.Mathlib.Omega.{arith}
use mathlib.Core.Path.{◌≡◌, sym, ◌∙◌}
use mathlib.Core.List.{List}
use lib.ListN.{length, get_or, take, drop, set, length-drop}
use lib.Seq.{get_or-take, get_or-drop, take-take, length-take-le, sets}
use Rattle.codec.specs.SetsLaws.{get_d_sets-after}
use Rattle.frontiers.specs.StoreLaws.{sets_more}

-- The first i bytes are moved.
abbrev pub moved_down : List ℕ → ℕ → ℕ → ℕ → ℕ → List ℕ
moved_down s to by n i = sets s to (take i (take n (drop (to + by) s)))

pub down_next : (s : List ℕ) (to by n i : ℕ) → i < n → to + by + n ≤ length s
    → set (moved_down s to by n i) (to + i) (get_or (moved_down s to by n i) (to + by + i) 0) ≡ moved_down s to by n (i + 1)
down_next s to by n i l h =
    let bs : List ℕ = take n (drop (to + by) s) in
    let long : length bs ≡ n = length-take-le n (drop (to + by) s) (simp length-drop (omega arith)) in
    let first : length (take i bs) ≡ i = length-take-le i bs (omega arith) in
    let here : get_or (moved_down s to by n i) (to + by + i) 0 ≡ get_or bs i 0 =
    get_d_sets-after s to (take i bs) (to + by + i) 0 (omega arith)
    ∙ sym (get_or-take n (drop (to + by) s) i 0 l ∙ get_or-drop (to + by) s i 0) in
    rw here (sets_more s to bs i (omega arith))

pub down_all : (s : List ℕ) (to by n : ℕ) → moved_down s to by n n ≡ sets s to (take n (drop (to + by) s))
down_all s to by n = rw (take-take n n (drop (to + by) s) (omega arith))
