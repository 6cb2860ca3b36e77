-- Frontier i is the first of the bytes from its place on: the law `frontier_from-drop`.
use Rattle.std.proofs.Common.{◌≡◌, ◌∙◌, ◌-◌, ◌*◌, ℕ, List, [], arith, length, get_or, drop, take, take_all, length-drop, zero-mul, add-zero, lit<}
use Rattle.frontiers.specs.Bytes.{frontier_length, frontier_at, frontiers}
use Rattle.frontiers.specs.BytesLaws.{frontier_from-drop}
use Rattle.frontiers.specs.WindowLaws.{length-frontiers}
use Rattle.lookup.specs.KeyLaws.{get_d_keys}
use Rattle.lookup.specs.Seek.{keys_of}
use Rattle.lookup.proofs.seek.standing_at.Goals as goal

-- The first of the bytes from a frontier's place on.
first_there : (w : ℕ) (s : List ℕ) (i place : ℕ) → place ≡ i * frontier_length w
    → get_or (keys_of (frontiers w (take (length s - place) (drop place s)) 1)) 0 [] ≡ (frontier_at w s i).counts
unfolding frontier_at
first_there w s i place e =
    rw (take_all (length s - place) (drop place s) (simp length-drop (omega arith)), get_d_keys w (drop place s) 1 0 (lit< tt), zero-mul, frontier_from-drop w s place 0, add-zero, e)

pub stands_at-requires : goal.stands_at-requires
stands_at-requires c = rw (c.of.ensures, length-frontiers) (lit< tt)

pub returns : goal.returns
returns c =
    let a = c.args in
    let place : c.frontier_place-place.result ≡ a.i * frontier_length a.w = rw c.of-width.ensures at c.frontier_place-place.ensures.0 in
    c.stands_at.ensures ∙ rw (c.of.ensures, c.of-width.ensures, first_there a.w a.s.now a.i _ place)
