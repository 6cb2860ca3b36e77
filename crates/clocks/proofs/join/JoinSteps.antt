-- The join as it is computed over stored clocks, one process after the other.
use Prim.Native.Nat.{ℕ, suc, ◌+◌}
use native.Mathlib.Numerals.{add-one}
use mathlib.Core.Path.{◌≡◌}
use mathlib.Core.Bool.{Bool, true, false}
use Rattle.clocks.specs.Event.{Cut}
use Rattle.clocks.specs.Bounds.{upper}
use Rattle.clocks.specs.Counts.{at, list_of}
use Rattle.clocks.specs.stored.CountsLaws.{list_of-same, at-list_of}
use Rattle.clocks.specs.Joined.{join_to}

module _ (n p : ℕ) (member : ℕ → Bool) (last : ℕ → Cut) where
  -- a member's clock is joined to those before,
  pub join_next : member p ≡ true → list_of n (upper (last p) (at (list_of n (join_to p member last)))) ≡ list_of n (join_to (p + 1) member last)
  unfolding join_to
  join_next m =
      rw add-one
      (list_of-same n (upper (last p) (at (list_of n (join_to p member last)))) (join_to (suc p) member last)
      (λ q l. rw (m, at-list_of n (join_to p member last) q l)))

  -- and another's is passed over.
  pub join_skip : member p ≡ false → list_of n (join_to p member last) ≡ list_of n (join_to (p + 1) member last)
  unfolding join_to
  join_skip m = rw add-one (list_of-same n (join_to p member last) (join_to (suc p) member last) (λ q l. rw m))
