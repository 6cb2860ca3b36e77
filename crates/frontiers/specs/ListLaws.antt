-- Lists by place: what stands at a place is a member, a member stands at a place, and one more value of a function.
use Prim.Native.Nat.{ℕ, zero, suc, suc-le-suc, ◌+◌, ◌≤◌, ◌<◌}
use Rattle.std.proofs.Common.{arith, le_of_suc-le-suc, sym, take-take}
use Rattle.std.specs.Prelude.{◌≡◌, length, get_or, take, drop}
use Rattle.std.proofs.Math.Path.{refl, ap}
use mathlib.Core.List.{List, [], ◌∷◌, ◌++◌, Memᴰ}
use Rattle.codec.specs.SetsLaws.{take-drop}
use Rattle.clocks.specs.Counts.{list_of}

module _ {A : Type 0} where
  pub place_member : (xs : List A) (i : ℕ) (d : A) → i < length xs → Memᴰ (get_or xs i d) xs
  place_member [] i d l = absurd (omega arith)
  place_member (x ∷ xs) zero d l = Memᴰ.head refl
  place_member (x ∷ xs) (suc i) d l = Memᴰ.tail (place_member xs i d (le_of_suc-le-suc l))

  pub member_place : (xs : List A) (x d : A) → Memᴰ x xs → (i : ℕ) × (i < length xs) × (get_or xs i d ≡ x)
  member_place [] x d m = elim m [ ]
  member_place (y ∷ ys) x d (Memᴰ.head e) = (0, omega arith, sym e)
  member_place (y ∷ ys) x d (Memᴰ.tail m) = let r = member_place ys x d m in (suc r.0, suc-le-suc r.1, r.2)

  -- One more value of a function stands at the end.
  pub list_of_more : (n : ℕ) (f : ℕ → A) → list_of (suc n) f ≡ list_of n f ++ (f n ∷ [])
  unfolding list_of
  list_of_more zero f = refl
  list_of_more (suc n) f = ap (λ (l : List A). f 0 ∷ l) (list_of_more n (λ p. f (suc p)))

  -- A part within the first m elements depends on these only.
  pub part-alike : (s t : List A) (m a n : ℕ) → a + n ≤ m → take m s ≡ take m t → take n (drop a s) ≡ take n (drop a t)
  part-alike s t m a n l e =
      rw (take-drop n a s, take-drop n a t, ← take-take (a + n) m s l, ← take-take (a + n) m t l, e)
