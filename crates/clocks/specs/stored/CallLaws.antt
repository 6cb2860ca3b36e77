-- What `any` and `all` over the first n numbers answer, as the bounded tests; what `array::from_fn` makes, as a stored
-- list.
use Rattle.std.specs.Prelude.{ℕ, zero, suc, ◌+◌, ◌≤◌, ◌<◌, ◌≡◌, refl, Bool, true, false, ◌&&◌, ◌||◌, List, Option, get_or}
use Rattle.std.specs.Option.{MatchOption}
use Rattle.std.specs.List.{FoldsTo, range_with_len, list_any, list_all}
use Rattle.std.specs.Fn.{Called, Mut}
use Rattle.std.specs.Array.{IsFromFnResult, IsFromFnResultFrom}
use Rattle.std.specs.Iterator.{YieldsThen}
use Rattle.std.specs.declared.ops.Range.{Range}
use Rattle.std.proofs.Common.{arith, subst, ap, ◌∙◌, add-zero, zero-add}
use Rattle.std.proofs.Math.Path.{fun_ext}
use Rattle.std.proofs.Math.Decide.{dec_lt}
use Rattle.std.proofs.iter.Yields.{nat_range_steps}
use Rattle.std.proofs.lemmas.Iterator.{YieldsList-from_range}
use Rattle.std.proofs.lemmas.Iterator.Search.{any_from_yields_List, all_from_yields_List}
use Rattle.clocks.specs.Bounded.{all_below, any_below}
use Rattle.clocks.specs.Counts.{list_of}
use Rattle.clocks.specs.stored.CountsLaws.{filled}

-- ---- The tests, from below
or_swap : (a b c : Bool) → (a || (b || c)) ≡ (b || (a || c))
or_swap true true c = refl
or_swap true false c = refl
or_swap false true c = refl
or_swap false false c = refl

and_swap : (a b c : Bool) → (a && (b && c)) ≡ (b && (a && c))
and_swap true true c = refl
and_swap true false c = refl
and_swap false true c = refl
and_swap false false c = refl

any_first : (n : ℕ) (t : ℕ → Bool) → (t 0 || any_below n (λ i. t (suc i))) ≡ any_below (suc n) t
unfolding any_below
any_first zero t = refl
any_first (suc n) t =
    or_swap (t 0) (t (suc n)) (any_below n (λ i. t (suc i))) ∙ ap (λ (b : Bool). t (suc n) || b) (any_first n t)

all_first : (n : ℕ) (t : ℕ → Bool) → (t 0 && all_below n (λ i. t (suc i))) ≡ all_below (suc n) t
unfolding all_below
all_first zero t = refl
all_first (suc n) t =
    and_swap (t 0) (t (suc n)) (all_below n (λ i. t (suc i))) ∙ ap (λ (b : Bool). t (suc n) && b) (all_first n t)

any_range : (n a : ℕ) (t : ℕ → Bool) → list_any t (range_with_len a n) ≡ any_below n (λ i. t (a + i))
unfolding any_below
any_range zero a t = refl
any_range (suc n) a t =
    let shifted : (i : ℕ) → (a + 1) + i ≡ a + suc i = λ i. omega arith in
    let next = any_range n (a + 1) t ∙ ap (any_below n) (fun_ext (λ i. ap t (shifted i))) in
    ap (λ (b : Bool). t a || b) next ∙ rw add-zero at (any_first n (λ i. t (a + i)))

all_range : (n a : ℕ) (t : ℕ → Bool) → list_all t (range_with_len a n) ≡ all_below n (λ i. t (a + i))
unfolding all_below
all_range zero a t = refl
all_range (suc n) a t =
    let shifted : (i : ℕ) → (a + 1) + i ≡ a + suc i = λ i. omega arith in
    let next = all_range n (a + 1) t ∙ ap (all_below n) (fun_ext (λ i. ap t (shifted i))) in
    ap (λ (b : Bool). t a && b) next ∙ rw add-zero at (all_first n (λ i. t (a + i)))

-- ---- What the closure answers at each number is the test.
module _ {F : Type 0} {g : Mut F (ℕ × Unit {0}) Bool} {s : Range ℕ} (n : ℕ) (t : ℕ → Bool) (u : Range ℕ) (f : F) (r : Bool) where
  pub any_called : s ≡ record { start = 0; end = n }
      → (xs : List ℕ) × (o : Option ℕ) × (j : F) × YieldsThen nat_range_steps s xs o u × FoldsTo (λ p x q. Called g p (x, tt) false q) f xs j × MatchOption o (r ≡ false) (λ x. (r ≡ true) × ((h : F) × Called g j (x, tt) true h))
      → ((x : ℕ) (b : Bool) (q : F) → Called g f (x, tt) b q → (q ≡ f) × (b ≡ t x)) → r ≡ any_below n t
  any_called from ran answers =
      any_from_yields_List t u f r ran (YieldsList-from_range 0 n n from (omega arith)) answers ∙ any_range n 0 t ∙ ap (any_below n) (fun_ext (λ i. ap t (zero-add i)))

  pub all_called : s ≡ record { start = 0; end = n }
      → (xs : List ℕ) × (o : Option ℕ) × (j : F) × YieldsThen nat_range_steps s xs o u × FoldsTo (λ p x q. Called g p (x, tt) true q) f xs j × MatchOption o (r ≡ true) (λ x. (r ≡ false) × ((h : F) × Called g j (x, tt) false h))
      → ((x : ℕ) (b : Bool) (q : F) → Called g f (x, tt) b q → (q ≡ f) × (b ≡ t x)) → r ≡ all_below n t
  all_called from ran answers =
      all_from_yields_List t u f r ran (YieldsList-from_range 0 n n from (omega arith)) answers ∙ all_range n 0 t ∙ ap (all_below n) (fun_ext (λ i. ap t (zero-add i)))

-- ---- What the closure gives at each index is the function's value.
module _ {F B : Type 0} {g : Mut F (ℕ × Unit {0}) B} (v : ℕ → B) (f : F) where
  made_from : (n i : ℕ) (ys : List B) → IsFromFnResultFrom g f ys i n
      → ((j : ℕ) (y : B) (q : F) → j < i + n → Called g f (j, tt) y q → (q ≡ f) × (y ≡ v j))
      → (j : ℕ) (d : B) → i ≤ j → j < i + n → get_or ys j d ≡ v j
  made_from zero i ys made gives j d l m = absurd (omega arith)
  made_from (suc n) i ys (q, y, here, call, rest) gives j d l m =
      go (dec_lt i j) (λ k.
      let P : F → Type 0 = λ p. IsFromFnResultFrom g p ys (i + 1) n in
      made_from n (i + 1) ys (subst P given.0 rest) (λ k z p b. gives k z p (omega arith)) j d (omega arith) (omega arith))
    where
      given : (q ≡ f) × (y ≡ v i)
      given = gives i y q (omega arith) call

      go : Dec (i < j) → (i < j → get_or ys j d ≡ v j) → get_or ys j d ≡ v j
      go (yes k) later = later k
      go (no k) later = let e : j ≡ i = omega arith in rw e (here.1 d ∙ given.1)

  pub made_called : (n : ℕ) (d : B) (ys : List B) → IsFromFnResult g f ys n
      → ((j : ℕ) (y : B) (q : F) → j < n → Called g f (j, tt) y q → (q ≡ f) × (y ≡ v j)) → ys ≡ list_of n v
  made_called n d ys made gives =
      filled n v d ys made.long (λ p l. made_from n 0 ys made.each (λ j y q l. gives j y q (omega arith)) p d (omega arith) (omega arith))
