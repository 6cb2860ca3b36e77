-- Stored counts and cuts go back and forth; a loop that fills a list agrees with its target below its index.
use Prim.Native.Nat.{ℕ, zero, suc, ◌+◌, ◌≤◌, ◌<◌}
use Rattle.std.proofs.Common.{arith, le_of_suc-le-suc, sym, ◌∙◌, drop_of_length-le, ext_get_or, get_or-set_same, get_or-set_other, drop-cons, add-one}
use Rattle.std.proofs.Math.Decide.{dec_lt}
use Rattle.std.specs.Prelude.{◌≡◌, List, ◌∷◌, [], length, get_or, set, drop}
use Rattle.std.proofs.Math.Path.{refl, ap, fun_ext}
use Rattle.std.proofs.Math.ListN.{get_or-eq_default}
use Rattle.clocks.specs.Counts.{at, list_of}
use Rattle.clocks.specs.Event.{Cut}

-- ---- Of any values
module _ {A : Type 0} where
  pub length-list_of : (n : ℕ) (f : ℕ → A) → length (list_of n f) ≡ n
  unfolding list_of
  length-list_of zero f = refl
  length-list_of (suc n) f = ap suc (length-list_of n (λ p. f (suc p)))

  pub get_d_list_of : (n : ℕ) (f : ℕ → A) (p : ℕ) (d : A) → p < n → get_or (list_of n f) p d ≡ f p
  unfolding list_of
  get_d_list_of zero f p d l = absurd (omega arith)
  get_d_list_of (suc n) f zero d l = refl
  get_d_list_of (suc n) f (suc p) d l = get_d_list_of n (λ q. f (suc q)) p d (le_of_suc-le-suc l)

  -- A list with the values of a function below n is its list,
  pub filled : (n : ℕ) (f : ℕ → A) (d : A) (l : List A) → length l ≡ n → ((p : ℕ) → p < n → get_or l p d ≡ f p) → l ≡ list_of n f
  filled n f d l e h =
      ext_get_or d l (list_of n f) (e ∙ sym (length-list_of n f)) (λ p k. let k' : p < n = omega arith in h p k' ∙ sym (get_d_list_of n f p d k'))

  -- and the next value, stored in its place, makes one more.
  pub fill_next : (f : ℕ → A) (d : A) (l : List A) (i : ℕ) (v : A) → i < length l → v ≡ f i → ((p : ℕ) → p < i → get_or l p d ≡ f p)
      → (p : ℕ) → p < i + 1 → get_or (set l i v) p d ≡ f p
  fill_next f d l i v k e h p m = go (dec_lt p i)
    where
      go : Dec (p < i) → get_or (set l i v) p d ≡ f p
      go (yes j) = get_or-set_other l i p v d (omega arith) ∙ h p j
      go (no j) = let s : p ≡ i = omega arith in rw s (get_or-set_same l i v d k ∙ e)

  -- Functions that agree below n have the same list.
  pub list_of-same : (n : ℕ) (f g : ℕ → A) → ((p : ℕ) → p < n → f p ≡ g p) → list_of n f ≡ list_of n g
  unfolding list_of
  list_of-same zero f g h = refl
  list_of-same (suc n) f g h = rw (h 0 (omega arith), list_of-same n (λ p. f (suc p)) (λ p. g (suc p)) (λ p l. h (suc p) (omega arith)))

-- ---- Of counts
pub at-list_of : (n : ℕ) (f : ℕ → ℕ) (p : ℕ) → p < n → at (list_of n f) p ≡ f p
at-list_of n f p l = get_d_list_of n f p 0 l

-- from n up a list of n counts counts nothing
pub at_beyond : (l : List ℕ) (p : ℕ) → length l ≤ p → at l p ≡ 0
at_beyond l p h = get_or-eq_default l 0 h

pub list_of-at : (n : ℕ) (l : List ℕ) → length l ≡ n → list_of n (at l) ≡ l
list_of-at n l e = sym (filled n (at l) 0 l e (λ p k. refl))

-- a cut that counts nothing from n up is the cut of its list
pub at-list_of-all : (n : ℕ) (f : Cut) → ((p : ℕ) → n ≤ p → f p ≡ 0) → at (list_of n f) ≡ f
at-list_of-all n f z = fun_ext (λ p. go p (dec_lt p n))
  where
    go : (p : ℕ) → Dec (p < n) → at (list_of n f) p ≡ f p
    go p (yes l) = at-list_of n f p l
    go p (no l) = at_beyond (list_of n f) p (omega (arith, length-list_of n f)) ∙ sym (z p (omega arith))

-- ---- What a loop has still to look at that has passed those below i
module _ {A : Type 0} where
  pub rest_next : (n : ℕ) (f : ℕ → A) (i : ℕ) → i < n → drop i (list_of n f) ≡ f i ∷ drop (i + 1) (list_of n f)
  rest_next n f i l =
      let long : i < length (list_of n f) = rw (length-list_of n f) l in
      rw (add-one, drop-cons (list_of n f) i (f 0) long, get_d_list_of n f i (f 0) l)

  pub rest_end : (n : ℕ) (f : ℕ → A) (i : ℕ) → n ≤ i → drop i (list_of n f) ≡ []
  rest_end n f i l = drop_of_length-le (list_of n f) {i = i} (rw (length-list_of n f) l)
