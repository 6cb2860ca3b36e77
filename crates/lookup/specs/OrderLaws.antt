-- Laws of the order of counts: `same` is equality, `before` is a strict total order on lists of one length, and
-- ascending lists.
use Rattle.std.specs.Prelude.{ℕ, ◌<◌, zero, suc, ◌+◌, ◌≤◌, ◌≡◌, refl, Bool, true, ◌&&◌, ◌||◌, false, List, [], ◌∷◌, ◌⊎◌, T, ltb, eqb, length, get_or, drop}
use Rattle.std.proofs.Common.{suc-le-suc, arith, le_refl, le_of_suc-le-suc, add-one, sym, ap, subst, ◌∙◌, inl, inr, ⊎_elim, eqb→eq, ltb→lt, lt→ltb, drop_of_length-le, drop-cons, ext_get_or, lt-ltb, le-ltb, eq-eqb, ne_eqb}
use Rattle.std.specs.Prelude.{nat_eq}
use Rattle.std.specs.Cmp.Lexicographic.{pointwise}
use Rattle.std.proofs.Math.Decide.{dec_lt}
use Rattle.std.proofs.Math.Bool.{or-false}
use Rattle.std.proofs.Math.Dec.{eqb_refl}
use Rattle.clocks.specs.stored.BoundedLaws.{and_i, and_l, and_r, or_e, same_test, all_i, all_e}
use Rattle.clocks.specs.Bounded.{all_below}
use Rattle.clocks.specs.Counts.{at, list_of}
use Rattle.clocks.specs.cuts.EventLaws.{true-T}
use Rattle.lookup.specs.Order.{before, same}

-- ---- One count against another

-- Two numbers by their tests.
head-less : (x y : ℕ) (b : Bool) → x < y → (ltb x y || (eqb x y && b)) ≡ true
head-less x y b l = rw (lt-ltb x y l)

head-same : (x : ℕ) (b : Bool) → (ltb x x || (eqb x x && b)) ≡ b
head-same x b = rw (le-ltb x x (le_refl x), eq-eqb x x refl)

head_other : (x y : ℕ) (b : Bool) → (x ≡ y → ⊥) → (ltb x y || (eqb x y && b)) ≡ ltb x y
head_other x y b n = rw (ne_eqb x y n) (or-false (ltb x y))

-- ---- Same

pub same_refl : (a : List ℕ) → T (same a a)
unfolding same
same_refl [] = tt
same_refl (x ∷ xs) = and_i (eqb x x) (same xs xs) (eqb_refl x) (same_refl xs)

pub same_e : (a b : List ℕ) → T (same a b) → a ≡ b
unfolding same
same_e [] [] t = refl
same_e [] (y ∷ ys) t = absurd t
same_e (x ∷ xs) [] t = absurd t
same_e (x ∷ xs) (y ∷ ys) t = rw (eqb→eq x y (and_l (eqb x y) (same xs ys) t), same_e xs ys (and_r (eqb x y) (same xs ys) t))

pub same_i : (a b : List ℕ) → a ≡ b → T (same a b)
same_i a b e = rw e (same_refl b)

-- ... count by count
pub same-all : (a b : List ℕ) (n : ℕ) → length a ≡ n → length b ≡ n
    → same a b ≡ all_below n (λ p. eqb (at a p) (at b p))
same-all a b n h k = same_test (same a b) (all_below n (λ p. eqb (at a p) (at b p))) there back
  where
    there : T (same a b) → T (all_below n (λ p. eqb (at a p) (at b p)))
    there t =
        all_i n (λ p. eqb (at a p) (at b p))
        (λ p l. true-T (eq-eqb (at a p) (at b p) (ap (λ (c : List ℕ). at c p) (same_e a b t))))

    back : T (all_below n (λ p. eqb (at a p) (at b p))) → T (same a b)
    back t = same_i a b (ext_get_or 0 a b (h ∙ sym k)
        (λ p l. eqb→eq (at a p) (at b p) (all_e n (λ q. eqb (at a q) (at b q)) t p (subst (λ (m : ℕ). p < m) h l))))

-- ---- Before

-- What the first counts say: either they decide, or they are equal and the rest decides.
pub before_e : (x y : ℕ) (xs ys : List ℕ) → T (before (x ∷ xs) (y ∷ ys)) → (x < y) ⊎ ((x ≡ y) × T (before xs ys))
unfolding before
before_e x y xs ys t = ⊎_elim (λ l. inl (ltb→lt x y l)) (λ r. inr (eqb→eq x y (and_l (eqb x y) (before xs ys) r), and_r (eqb x y) (before xs ys) r)) (or_e (ltb x y) (eqb x y && before xs ys) t)

pub before-less : (x y : ℕ) (xs ys : List ℕ) → x < y → T (before (x ∷ xs) (y ∷ ys))
unfolding before
before-less x y xs ys l = rw (head-less x y (before xs ys) l) tt

pub before-tail : (x y : ℕ) (xs ys : List ℕ) → x ≡ y → T (before xs ys) → T (before (x ∷ xs) (y ∷ ys))
unfolding before
before-tail x y xs ys e t = rw (e, head-same y (before xs ys)) t

pub before_irrefl : (a : List ℕ) → T (before a a) → ⊥
unfolding before
before_irrefl [] t = t
before_irrefl (x ∷ xs) t = ⊎_elim (λ l. omega arith) (λ r. before_irrefl xs r.1) (before_e x x xs xs t)

pub before_trans : (a b c : List ℕ) → T (before a b) → T (before b c) → T (before a c)
unfolding before
before_trans [] b c t u = absurd t
before_trans (x ∷ xs) [] c t u = absurd t
before_trans (x ∷ xs) (y ∷ ys) [] t u = absurd u
before_trans (x ∷ xs) (y ∷ ys) (z ∷ zs) t u = go (before_e x y xs ys t) (before_e y z ys zs u) (before_trans xs ys zs)
  where
    go : (x < y) ⊎ ((x ≡ y) × T (before xs ys)) → (y < z) ⊎ ((y ≡ z) × T (before ys zs)) → (T (before xs ys) → T (before ys zs) → T (before xs zs)) → T (before (x ∷ xs) (z ∷ zs))
    go (inl l) (inl m) r = before-less x z xs zs (omega arith)
    go (inl l) (inr m) r = before-less x z xs zs (omega arith)
    go (inr l) (inl m) r = before-less x z xs zs (omega arith)
    go (inr l) (inr m) r = before-tail x z xs zs (omega arith) (r l.1 m.1)

-- Of two lists of one length one stands before the other, or they are the same.
pub data Compared (a b : List ℕ) : Type 0 where
  first : T (before a b) → Compared a b
  equal : a ≡ b → Compared a b
  last : T (before b a) → Compared a b

pub before-total : (a b : List ℕ) → length a ≡ length b → Compared a b
before-total [] [] e = equal refl
before-total [] (y ∷ ys) e = absurd (omega arith)
before-total (x ∷ xs) [] e = absurd (omega arith)
before-total (x ∷ xs) (y ∷ ys) e = go (dec_lt x y) (dec_lt y x) (before-total xs ys (omega arith))
  where
    go : Dec (x < y) → Dec (y < x) → Compared xs ys → Compared (x ∷ xs) (y ∷ ys)
    go (yes l) m r = first (before-less x y xs ys l)
    go (no l) (yes m) r = last (before-less y x ys xs m)
    go (no l) (no m) (first t) = first (before-tail x y xs ys (omega arith) t)
    go (no l) (no m) (equal q) = let s : x ≡ y = omega arith in equal (rw (s, q))
    go (no l) (no m) (last t) = last (before-tail y x ys xs (omega arith) t)

-- One of the three only.
pub before_asym : (a b : List ℕ) → T (before a b) → T (before b a) → ⊥
before_asym a b t u = before_irrefl a (before_trans a b a t u)

pub before_differ : (a b : List ℕ) → T (before a b) → a ≡ b → ⊥
before_differ a b t e = before_irrefl b (rw e at t)

-- Not before, of lists of one length: the same or after.
pub not-before : (a b : List ℕ) → length a ≡ length b → (T (before a b) → ⊥) → (a ≡ b) ⊎ T (before b a)
not-before a b e n = go (before-total a b e)
  where
    go : Compared a b → (a ≡ b) ⊎ T (before b a)
    go (first t) = absurd (n t)
    go (equal q) = inl q
    go (last t) = inr t

-- As the library compares arrays.
pub same_derived : (a b : List ℕ) → pointwise nat_eq a b ≡ same a b
unfolding same
same_derived [] [] = refl
same_derived [] (y ∷ ys) = refl
same_derived (x ∷ xs) [] = refl
same_derived (x ∷ xs) (y ∷ ys) = ap (λ (b : Bool). eqb x y && b) (same_derived xs ys)

-- ---- By places

-- The first difference decides.
pub before-first : (a b : List ℕ) (p : ℕ) → p < length a → p < length b → ((q : ℕ) → q < p → get_or a q 0 ≡ get_or b q 0) → get_or a p 0 < get_or b p 0
    → T (before a b)
before-first [] b p l m h d = absurd (omega arith)
before-first (x ∷ xs) [] p l m h d = absurd (omega arith)
before-first (x ∷ xs) (y ∷ ys) zero l m h d = before-less x y xs ys d
before-first (x ∷ xs) (y ∷ ys) (suc p) l m h d =
    before-tail x y xs ys (h 0 (omega arith)) (before-first xs ys p (le_of_suc-le-suc l) (le_of_suc-le-suc m) (λ q k. h (suc q) (omega arith)) d)

-- What a comparison that goes place by place finds at place p: equal counts leave it to the rest, others decide.
pub before-drop-equal : (a b : List ℕ) (p : ℕ) → p < length a → p < length b → get_or a p 0 ≡ get_or b p 0
    → before (drop p a) (drop p b) ≡ before (drop (p + 1) a) (drop (p + 1) b)
unfolding before
before-drop-equal a b p l m e =
    rw (add-one, drop-cons a p 0 l, drop-cons b p 0 m, e, head-same (get_or b p 0) (before (drop (suc p) a) (drop (suc p) b)))

pub before-drop_other : (a b : List ℕ) (p : ℕ) → p < length a → p < length b → (get_or a p 0 ≡ get_or b p 0 → ⊥)
    → before (drop p a) (drop p b) ≡ ltb (get_or a p 0) (get_or b p 0)
unfolding before
before-drop_other a b p l m n =
    rw (drop-cons a p 0 l, drop-cons b p 0 m, head_other (get_or a p 0) (get_or b p 0) (before (drop (suc p) a) (drop (suc p) b)) n)

pub same-drop-equal : (a b : List ℕ) (p : ℕ) → p < length a → p < length b → get_or a p 0 ≡ get_or b p 0
    → same (drop p a) (drop p b) ≡ same (drop (p + 1) a) (drop (p + 1) b)
unfolding same
same-drop-equal a b p l m e =
    rw (add-one, drop-cons a p 0 l, drop-cons b p 0 m, e, eq-eqb (get_or b p 0) (get_or b p 0) refl)

pub same-drop_other : (a b : List ℕ) (p : ℕ) → p < length a → p < length b → (get_or a p 0 ≡ get_or b p 0 → ⊥)
    → same (drop p a) (drop p b) ≡ false
unfolding same
same-drop_other a b p l m n = rw (drop-cons a p 0 l, drop-cons b p 0 m, ne_eqb (get_or a p 0) (get_or b p 0) n)

-- Past the end nothing stands before, and all is the same.
pub before-drop-end : (a b : List ℕ) (p : ℕ) → length a ≤ p → before (drop p a) (drop p b) ≡ false
unfolding before
before-drop-end a b p l = rw (drop_of_length-le a l)

pub same-drop-end : (a b : List ℕ) (p : ℕ) → length a ≤ p → length b ≤ p → same (drop p a) (drop p b) ≡ true
unfolding same
same-drop-end a b p l m = rw (drop_of_length-le a l, drop_of_length-le b m)

-- Counts nowhere above others, and not the same, stand before them.
pub below_before : (a b : List ℕ) → length a ≡ length b → ((p : ℕ) → p < length a → get_or a p 0 ≤ get_or b p 0) → (a ≡ b → ⊥) → T (before a b)
below_before [] [] e h n = absurd (n refl)
below_before [] (y ∷ ys) e h n = absurd (omega arith)
below_before (x ∷ xs) [] e h n = absurd (omega arith)
below_before (x ∷ xs) (y ∷ ys) e h n = go (dec_lt x y) (below_before xs ys (omega arith) (λ p l. h (suc p) (suc-le-suc l)))
  where
    go : Dec (x < y) → ((xs ≡ ys → ⊥) → T (before xs ys)) → T (before (x ∷ xs) (y ∷ ys))
    go (yes l) r = before-less x y xs ys l
    go (no l) r = let s : x ≡ y = omega (arith, h 0 (omega arith)) in before-tail x y xs ys s (r (λ q. n (rw (s, q))))

-- The same counts added to both keep the order.
ltb-add : (h x y : ℕ) → ltb (h + x) (h + y) ≡ ltb x y
ltb-add h x y =
    same_test (ltb (h + x) (h + y)) (ltb x y) (λ t. lt→ltb x y (omega (arith, ltb→lt (h + x) (h + y) t)))
    (λ t. lt→ltb (h + x) (h + y) (omega (arith, ltb→lt x y t)))

eqb-add : (h x y : ℕ) → eqb (h + x) (h + y) ≡ eqb x y
eqb-add h x y =
    same_test (eqb (h + x) (h + y)) (eqb x y) (λ t. rw (eq-eqb x y (omega (arith, eqb→eq (h + x) (h + y) t))) tt)
    (λ t. rw (eq-eqb (h + x) (h + y) (omega (arith, eqb→eq x y t))) tt)

pub before-add : (n : ℕ) (h f g : ℕ → ℕ) → before (list_of n (λ p. h p + f p)) (list_of n (λ p. h p + g p)) ≡ before (list_of n f) (list_of n g)
unfolding before list_of
before-add zero h f g = refl
before-add (suc n) h f g =
    rw (ltb-add (h 0) (f 0) (g 0), eqb-add (h 0) (f 0) (g 0), before-add n (λ p. h (suc p)) (λ p. f (suc p)) (λ p. g (suc p)))
