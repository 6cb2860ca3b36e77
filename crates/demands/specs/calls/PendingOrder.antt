-- Pending events stay in the order of their keys: one put in at its place, one left out; and the order fixes the list.
use Rattle.std.specs.Prelude.{ℕ, zero, suc, ◌≤◌, ◌<◌, ◌≡◌, refl, Bool, true, false, cond, ◌⊎◌, ◌↔◌, T, leb, length, get_or, take}
use Rattle.std.proofs.Common.{arith, sym, ap₂, subst, ◌∙◌, inl, inr, ⊎_elim, le→leb}
use mathlib.Core.List.Memᴰ
use mathlib.Core.List.{List, [], ◌∷◌, Memᴰ}
use Rattle.clocks.specs.declared.Event.{Event}
use Rattle.clocks.specs.stored.KeyLaws.{before_e, before-total, before_irreflexive, before_transitive}
use Rattle.clocks.specs.Key.{lowest, key_of, key_before}
use Rattle.clocks.specs.stored.BoundedLaws.{and_i}
use Rattle.trial.specs.TurnLaws.{ascending}
use Rattle.clocks.specs.cuts.EventLaws.{true-T}
use Rattle.frontiers.specs.ListLaws.{place_member}
use Rattle.call_offer.specs.Offer.{place_among}
use Rattle.demands.specs.Status.{insert_at, remove_at}
use Rattle.demands.specs.bytes.InsertLaws.{member_take, member_drop, member_insert_at}
use Rattle.demands.specs.Ledger.{Ordered, NoClash, Clear}

-- ---- putting in
pub place-within : (e : Event) (fs : List Event) → place_among e fs ≤ length fs
unfolding place_among
place-within e [] = omega arith
place-within e (f ∷ fs) = go (key_before (key_of f) (key_of e)) (place-within e fs)
  where
    go : (b : Bool) → place_among e fs ≤ length fs → cond b (suc (place_among e fs)) 0 ≤ suc (length fs)
    go true r = omega arith
    go false r = omega arith

insert-first : (e f : Event) (fs : List Event) → key_before (key_of f) (key_of e) ≡ true
    → insert_at (place_among e (f ∷ fs)) e (f ∷ fs) ≡ f ∷ insert_at (place_among e fs) e fs
unfolding place_among insert_at
insert-first e f fs b = rw b

insert-here : (e f : Event) (fs : List Event) → key_before (key_of f) (key_of e) ≡ false
    → insert_at (place_among e (f ∷ fs)) e (f ∷ fs) ≡ e ∷ f ∷ fs
unfolding place_among insert_at
insert-here e f fs b = rw b

-- an event whose key is no pending one's goes in in order
pub insert_ordered : (e : Event) (fs : List Event) → Ordered fs
    → ((f : Event) → Memᴰ f fs → key_of f ≡ key_of e → ⊥) → Ordered (insert_at (place_among e fs) e fs)
insert_ordered e [] o h = unfold place_among insert_at in ((λ f m. absurd (Memᴰ.not-nil m)), tt)
insert_ordered e (f ∷ fs) o h =
    go (key_before (key_of f) (key_of e)) refl (insert_ordered e fs o.1 (λ g m. h g (Memᴰ.tail m)))
  where
    go : (b : Bool) → key_before (key_of f) (key_of e) ≡ b → Ordered (insert_at (place_among e fs) e fs)
        → Ordered (insert_at (place_among e (f ∷ fs)) e (f ∷ fs))
    go true b r =
        rw (insert-first e f fs b)
        ((λ g m. ⊎_elim (λ q. rw q (true-T b)) (o.0 g) ((member_insert_at (place_among e fs) e fs g).0 m)), r)
    go false b r =
        rw (insert-here e f fs b) (
          (λ g m. ⊎_elim (λ q. rw q ef) (λ k. before_transitive (key_of e) (key_of f) (key_of g) ef (o.0 g k))
              (Memᴰ.cases_cons m)),
          o,
        )
      where
        ef : T (key_before (key_of e) (key_of f))
        ef =
            ⊎_elim (λ t. t) (⊎_elim (λ q. absurd (h f (Memᴰ.head refl) (sym q))) (λ t. absurd (subst T b t)))
            (before-total (key_of e) (key_of f))

-- ---- leaving out
pub remove_e : {A : Type 0} (i : ℕ) (xs : List A) (z : A) → Memᴰ z (remove_at i xs) → Memᴰ z xs
unfolding remove_at
remove_e i xs z m = ⊎_elim (member_take i xs z) (member_drop (suc i) xs z) (Memᴰ.append_cases (take i xs) m)

pub remove_ordered : (i : ℕ) (fs : List Event) → Ordered fs → Ordered (remove_at i fs)
unfolding remove_at
remove_ordered zero [] o = tt
remove_ordered (suc i) [] o = tt
remove_ordered zero (f ∷ fs) o = o.1
remove_ordered (suc i) (f ∷ fs) o =
    ((λ g m. o.0 g (remove_e i fs g (unfold remove_at in m))), remove_ordered i fs o.1)

-- ---- by the lowest process
process_le : (e f : Event) → T (key_before (key_of e) (key_of f)) → lowest e ≤ lowest f
unfolding key_of
process_le e f t = ⊎_elim (λ l. omega arith) (λ q. omega arith) (before_e (key_of e) (key_of f) t)

ascends_from : (p : ℕ) (es : List Event) → ((f : Event) → Memᴰ f es → p ≤ lowest f) → Ordered es
    → T (ascending p es)
unfolding ascending
ascends_from p [] h o = tt
ascends_from p (e ∷ es) h o =
    and_i (leb p (lowest e)) (ascending (lowest e) es) (le→leb p (lowest e) (h e (Memᴰ.head refl)))
    (ascends_from (lowest e) es (λ f m. process_le e f (o.0 f m)) o.1)

-- the lowest processes of pending events ascend: as they stand they are tried
pub ordered_ascends : (es : List Event) → Ordered es → T (ascending 0 es)
ordered_ascends es o = ascends_from 0 es (λ f m. omega arith) o

-- ---- ordered lists with the same members are one
pub ordered_unique : (xs ys : List Event) → Ordered xs → Ordered ys
    → ((z : Event) → Memᴰ z xs ↔ Memᴰ z ys) → xs ≡ ys
ordered_unique [] [] s t h = refl
ordered_unique [] (y ∷ ys) s t h = absurd (Memᴰ.not-nil ((h y).1 (Memᴰ.head refl)))
ordered_unique (x ∷ xs) [] s t h = absurd (Memᴰ.not-nil ((h x).0 (Memᴰ.head refl)))
ordered_unique (x ∷ xs) (y ∷ ys) s t h =
    ap₂ ◌∷◌ same (ordered_unique xs ys s.1 t.1
    (λ z. (tails x y xs ys s same (λ u. (h u).0) z, tails y x ys xs t (sym same) (λ u. (h u).1) z)))
  where
    same : x ≡ y
    same = ⊎_elim (λ q. q)
        (λ m. ⊎_elim sym
        (λ n. absurd (before_irreflexive (key_of x)
        (before_transitive (key_of x) (key_of y) (key_of x) (s.0 y n) (t.0 x m))))
        (Memᴰ.cases_cons ((h y).1 (Memᴰ.head refl))))
        (Memᴰ.cases_cons ((h x).0 (Memᴰ.head refl)))

    tails : (a b : Event) (as' bs : List Event) → Ordered (a ∷ as') → a ≡ b
        → ((z : Event) → Memᴰ z (a ∷ as') → Memᴰ z (b ∷ bs))
        → (z : Event) → Memᴰ z as' → Memᴰ z bs
    tails a b as' bs o q g z m = ⊎_elim
        (λ p. absurd (before_irreflexive (key_of a)
        (subst (λ (c : Event). T (key_before (key_of a) (key_of c))) (p ∙ sym q) (o.0 z m))))
        (λ n. n)
        (Memᴰ.cases_cons (g z (Memᴰ.tail m)))

-- ---- no two have a count in common
pub clash_sym : (e f : Event) → NoClash e f → NoClash f e
clash_sym e f n p a b q = n p b a (sym q)

-- ... at two places, and so two that differ
pub clear_apart : (es : List Event) → Clear es → (e f : Event) → Memᴰ e es → Memᴰ f es → (f ≡ e → ⊥)
    → NoClash e f
clear_apart [] c e f m n d = absurd (Memᴰ.not-nil m)
clear_apart (g ∷ es) c e f m n d = go (Memᴰ.cases_cons m) (Memᴰ.cases_cons n) (clear_apart es c.1 e f)
  where
    go : (e ≡ g) ⊎ Memᴰ e es → (f ≡ g) ⊎ Memᴰ f es
        → (Memᴰ e es → Memᴰ f es → (f ≡ e → ⊥) → NoClash e f) → NoClash e f
    go (inl q) (inl r) further = absurd (d (r ∙ sym q))
    go (inl q) (inr o) further = rw q (c.0 f o)
    go (inr o) (inl r) further = rw r (clash_sym g e (c.0 e o))
    go (inr o) (inr u) further = further o u d

pub clear_insert : (i : ℕ) (e : Event) (es : List Event) → Clear es → ((f : Event) → Memᴰ f es → NoClash e f)
    → Clear (insert_at i e es)
unfolding insert_at
clear_insert zero e es c h = (h, c)
clear_insert (suc i) e [] c h = (h, c)
clear_insert (suc i) e (f ∷ es) c h = (
  (λ g m. ⊎_elim (λ q. rw q (clash_sym e f (h f (Memᴰ.head refl)))) (c.0 g)
      ((member_insert_at i e es g).0 (unfold insert_at in m))),
  clear_insert i e es c.1 (λ g m. h g (Memᴰ.tail m)),
)

pub clear_remove : (i : ℕ) (es : List Event) → Clear es → Clear (remove_at i es)
unfolding remove_at
clear_remove zero [] c = tt
clear_remove (suc i) [] c = tt
clear_remove zero (e ∷ es) c = c.1
clear_remove (suc i) (e ∷ es) c = ((λ g m. c.0 g (remove_e i es g (unfold remove_at in m))), clear_remove i es c.1)

-- the one left out clashes with none of the others
pub clear_other : (i : ℕ) (es : List Event) (d : Event) → Clear es → i < length es → (f : Event)
    → Memᴰ f (remove_at i es) → NoClash (get_or es i d) f
unfolding remove_at
clear_other i [] d c l f m = absurd (omega arith)
clear_other zero (e ∷ es) d c l f m = c.0 f m
clear_other (suc i) (e ∷ es) d c l f m = ⊎_elim
    (λ q. rw q (clash_sym e (get_or es i d) (c.0 (get_or es i d) (place_member es i d (omega arith)))))
    (clear_other i es d c.1 (omega arith) f)
    (Memᴰ.cases_cons m)
