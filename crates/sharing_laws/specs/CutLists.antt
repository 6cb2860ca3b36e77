-- All cuts up to the counts of a sharing, and those of them that reach a count: as lists in ascending order, with as
-- many elements as the products say.
use Rattle.std.specs.Prelude.{ℕ, zero, suc, ◌*◌, ◌≤◌, ◌<◌, ◌≡◌, refl, ◌↔◌, T, length}
use Rattle.std.proofs.Common.{zero-mul, suc-mul, le_of_suc-le-suc, arith, sym, ap, ◌∙◌, subst, ⊎_elim, length-append}
use Rattle.std.proofs.Math.Decide.{dec_lt}
use Rattle.std.proofs.Math.Path.{fun_ext}
use mathlib.Core.List.Memᴰ
use mathlib.Core.List.{List, [], ◌∷◌, ◌++◌, map, Memᴰ}
use Rattle.std.proofs.lemmas.List.{length-map}
use Rattle.clocks.specs.Event.{Cut}
use Rattle.clocks.specs.Bounds.{zeros}
use Rattle.clocks.specs.Counts.{at, list_of}
use Rattle.lookup.specs.Order.{before}
use Rattle.lookup.specs.OrderLaws.{before-less, before-tail}
use Rattle.window_laws.specs.FrontierOf.{SortedBy, Sorted}
use Rattle.call_busiest.specs.Sharing.{product, sharing_keeps}
use Rattle.call_busiest.specs.SharingLaws.{kept_sum, kept_first}

-- ---- Cuts by the count of process 0

-- The cut of the other processes; a cut behind a count of process 0.
abbrev others : Cut → Cut
others S p = S (suc p)

abbrev headed : ℕ → Cut → Cut
headed c S zero = c
headed c S (suc p) = S p

headed-others : (S : Cut) → headed (S 0) (others S) ≡ S
headed-others S = fun_ext go
  where
    go : (p : ℕ) → headed (S 0) (others S) p ≡ S p
    go zero = refl
    go (suc p) = refl

-- Those with each count below n, the lower ones first.
headed_below : ℕ → List Cut → List Cut
headed_below zero cuts = []
headed_below (suc n) cuts = headed_below n cuts ++ map (headed n) cuts

in_headed : (c : ℕ) (cuts : List Cut) (S : Cut) → Memᴰ S (map (headed c) cuts)
    → (S 0 ≡ c) × Memᴰ (others S) cuts
in_headed c cuts S m =
    let r = Memᴰ.of_map (headed c) cuts m in (
      ap (λ (R : Cut). R 0) (sym r.2),
      subst (λ (R : Cut). Memᴰ (others R) cuts) r.2 r.1,
    )

headed_in : (c : ℕ) (cuts : List Cut) (S : Cut) → S 0 ≡ c → Memᴰ (others S) cuts
    → Memᴰ S (map (headed c) cuts)
headed_in c cuts S e m =
    let whole : headed c (others S) ≡ S = rw (← e) (headed-others S) in
    subst (λ (R : Cut). Memᴰ R (map (headed c) cuts)) whole (Memᴰ.map (headed c) m)

in_below : (n : ℕ) (cuts : List Cut) (S : Cut) → Memᴰ S (headed_below n cuts)
    → (S 0 < n) × Memᴰ (others S) cuts
unfolding headed_below
in_below zero cuts S m = absurd (Memᴰ.not-nil m)
in_below (suc n) cuts S m =
    ⊎_elim (λ a. let r = in_below n cuts S a in (omega (arith, r.0), r.1))
    (λ b. let r = in_headed n cuts S b in (omega (arith, r.0), r.1))
    (Memᴰ.append_cases (headed_below n cuts) m)

below_in : (n : ℕ) (cuts : List Cut) (S : Cut) → S 0 < n → Memᴰ (others S) cuts
    → Memᴰ S (headed_below n cuts)
unfolding headed_below
below_in zero cuts S l m = absurd (omega arith)
below_in (suc n) cuts S l m = go (dec_lt (S 0) n) (λ k. below_in n cuts S k m)
  where
    go : Dec (S 0 < n) → (S 0 < n → Memᴰ S (headed_below n cuts))
        → Memᴰ S (headed_below n cuts ++ map (headed n) cuts)
    go (yes k) lower = Memᴰ.append_left (map (headed n) cuts) (lower k)
    go (no k) lower = Memᴰ.append_right (headed_below n cuts) (headed_in n cuts S (omega arith) m)

length_below : (n : ℕ) (cuts : List Cut) → length (headed_below n cuts) ≡ n * length cuts
unfolding headed_below
length_below zero cuts = sym (zero-mul (length cuts))
length_below (suc n) cuts =
    length-append (headed_below n cuts) (map (headed n) cuts)
    ∙ omega (arith, length_below n cuts, length-map cuts (headed n), suc-mul n (length cuts))

-- ---- Their order

sorted_append : {A : Type 0} (key : A → List ℕ) (xs ys : List A) → SortedBy key xs → SortedBy key ys
    → ((x y : A) → Memᴰ x xs → Memᴰ y ys → T (before (key x) (key y))) → SortedBy key (xs ++ ys)
sorted_append key [] ys s t h = t
sorted_append {A} key (x ∷ xs) ys s t h =
    (first, sorted_append key xs ys s.1 t (λ a b m k. h a b (Memᴰ.tail m) k))
  where
    first : (z : A) → Memᴰ z (xs ++ ys) → T (before (key x) (key z))
    first z m = ⊎_elim (s.0 z) (h x z (Memᴰ.head refl)) (Memᴰ.append_cases xs m)

sorted_headed : (n c : ℕ) (cuts : List Cut) → Sorted n cuts → Sorted (suc n) (map (headed c) cuts)
unfolding list_of
sorted_headed n c [] s = tt
sorted_headed n c (S ∷ cuts) s = (first, sorted_headed n c cuts s.1)
  where
    first : (R : Cut) → Memᴰ R (map (headed c) cuts) → T (before (list_of (suc n) (headed c S)) (list_of (suc n) R))
    first R m =
        let r = in_headed c cuts R m in
        before-tail c (R 0) (list_of n S) (list_of n (others R)) (sym r.0) (s.0 (others R) r.1)

-- A lower count of process 0 stands before a higher one.
lower-first : (n : ℕ) (S R : Cut) → S 0 < R 0 → T (before (list_of (suc n) S) (list_of (suc n) R))
unfolding list_of
lower-first n S R l = before-less (S 0) (R 0) (list_of n (others S)) (list_of n (others R)) l

sorted_below : (n m : ℕ) (cuts : List Cut) → Sorted n cuts → Sorted (suc n) (headed_below m cuts)
unfolding headed_below
sorted_below n zero cuts s = tt
sorted_below n (suc m) cuts s =
    sorted_append (list_of (suc n)) (headed_below m cuts) (map (headed m) cuts) (sorted_below n m cuts s)
    (sorted_headed n m cuts s)
    (λ S R a b. lower-first n S R (omega (arith, (in_below m cuts S a).0, (in_headed m cuts R b).0)))

-- ---- All cuts up to the counts

-- Nowhere above the counts.
abbrev pub UpTo : List ℕ → Cut → Type 0
UpTo cs S = (p : ℕ) → S p ≤ at cs p

up_to_others : (c : ℕ) (cs : List ℕ) (S : Cut) → UpTo (c ∷ cs) S → UpTo cs (others S)
up_to_others c cs S h p = h (suc p)

up_to_headed : (c : ℕ) (cs : List ℕ) (S : Cut) → S 0 ≤ c → UpTo cs (others S) → UpTo (c ∷ cs) S
up_to_headed c cs S l h zero = l
up_to_headed c cs S l h (suc p) = h p

pub all_cuts : List ℕ → List Cut
all_cuts [] = zeros ∷ []
all_cuts (c ∷ cs) = headed_below (suc c) (all_cuts cs)

all_exactly : (cs : List ℕ) (S : Cut) → Memᴰ S (all_cuts cs) ↔ UpTo cs S
unfolding all_cuts
all_exactly [] S = (there, λ h. Memᴰ.head (none h))
  where
    none : UpTo [] S → S ≡ zeros
    none h = fun_ext (λ p. let z : S p ≡ 0 = omega (arith, h p) in z)

    there : Memᴰ S (zeros ∷ []) → UpTo [] S
    there m p = ⊎_elim (λ e. rw e (omega arith)) (λ n. absurd (Memᴰ.not-nil n)) (Memᴰ.cases_cons m)
all_exactly (c ∷ cs) S = (
  λ m.
      let r = in_below (suc c) (all_cuts cs) S m in
      up_to_headed c cs S (le_of_suc-le-suc r.0) ((all_exactly cs (others S)).0 r.1),
  λ h.
      let l : S 0 ≤ c = h 0 in
      below_in (suc c) (all_cuts cs) S (omega arith) ((all_exactly cs (others S)).1 (up_to_others c cs S h)),
)

length-all : (cs : List ℕ) → length (all_cuts cs) ≡ product (map suc cs)
unfolding all_cuts product
length-all [] = refl
length-all (c ∷ cs) = length_below (suc c) (all_cuts cs) ∙ ap (λ (n : ℕ). suc c * n) (length-all cs)

sorted_all : (n : ℕ) (cs : List ℕ) → length cs ≤ n → Sorted n (all_cuts cs)
unfolding all_cuts
sorted_all n [] l = (λ R m. absurd (Memᴰ.not-nil m), tt)
sorted_all zero (c ∷ cs) l = absurd (omega arith)
sorted_all (suc n) (c ∷ cs) l = sorted_below n (suc c) (all_cuts cs) (sorted_all n cs (le_of_suc-le-suc l))

-- ---- Those that reach a count

abbrev pub Reaches : List ℕ → Cut → Type 0
Reaches cs S = (p : ℕ) × (p < length cs) × (S p ≡ at cs p)

pub reaching : List ℕ → List Cut
reaching [] = []
reaching (c ∷ cs) = headed_below c (reaching cs) ++ map (headed c) (all_cuts cs)

pub reaching_exactly : (cs : List ℕ) (S : Cut) → Memᴰ S (reaching cs) ↔ (UpTo cs S × Reaches cs S)
unfolding reaching
reaching_exactly [] S = (λ m. absurd (Memᴰ.not-nil m), λ h. absurd (omega (arith, h.1.1)))
reaching_exactly (c ∷ cs) S =
    let rest = reaching_exactly cs (others S) in
    (there rest.0, back rest.1)
  where
    there : (Memᴰ (others S) (reaching cs) → UpTo cs (others S) × Reaches cs (others S))
        → Memᴰ S (headed_below c (reaching cs) ++ map (headed c) (all_cuts cs))
        → UpTo (c ∷ cs) S × Reaches (c ∷ cs) S
    there rest m =
        ⊎_elim
        (λ a.
        let r = in_below c (reaching cs) S a in
        let o = rest r.1 in
        let l : S 0 ≤ c = omega (arith, r.0) in
        (up_to_headed c cs S l o.0, (suc o.1.0, omega (arith, o.1.1), o.1.2)))
        (λ b.
        let r = in_headed c (all_cuts cs) S b in
        let l : S 0 ≤ c = omega (arith, r.0) in
        (up_to_headed c cs S l ((all_exactly cs (others S)).0 r.1), (0, omega arith, r.0)))
        (Memᴰ.append_cases (headed_below c (reaching cs)) m)

    back : (UpTo cs (others S) × Reaches cs (others S) → Memᴰ (others S) (reaching cs))
        → UpTo (c ∷ cs) S × Reaches (c ∷ cs) S
        → Memᴰ S (headed_below c (reaching cs) ++ map (headed c) (all_cuts cs))
    back rest h = go (dec_lt (S 0) c) h.1
      where
        go : Dec (S 0 < c) → Reaches (c ∷ cs) S
            → Memᴰ S (headed_below c (reaching cs) ++ map (headed c) (all_cuts cs))
        go (no l) r =
            let same : S 0 ≡ c = omega (arith, h.0 0) in
            Memᴰ.append_right (headed_below c (reaching cs))
            (headed_in c (all_cuts cs) S same ((all_exactly cs (others S)).1 (up_to_others c cs S h.0)))
        go (yes l) (zero, k, e) = absurd (omega arith)
        go (yes l) (suc p, k, e) =
            Memᴰ.append_left (map (headed c) (all_cuts cs))
            (below_in c (reaching cs) S l
            (rest (up_to_others c cs S h.0, (p, le_of_suc-le-suc k, e))))

pub length_reaching : (cs : List ℕ) → length (reaching cs) ≡ sharing_keeps cs
unfolding reaching
length_reaching [] = omega (arith, kept_sum [])
length_reaching (c ∷ cs) =
    length-append (headed_below c (reaching cs)) (map (headed c) (all_cuts cs))
    ∙ omega (
      arith,
      length_below c (reaching cs),
      length-map (all_cuts cs) (headed c),
      length-all cs,
      ap (λ (n : ℕ). c * n) (length_reaching cs),
      kept_first c cs,
      kept_sum cs,
      suc-mul c (sharing_keeps cs),
    )

pub sorted_reaching : (n : ℕ) (cs : List ℕ) → length cs ≤ n → Sorted n (reaching cs)
unfolding reaching
sorted_reaching n [] l = tt
sorted_reaching zero (c ∷ cs) l = absurd (omega arith)
sorted_reaching (suc n) (c ∷ cs) l =
    let few : length cs ≤ n = le_of_suc-le-suc l in
    sorted_append (list_of (suc n)) (headed_below c (reaching cs)) (map (headed c) (all_cuts cs))
    (sorted_below n c (reaching cs) (sorted_reaching n cs few)) (sorted_headed n c (all_cuts cs) (sorted_all n cs few))
    (λ S R a b. lower-first n S R (omega (arith, (in_below c (reaching cs) S a).0, (in_headed c (all_cuts cs) R b).0)))
