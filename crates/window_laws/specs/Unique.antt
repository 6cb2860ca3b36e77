-- A history's window is one list: strictly ascending lists with the same members are equal, and histories with the same
-- events keep the same cuts with the same frontiers.
use Rattle.std.specs.Prelude.{ℕ, ◌<◌, ◌≡◌, refl, ◌⊎◌, T}
use Rattle.std.proofs.Common.{sym, ap₂, subst, ◌∙◌, ⊎_elim}
use mathlib.Core.List.Memᴰ
use mathlib.Core.List.{List, [], ◌∷◌, map, Memᴰ}
use Rattle.clocks.specs.declared.Event.{Event}
use Rattle.clocks.specs.History.{Agree}
use Rattle.clocks.specs.Causal.{Causal}
use Rattle.clocks.specs.Event.{Cut}
use Rattle.clocks.specs.validity.ClockRule.{history_causal}
use Rattle.clocks.specs.Counts.{list_of}
use Rattle.clocks.specs.cuts.SameEvents.{Same, same-sym, same_taken, same_agree, same-consistent}
use Rattle.frontiers.specs.declared.Frontier.{Frontier}
use Rattle.window_laws.specs.FrontierLaws.{frontier_agree}
use Rattle.window_laws.specs.Represents.{open_in, KeptIn, Represents, Proper}
use Rattle.window_laws.specs.FrontierOf.{World, frontier_of, SortedBy}
use Rattle.lookup.specs.Order.{before}
use Rattle.lookup.specs.OrderLaws.{before_irrefl, before_trans}

pub sorted_unique : {A : Type 0} (key : A → List ℕ) (xs ys : List A) → SortedBy key xs → SortedBy key ys → ((z : A) → Memᴰ z xs → Memᴰ z ys) → ((z : A) → Memᴰ z ys → Memᴰ z xs) → xs ≡ ys
sorted_unique key [] [] s t f g = refl
sorted_unique key [] (y ∷ ys) s t f g = absurd (Memᴰ.not-nil (g y (Memᴰ.head refl)))
sorted_unique key (x ∷ xs) [] s t f g = absurd (Memᴰ.not-nil (f x (Memᴰ.head refl)))
sorted_unique {A} key (x ∷ xs) (y ∷ ys) s t f g =
    ap₂ ◌∷◌ same (sorted_unique key xs ys s.1 t.1 (tails x y xs ys s same f) (tails y x ys xs t (sym same) g))
  where
    -- the first of each is the smallest of both
    same : x ≡ y
    same = ⊎_elim (λ q. q)
        (λ m. ⊎_elim sym (λ k. absurd (before_irrefl (key x) (before_trans (key x) (key y) (key x) (s.0 y k) (t.0 x m)))) (Memᴰ.cases_cons (g y (Memᴰ.head refl))))
        (Memᴰ.cases_cons (f x (Memᴰ.head refl)))

    tails : (a b : A) (xa xb : List A) → SortedBy key (a ∷ xa) → a ≡ b → ((z : A) → Memᴰ z (a ∷ xa) → Memᴰ z (b ∷ xb)) → (z : A) → Memᴰ z xa → Memᴰ z xb
    tails a b xa xb o q h z m = ⊎_elim
        (λ p. absurd (before_irrefl (key a) (subst (λ (c : A). T (before (key a) (key c))) (p ∙ sym q) (o.0 z m))))
        (λ k. k)
        (Memᴰ.cases_cons (h z (Memᴰ.tail m)))

-- ---- the same events, the same kept cuts
kept_same : (W : World) (ts us : List Event) → Causal ts → Causal us → Same ts us → (S : Cut) → KeptIn W ts S → KeptIn W us S
kept_same W ts us c d s S k = record { consistent = same-consistent ts us c d s S k.consistent; kept = subst (λ (C : Cut). ((p : ℕ) × (p < W.processes) × T (open_in W p) × (S p ≡ C p)) ⊎ (S ≡ C)) (same_taken ts us c d s) k.kept }

-- ---- Theorem
pub window_unique : (W : World) (valid : List Event → Event → Type 0) (ts us : List Event) → Proper W valid ts → Proper W valid us → Same ts us
    → (fs gs : List Frontier) → Represents W ts fs → Represents W us gs → fs ≡ gs
window_unique W valid ts us P Q s fs gs R O =
    R.are ∙ ap₂ map (refl {a = frontier_of W ts}) cuts ∙ mapped O.cuts (λ S m. m) ∙ sym O.are
  where
    c : Causal ts
    c = history_causal W.processes valid P.rule ts P.by_rule

    d : Causal us
    d = history_causal W.processes valid Q.rule us Q.by_rule

    cuts : R.cuts ≡ O.cuts
    cuts = sorted_unique (list_of W.stored) R.cuts O.cuts R.sorted O.sorted
        (λ S m. O.complete S (kept_same W ts us c d s S (R.kept S m)))
        (λ S m. R.complete S (kept_same W us ts d c (same-sym s) S (O.kept S m)))

    mapped : (Ss : List Cut) → ((S : Cut) → Memᴰ S Ss → Memᴰ S O.cuts) → map (frontier_of W ts) Ss ≡ map (frontier_of W us) Ss
    mapped [] h = refl
    mapped (S ∷ Ss) h =
        let a : Agree S us ts = same_agree us ts d c (same-sym s) S in
        let q : frontier_of W ts S ≡ frontier_of W us S = sym (frontier_agree W valid us ts P.rule Q.by_rule P.by_rule S (O.kept S (h S (Memᴰ.head refl))).consistent a) in
        rw (q, mapped Ss (λ T m. h T (Memᴰ.tail m)))
