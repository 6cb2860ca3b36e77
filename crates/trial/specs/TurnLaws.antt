-- The order in which take tries pending events: it has each of them, and where their lowest processes ascend, as in
-- every watch, it is the order in which they stand.
use Rattle.std.specs.Prelude.{ℕ, zero, suc, ◌+◌, ◌≤◌, ◌<◌, ◌≡◌, Bool, true, false, ◌&&◌, T, eqb, leb, length, get_or}
use Rattle.std.proofs.Common.{arith, ap, ◌∙◌, ⊎_elim, leb→le, eq-eqb, ne_eqb}
use Rattle.std.proofs.Math.Decide.{dec_lt}
use Rattle.std.proofs.Math.Path.{refl}
use mathlib.Core.List.{List, [], ◌∷◌, Memᴰ}
use mathlib.Core.List.Memᴰ as member
use Rattle.std.proofs.lemmas.Nat.{trailing_le}
use Rattle.std.proofs.Math.ListN.{length-append}
use Rattle.clocks.specs.declared.Event.{Event}
use Rattle.clocks.specs.Key.{lowest}
use Rattle.clocks.specs.stored.BoundedLaws.{and_l, and_r}
use Rattle.trial.specs.Trial.{places_of, places_from, in_turn}

-- ---- Definitions

-- The lowest processes of these events ascend, from p up.
unfoldable pub ascending : (p : ℕ) (es : List Event) → Bool
ascending p [] = true
ascending p (e ∷ es) = leb p (lowest e) && ascending (lowest e) es

-- n numbers, one after the other, from i up.
unfoldable pub up_from : (n i : ℕ) → List ℕ
up_from zero i = []
up_from (suc n) i = i ∷ up_from n (i + 1)

-- ---- Laws

lowest-le : (e : Event) → lowest e ≤ 8
unfolding lowest
lowest-le e = trailing_le 8 e.mask

-- one event more
pub places_here : (p i : ℕ) (e : Event) (es : List Event) → lowest e ≡ p → places_of p i (e ∷ es)
    ≡ i ∷ places_of p (i + 1) es
unfolding places_of
places_here p i e es h = rw (eq-eqb (lowest e) p h)

pub places_pass : (p i : ℕ) (e : Event) (es : List Event) → (lowest e ≡ p → ⊥)
    → places_of p i (e ∷ es) ≡ places_of p (i + 1) es
unfolding places_of
places_pass p i e es h = rw (ne_eqb (lowest e) p h)

-- no event has a process from 9 up,
pub none_beyond : (p i : ℕ) (es : List Event) → 8 < p → places_of p i es ≡ []
none_beyond p i [] l = unfold places_of in refl
none_beyond p i (e ∷ es) l =
    places_pass p i e es (λ q. omega (arith, lowest-le e)) ∙ none_beyond p (i + 1) es l

-- an event of a lower process is none of these,
below_passed : (n p i : ℕ) (e : Event) (es : List Event) → lowest e < p
    → places_from n p i (e ∷ es) ≡ places_from n p (i + 1) es
unfolding places_from
below_passed zero p i e es l = refl
below_passed (suc n) p i e es l =
    rw (places_pass p i e es (λ q. omega arith), below_passed n (p + 1) i e es (omega arith))

-- and one of the lowest comes first.
comes-first : (n p i : ℕ) (e : Event) (es : List Event) → lowest e ≡ p
    → places_from (suc n) p i (e ∷ es) ≡ i ∷ places_from (suc n) p (i + 1) es
unfolding places_from
comes-first n p i e es q = rw (places_here p i e es q, below_passed n (p + 1) i e es (omega arith))

-- where none is of the lowest, the rest remain.
none-there : (n p i : ℕ) (es : List Event) → places_of p i es ≡ [] → places_from (suc n) p i es
    ≡ places_from n (p + 1) i es
unfolding places_from
none-there n p i es h = rw h

-- ---- How many there are

from_none : (n p i : ℕ) → places_from n p i [] ≡ []
unfolding places_from places_of
from_none zero p i = refl
from_none (suc n) p i = from_none n (p + 1) i

one_longer : (n p i : ℕ) (e : Event) (es : List Event) → p ≤ lowest e → lowest e < p + n
    → length (places_from n p i (e ∷ es)) ≡ suc (length (places_from n p (i + 1) es))
one_longer zero p i e es l m = absurd (omega arith)
one_longer (suc n) p i e es l m = go (dec_lt p (lowest e)) (one_longer n (p + 1) i e es)
  where
    go : Dec (p < lowest e)
        → (p + 1 ≤ lowest e → lowest e < p + 1 + n
        → length (places_from n (p + 1) i (e ∷ es)) ≡ suc (length (places_from n (p + 1) (i + 1) es)))
        → length (places_from (suc n) p i (e ∷ es)) ≡ suc (length (places_from (suc n) p (i + 1) es))
    go (no g) rest = ap length (comes-first n p i e es (omega arith))
    go (yes g) rest =
        let more = rest (omega arith) (omega arith) in
        unfold places_from in
        rw (
          places_pass p i e es (λ q. omega arith),
          length-append (places_of p (i + 1) es) (places_from n (p + 1) i (e ∷ es)),
          length-append (places_of p (i + 1) es) (places_from n (p + 1) (i + 1) es),
          more,
        )
        (omega arith)

-- Each event has its turn.
pub length-turn : (i : ℕ) (es : List Event) → length (places_from 9 0 i es) ≡ length es
length-turn i [] = ap length (from_none 9 0 i)
length-turn i (e ∷ es) =
    one_longer 9 0 i e es (omega arith) (omega (arith, lowest-le e)) ∙ ap suc (length-turn (i + 1) es)

-- ---- Which they are

places_below : (p i : ℕ) (es : List Event) (j : ℕ) → Memᴰ j (places_of p i es) → j < i + length es
unfolding places_of
places_below p i [] j m = absurd (member.not-nil m)
places_below p i (e ∷ es) j m = go (eqb (lowest e) p) refl (places_below p (i + 1) es j)
  where
    go : (b : Bool) → eqb (lowest e) p ≡ b → (Memᴰ j (places_of p (i + 1) es) → j < i + 1 + length es)
        → j < i + length (e ∷ es)
    go true q rest =
        let n : Memᴰ j (i ∷ places_of p (i + 1) es) = rw q at m in
        ⊎_elim (λ s. omega arith) (λ t. omega (arith, rest t)) (member.cases_cons n)
    go false q rest = let n : Memᴰ j (places_of p (i + 1) es) = rw q at m in omega (arith, rest n)

pub turn_below : (n p i : ℕ) (es : List Event) (j : ℕ) → Memᴰ j (places_from n p i es) → j < i + length es
unfolding places_from
turn_below zero p i es j m = absurd (member.not-nil m)
turn_below (suc n) p i es j m =
    ⊎_elim (places_below p i es j) (turn_below n (p + 1) i es j) (member.append_cases (places_of p i es) m)

-- ---- Where the lowest processes ascend

none_lower : (q p i : ℕ) (es : List Event) → p < q → T (ascending q es) → places_of p i es ≡ []
unfolding ascending
none_lower q p i [] l a = unfold places_of in refl
none_lower q p i (e ∷ es) l a =
    let up : q ≤ lowest e = leb→le q (lowest e) (and_l (leb q (lowest e)) (ascending (lowest e) es) a) in
    places_pass p i e es (λ z. omega arith)
    ∙ none_lower (lowest e) p (i + 1) es (omega arith) (and_r (leb q (lowest e)) (ascending (lowest e) es) a)

standing : (es : List Event) (n p i : ℕ) → p + n ≡ 9 → T (ascending p es) → places_from n p i es ≡ up_from (length es) i
unfolding ascending up_from
standing [] n p i q a = from_none n p i
standing (e ∷ es) n p i q a =
    go (standing es) n p q (leb→le p (lowest e) (and_l (leb p (lowest e)) (ascending (lowest e) es) a))
  where
    up : T (ascending (lowest e) es)
    up = and_r (leb p (lowest e)) (ascending (lowest e) es) a

    go : ((n p i : ℕ) → p + n ≡ 9 → T (ascending p es) → places_from n p i es ≡ up_from (length es) i) → (n p : ℕ)
        → p + n ≡ 9 → p ≤ lowest e → places_from n p i (e ∷ es) ≡ i ∷ up_from (length es) (i + 1)
    go rest zero p q l = absurd (omega (arith, lowest-le e))
    go rest (suc n) p q l = by (dec_lt p (lowest e)) (go rest n (p + 1) (omega arith))
      where
        by : Dec (p < lowest e)
            → (p + 1 ≤ lowest e → places_from n (p + 1) i (e ∷ es) ≡ i ∷ up_from (length es) (i + 1))
            → places_from (suc n) p i (e ∷ es) ≡ i ∷ up_from (length es) (i + 1)
        by (yes g) later =
            let none : places_of p i (e ∷ es) ≡ [] =
            places_pass p i e es (λ z. omega arith) ∙ none_lower (lowest e) p (i + 1) es g up in
            none-there n p i (e ∷ es) none ∙ later (omega arith)
        by (no g) later =
            let here : lowest e ≡ p = omega arith in
            comes-first n p i e es here ∙ ap (λ (is : List ℕ). i ∷ is) (rest (suc n) p (i + 1) q (rw here at up))

-- ---- Theorem

-- Where the lowest processes ascend, the order is the one in which the events stand.
pub turn_stands : (es : List Event) → T (ascending 0 es) → in_turn es ≡ up_from (length es) 0
turn_stands es a = standing es 9 0 0 refl a

get_d_up : (n i t : ℕ) → t < n → get_or (up_from n i) t 0 ≡ i + t
unfolding up_from
get_d_up zero i t l = absurd (omega arith)
get_d_up (suc n) i zero l = omega arith
get_d_up (suc n) i (suc t) l = get_d_up n (i + 1) t (omega arith) ∙ omega arith

pub turn_stands_at : (es : List Event) → T (ascending 0 es) → (t : ℕ) → t < length es → get_or (in_turn es) t 0 ≡ t
turn_stands_at es a t l = rw (turn_stands es a) (get_d_up (length es) 0 t l ∙ omega arith)
