-- Faults place by place: bytes at which there is none, and what makes a fault the first.
use Rattle.std.specs.Prelude.{ℕ, ◌+◌, ◌≤◌, ◌<◌, ◌≡◌, refl, Bool, true, false, List, [], ◌∷◌, ◌⊎◌, T, ltb, length}
use Rattle.std.proofs.Common.{arith, sym, subst, ◌∙◌, inl, inr, take-take, ltb-true, ltb-false}
use Rattle.std.proofs.lemmas.List.{take-append-le}
use Rattle.rules.specs.Text.{byte_at}
use Rattle.rules.specs.reading.ReaderLaws.{Digit}
use Rattle.rules.specs.Fault.{Fault2, Fault3, StandsAt, Fault4, Fault1, Fault, FirstFault, Span}
use Rattle.rules.specs.grammar.PlainBytes.{every, plain, and_left, and_right, plain_e}
use Rattle.rules.specs.grammar.FirstBytes.{Begun, begun_inside}
use Rattle.rules.specs.grammar.OpenForms.{Viable}

-- A fault by 2, 3 or 4 at a place.
abbrev pub Over : List ℕ → ℕ → ℕ → Type 0
Over s k j = Fault2 s j ⊎ (Fault3 s j ⊎ Fault4 s k j)

-- No fault by 2, 3 or 4 before a place.
abbrev pub Clean : List ℕ → ℕ → ℕ → Type 0
Clean s k i = (j : ℕ) → j < i → Over s k j → ⊥

-- The same place has the same byte.
same_byte : (s : List ℕ) (x y a b : ℕ) → byte_at s x ≡ a → byte_at s y ≡ b → x ≡ y → a ≡ b
same_byte s x y a b p q e = cc

-- Bytes

-- Fault 4 stands at a digit.
pub fault4_digit : (s : List ℕ) (k j : ℕ) → Fault4 s k j → (48 ≤ byte_at s j) × (byte_at s j ≤ 57)
unfolding Fault4 StandsAt
fault4_digit s k j (inl (q, d, x, ten, over, e)) = omega (arith, same_byte s j _ _ _ refl x.1.1.1.1.0 (omega arith))
fault4_digit s k j (inr (q, c, d, x, ten₁, ten, over, e)) = omega (arith, same_byte s j _ _ _ refl x.1.1.1.1.1.1.0 (omega arith))

-- A fault by 2, 3 or 4 stands at a bracket or a digit.
pub over_byte : (s : List ℕ) (k j : ℕ) → Over s k j → (40 ≤ byte_at s j) × (byte_at s j ≤ 57)
unfolding Fault2 Fault3
over_byte s k j (inl h) = omega arith
over_byte s k j (inr (inl h)) = omega arith
over_byte s k j (inr (inr h)) = omega (arith, fault4_digit s k j h)

-- The next byte has none either.
pub clean_next : (s : List ℕ) (k i : ℕ) → Clean s k i → (Over s k i → ⊥) → Clean s k (i + 1)
clean_next s k i h q j l over = go (ltb j i) refl
  where
    go : (t : Bool) → ltb j i ≡ t → ⊥
    go true e = h j (ltb-true j i e) over
    go false e = q (subst (Over s k) (omega (arith, ltb-false j i e)) over)

clean_stands : (s : List ℕ) (k i : ℕ) (bs : List ℕ) → Clean s k i → StandsAt s i bs → T (every plain bs)
    → Clean s k (i + length bs)
unfolding StandsAt every
clean_stands s k i [] h x p = subst (Clean s k) (omega arith) h
clean_stands s k i (b ∷ bs) h x p =
    subst (Clean s k) (omega arith)
    (clean_stands s k (i + 1) bs
    (clean_next s k i h (λ over. (plain_e b (and_left (plain b) _ p)).quiet (omega (arith, over_byte s k i over, x.0)) (omega (arith, over_byte s k i over, x.0))))
    x.1 (and_right (plain b) _ p))

-- No fault at plain bytes.
pub clean_span : {s bs : List ℕ} {i j : ℕ} (k : ℕ) → Clean s k i → Span s i bs j → T (every plain bs) → Clean s k j
clean_span {s} {bs} {i} {j} k h x p = subst (Clean s k) (sym x.ends) (clean_stands s k i bs h x.stands p)

-- None at a digit that is below its bound: two bytes behind the t of at, and four behind it.

pub first_digit_below : (s : List ℕ) (k t j d : ℕ) → byte_at s t ≡ 116 → j ≡ t + 2 → Digit s j k d → Over s k j → ⊥
unfolding Fault2 Fault3 Fault4 StandsAt
first_digit_below s k t j d b e x (inl h) = omega (arith, x.byte, h.0)
first_digit_below s k t j d b e x (inr (inl h)) = omega (arith, x.byte, h.0)
first_digit_below s k t j d b e x (inr (inr (inl (q, c, st, ten, over, p)))) =
    omega (arith, same_byte s j _ _ _ x.byte st.1.1.1.1.0 (omega arith), x.less)
first_digit_below s k t j d b e x (inr (inr (inr (q, c, c₂, st, ten₁, ten, over, p)))) =
    omega (arith, same_byte s t _ _ _ b st.1.1.1.1.0 (omega arith))

pub second_digit_below : (s : List ℕ) (k t j d : ℕ) → byte_at s t ≡ 116 → j ≡ t + 4 → Digit s j 8 d → Over s k j → ⊥
unfolding Fault2 Fault3 Fault4 StandsAt
second_digit_below s k t j d b e x (inl h) = omega (arith, x.byte, h.0)
second_digit_below s k t j d b e x (inr (inl h)) = omega (arith, x.byte, h.0)
second_digit_below s k t j d b e x (inr (inr (inl (q, c, st, ten, over, p)))) =
    omega (arith, same_byte s t _ _ _ b st.0 (omega arith))
second_digit_below s k t j d b e x (inr (inr (inr (q, c, c₂, st, ten₁, ten, over, p)))) =
    omega (arith, same_byte s j _ _ _ x.byte st.1.1.1.1.1.1.0 (omega arith), x.less)

-- The first fault

-- A text's first bytes that can go on hold no fault by 1.
viable_met : {s bs : List ℕ} {m : ℕ} → Begun s bs m → Viable bs → (j : ℕ) → j < m → Fault1 s j → ⊥
unfolding Fault1
viable_met {s} {bs} {m} p v j l (inl (h, never)) =
    never v.form v.digits
    (rw (← v.whole)
    (take-append-le (j + 1) bs v.rest (omega (arith, p.ends))
    ∙ rw (← p.taken) (take-take (j + 1) m s (omega arith))))
viable_met {s} {bs} {m} p v j l (inr (e, never)) = omega (arith, begun_inside p)

pub fault_cases : (n : ℕ) (s : List ℕ) (k j : ℕ) → Fault n s k j → Fault1 s j ⊎ Over s k j
unfolding Fault
fault_cases n s k j (inl h) = inl h.1
fault_cases n s k j (inr (inl h)) = inr (inl h.1)
fault_cases n s k j (inr (inr (inl h))) = inr (inr (inl h.1))
fault_cases n s k j (inr (inr (inr h))) = inr (inr (inr h.1))

-- No fault before a place to which the text can go on cleanly.
pub none-before-place : {s bs : List ℕ} {end : ℕ} (k i : ℕ) → Begun s bs end → Viable bs → i ≤ end → Clean s k i → (m j : ℕ) → j < i → Fault m s k j → ⊥
none-before-place {s} {bs} {end} k i p v le clean m j l h = go (fault_cases m s k j h)
  where
    go : Fault1 s j ⊎ Over s k j → ⊥
    go (inl x) = viable_met p v j (omega arith) x
    go (inr x) = clean j l x

-- A fault by 2, 3 or 4 at a byte with which the text can still go on.
pub first_over : {s bs : List ℕ} {i : ℕ} (n k : ℕ) → Begun s bs (i + 1) → Viable bs → Clean s k i → Fault n s k i → n ≤ 4
    → (2 < n → Fault2 s i → ⊥) → (3 < n → Fault3 s i → ⊥) → FirstFault n s k i
unfolding Fault
first_over {s} {bs} {i} n k p v clean h four not_two not_three = record {
  here = h;
  none_before = none-before-place k i p v (omega arith) clean;
  none_lower = lower;
}
  where
    lower : (m : ℕ) → m < n → Fault m s k i → ⊥
    lower m l (inl x) = viable_met p v i (omega arith) x.1
    lower m l (inr (inl x)) = not_two (omega (arith, x.0)) x.1
    lower m l (inr (inr (inl x))) = not_three (omega (arith, x.0)) x.1
    lower m l (inr (inr (inr x))) = omega (arith, x.0)
