-- What is made once says what it is made of.
use Rattle.std.proofs.Common.{◌≡◌, ℕ, zero, suc, ◌+◌, ◌-◌, ◌%◌, ◌^◌, ◌<◌, ◌≤◌, Bool, true, false, not, ◌&&◌, T, eqb, ltb, leb, ◌⊎◌, List, get_or, sym, refl, ◌∙◌, subst, inl, inr, mod-eq_of_lt, div-add-mod', arith, le→leb, eqb→eq, ltb→lt, lt→ltb, leb→le, eq-eqb}
use native.Mathlib.Decide.{dec_lt}
use Rattle.codec.specs.Bit.{bit}
use Rattle.clocks.specs.cuts.EventLaws.{true-T}
use Rattle.clocks.specs.Event.{one}
use Rattle.clocks.specs.Counts.{at}
use Rattle.clocks.specs.Bounded.{any_below}
use Rattle.clocks.specs.stored.BoundedLaws.{and_i, and_l, and_r, same_test, any_i, any_e}
use Rattle.clocks.specs.Tested.{ready_at}
use Rattle.window.specs.StepCode.{complete_at, complete}
use Rattle.window.specs.Prepared.{lowest, span_of, open_ones}
use Rattle.window.specs.Lists.{made_at}

-- ---- Bounds by arithmetic
-- A binary digit is 1 or 0 as its test says.
pub digit_one : (x : ℕ) → x < 2 → x ≡ one (eqb x 1)
digit_one zero l = refl
digit_one (suc zero) l = refl
digit_one (suc (suc x)) l = absurd (omega arith)

-- ---- Counts within an event's bounds
-- A difference that may have wrapped: d is c less low.
wrapped : (d low c : ℕ) → d < 2 ^ 32 → low < 2 ^ 32 → (d + low) % 2 ^ 32 ≡ c
    → (d + low ≡ c) ⊎ (d + low ≡ c + 2 ^ 32)
wrapped d low c l m e = go (dec_lt (d + low) (2 ^ 32))
  where
    go : Dec (d + low < 2 ^ 32) → (d + low ≡ c) ⊎ (d + low ≡ c + 2 ^ 32)
    go (yes h) = inl (sym (mod-eq_of_lt h) ∙ e)
    go (no h) = inr (omega (arith, div-add-mod' (d + low) (2 ^ 32)))

pub between-ready : (b : Bool) (n c d low : ℕ) → c < 2 ^ 32 → d < 2 ^ 32 → low < 2 ^ 32 → (d + low) % 2 ^ 32 ≡ c
    → (b ≡ true → 0 < n) → low ≡ lowest (one b) n → leb d (span_of (one b) n) ≡ ready_at b n c
between-ready b n c d low lc ld ll w some e = go b some e (wrapped d low c ld ll w)
  where
    go : (b : Bool) → (b ≡ true → 0 < n) → low ≡ lowest (one b) n → (d + low ≡ c) ⊎ (d + low ≡ c + 2 ^ 32)
        → leb d (span_of (one b) n) ≡ ready_at b n c
    go false some e (inl h) =
        same_test _ _ (λ t. le→leb n c (omega (arith, leb→le d (4294967295 - n) t)))
        (λ t. le→leb d (4294967295 - n) (omega (arith, leb→le n c t)))
    go false some e (inr h) =
        same_test _ _ (λ t. absurd (omega (arith, leb→le d (4294967295 - n) t)))
        (λ t. absurd (omega (arith, leb→le n c t)))
    go true some e (inl h) =
        let pos : 0 < n = some refl in
        same_test _ _ (λ t. true-T (eq-eqb n (c + 1) (omega (arith, leb→le d 0 t))))
        (λ t. le→leb d 0 (omega (arith, eqb→eq n (c + 1) t)))
    go true some e (inr h) =
        let pos : 0 < n = some refl in
        same_test _ _ (λ t. absurd (omega (arith, leb→le d 0 t)))
        (λ t. absurd (omega (arith, eqb→eq n (c + 1) t)))

-- ---- Complete at an open process
-- What a list of the open ones says of process p.
abbrev pub complete_in : List Bool → List ℕ → List ℕ → ℕ → Bool
complete_in opens reached counts p = get_or opens p false && eqb (at counts p) (at reached p)

pub complete_open : (k closed : ℕ) (opens : List Bool) (reached counts : List ℕ) → k ≤ 8 → opens ≡ open_ones k closed
    → any_below 8 (complete_in opens reached counts) ≡ complete k closed reached counts
complete_open k closed opens reached counts h e =
    same_test _ _ (λ t. fewer (any_e 8 (complete_in opens reached counts) t)) (λ t. more (any_e k (complete_at closed reached counts) t))
  where
    there : (p : ℕ) → p < 8 → T (complete_in opens reached counts p) → T ((ltb p k && not (bit closed p)) && eqb (at counts p) (at reached p))
    there p l = subst (λ (b : Bool). T (b && eqb (at counts p) (at reached p))) (made_at opens (λ q. ltb q k && not (bit closed q)) false p e l)

    back : (p : ℕ) → p < 8 → T ((ltb p k && not (bit closed p)) && eqb (at counts p) (at reached p)) → T (complete_in opens reached counts p)
    back p l = subst (λ (b : Bool). T (b && eqb (at counts p) (at reached p))) (sym (made_at opens (λ q. ltb q k && not (bit closed q)) false p e l))

    fewer : (p : ℕ) × (p < 8) × T (complete_in opens reached counts p) → T (complete k closed reached counts)
    fewer w =
        let p = w.0 in
        let same = eqb (at counts p) (at reached p) in
        let t = there p w.1 w.2 in
        let o = and_l (ltb p k && not (bit closed p)) same t in
        any_i k (complete_at closed reached counts) p (ltb→lt p k (and_l (ltb p k) (not (bit closed p)) o))
        (and_i (not (bit closed p)) same (and_r (ltb p k) (not (bit closed p)) o) (and_r (ltb p k && not (bit closed p)) same t))

    more : (p : ℕ) × (p < k) × T (complete_at closed reached counts p) → T (any_below 8 (complete_in opens reached counts))
    more w =
        let p = w.0 in
        let same = eqb (at counts p) (at reached p) in
        let l : p < 8 = omega (arith, w.1) in
        any_i 8 (complete_in opens reached counts) p l
        (back p l
        (and_i (ltb p k && not (bit closed p)) same
        (and_i (ltb p k) (not (bit closed p)) (lt→ltb p k w.1) (and_l (not (bit closed p)) same w.2))
        (and_r (not (bit closed p)) same w.2)))
