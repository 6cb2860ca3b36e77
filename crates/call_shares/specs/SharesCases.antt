-- A setting of shares by what it comes to: turned back for the pool's length, for the shares, or done.
use Rattle.std.specs.Prelude.{ℕ, ◌≤◌, ◌<◌, ◌≡◌, refl, Bool, true, false, ◌||◌, ◌⊎◌, ◌≢◌, eqb, length}
use Rattle.std.proofs.Math.Decide.{ℕ_discrete}
use Rattle.std.proofs.Common.{arith, sym, ◌∙◌, true≢false, inl, inr, ⊎_elim, eqb→eq, eqb-true, ltb-true, ltb-false, eq-eqb}
use mathlib.Core.List.Memᴰ
use mathlib.Core.List.{List, Memᴰ}
use Rattle.std.proofs.lemmas.Bool.{eqb-false}
use Rattle.clocks.specs.Bounded.{any_of}
use Rattle.clocks.specs.Counts.{at}
use Rattle.clocks.specs.stored.BoundedLaws.{or-false_e, any_of_i, any_of_e}
use Rattle.clocks.specs.cuts.EventLaws.{true-T, T_true}
use Rattle.numbers.specs.Limit.{most_frontiers, most_members}
use Rattle.answers.specs.Result.{refused, gives}
use Rattle.pool.specs.Pool.{sum_below, bad_pool_length}
use Rattle.call_shares.specs.Shares.{bad_shares, pool_of, SharesSet, set_shares}
use Rattle.call_shares.specs.SharesExact.{GoodShares}

-- ---- What it comes to

-- Turned back by a number; and done.
abbrev pub turned_back : (pool : List ℕ) (n : ℕ) → SharesSet
turned_back pool n = record { answer = refused n; pool = pool }

abbrev pub done : (shares : List ℕ) → SharesSet
done shares = record { answer = gives 0; pool = pool_of shares }

module _ (shares pool : List ℕ) where
  pub length-turned : bad_pool_length (length pool) ≡ true → set_shares shares pool ≡ turned_back pool 6
  unfolding set_shares
  length-turned h = rw h

  pub shares-turned : bad_pool_length (length pool) ≡ false → bad_shares shares ≡ true
      → set_shares shares pool ≡ turned_back pool 49
  unfolding set_shares
  shares-turned g h = rw (g, h)

  pub shares-set : bad_pool_length (length pool) ≡ false → bad_shares shares ≡ false → set_shares shares pool ≡ done shares
  unfolding set_shares
  shares-set g h = rw (g, h)

-- ---- What the tests say

-- What 49 is answered for.
abbrev pub Bad : (shares : List ℕ) → Type 0
Bad shares =
    (length shares ≡ 0)
    ⊎ ((most_members < length shares)
    ⊎ (Memᴰ 0 shares ⊎ (most_frontiers < sum_below (length shares) (at shares))))

or-true : (a b : Bool) → (a || b) ≡ true → (a ≡ true) ⊎ (b ≡ true)
or-true true b h = inl refl
or-true false b h = inr h

pub shares_bad : (shares : List ℕ) → bad_shares shares ≡ true → Bad shares
unfolding bad_shares
shares_bad shares h =
    ⊎_elim (λ e. inl (eqb-true _ _ e))
    (λ some.
    ⊎_elim (λ e. inr (inl (ltb-true _ _ e)))
    (λ few.
    ⊎_elim (λ e. inr (inr (inl (one_empty e)))) (λ e. inr (inr (inr (ltb-true _ _ e)))) (or-true _ _ few))
    (or-true _ _ some)) (or-true _ _ h)
  where
    one_empty : any_of (λ share. eqb share 0) shares ≡ true → Memᴰ 0 shares
    one_empty e =
        let found = any_of_e (λ share. eqb share 0) shares (true-T e) in
        Memᴰ.cast (sym (eqb→eq found.0 0 found.2)) found.1

pub shares_good : (shares : List ℕ) → bad_shares shares ≡ false → GoodShares shares
unfolding bad_shares
shares_good shares h =
    let some = or-false_e _ _ h in
    let few = or-false_e _ _ some.1 in
    let rest = or-false_e _ _ few.1 in
    let n = length shares in
    record {
      some = positive n (eqb-false n 0 some.0);
      few = ltb-false 8 n few.0;
      none_empty = λ share m. not_empty rest.0 share m (ℕ_discrete share 0);
      within = ltb-false 1024 (sum_below n (at shares)) rest.1;
    }
  where
    positive : (n : ℕ) → n ≢ 0 → 1 ≤ n
    positive n some = omega arith

    not_empty : any_of (λ share. eqb share 0) shares ≡ false → (share : ℕ) → Memᴰ share shares → Dec (share ≡ 0)
        → 1 ≤ share
    not_empty e share m (yes z) =
        absurd (true≢false (sym (T_true _ (any_of_i (λ x. eqb x 0) shares share m (true-T (eq-eqb share 0 z)))) ∙ e))
    not_empty e share m (no z) = omega arith

pub not-both_ways : (shares : List ℕ) → Bad shares → GoodShares shares → ⊥
not-both_ways shares (inl e) good = omega (arith, good.some)
not-both_ways shares (inr (inl l)) good = omega (arith, good.few)
not-both_ways shares (inr (inr (inl m))) good = omega (arith, good.none_empty 0 m)
not-both_ways shares (inr (inr (inr l))) good = omega (arith, good.within)
