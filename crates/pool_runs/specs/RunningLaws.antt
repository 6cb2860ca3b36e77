-- The invariant of a run: how many frontiers it allows each watch, and that a call keeps it which leaves its watch
-- within what is allowed.
use Rattle.std.specs.Prelude.{ℕ, ◌+◌, ◌-◌, ◌≤◌, ◌<◌, max, ◌≡◌, refl, Bool, true, false, List, ◌⊎◌, ◌≢◌, eqb, length}
use native.Mathlib.Omega.{arith}
use Rattle.std.proofs.Math.Decide.{dec_lt, ℕ_discrete}
use Rattle.std.proofs.Common.{sym, ap, ◌∙◌, inl, inr, eq-eqb, ne_eqb}
use Rattle.std.proofs.Math.Bool.{cond}
use Rattle.clocks.specs.Counts.{at}
use Rattle.numbers.specs.Limit.{most_frontiers, most_members}
use Rattle.pool.specs.Pool.{sum_below, pool_length, share_at, kept_at, unpromised, above_share, used_by_others, allowance, brought_up}
use Rattle.pool.specs.PoolLaws.{sum_same, sum_plus, sum_split, brought_length, kept_own, kept_other, share-stays, share_allowed}
use Rattle.pool_runs.specs.Runs.{Member, Place, has, Pooled, Numbered, Outcome, outcome_in, after_pool_call}
use Rattle.pool_runs.specs.statements.Within.{kept_at_place, kept_or_promised}
use Rattle.pool_runs.specs.Running.{HasShare, IsWritten, Running}

-- The larger of two numbers is the second and what the first is above it.
larger : (a b : ℕ) → max a b ≡ b + (a - b)
larger a b = omega arith

-- Of one watch among the others: its share, and what it is using above that.
two : (b : Bool) (kept share kept' share' : ℕ) → kept' ≡ kept → share' ≡ share
    → cond b 0 (max kept share) ≡ cond b 0 share + cond b 0 (kept' - share')
two true kept share kept' share' k s = omega arith
two false kept share kept' share' k s = omega (arith, k, s, larger kept share)

-- ---- What is allowed

module _ (w : ℕ) (shares : List ℕ) (G : Pooled) (R : Running w shares G) where
  -- What the watches other than i keep, or are promised where that is more.
  abbrev pub of_others : ℕ → ℕ
  of_others i = sum_below most_members (λ j. cond (eqb j i) 0 (kept_or_promised shares G j))

  abbrev promised_others : ℕ → ℕ
  promised_others i = sum_below most_members (λ j. cond (eqb j i) 0 (at shares j))

  -- Their shares, and what they are using above these.
  others_parts : (i : ℕ) → of_others i ≡ promised_others i + used_by_others G.pool i
  unfolding used_by_others above_share
  others_parts i =
      sum_same most_members _ (λ j. cond (eqb j i) 0 (at shares j) + cond (eqb j i) 0 (above_share G.pool j)) each
      ∙ sum_plus most_members (λ j. cond (eqb j i) 0 (at shares j)) (λ j. cond (eqb j i) 0 (above_share G.pool j))
    where
      each : (j : ℕ) → j < most_members
          → cond (eqb j i) 0 (kept_or_promised shares G j)
          ≡ cond (eqb j i) 0 (at shares j) + cond (eqb j i) 0 (kept_at G.pool j - share_at G.pool j)
      each j l =
          two (eqb j i) (kept_at_place (G.places j)) (at shares j) (kept_at G.pool j) (share_at G.pool j)
          (R.numbers j l) (R.shares_are j l)

  pub allowed_exactly : (i : ℕ) → i < most_members → allowance G.pool i + of_others i ≡ most_frontiers
  unfolding allowance unpromised
  allowed_exactly i l =
      let all = sum_same most_members (share_at G.pool) (at shares) R.shares_are in
      let shares_split = sum_split most_members i (at shares) l in
      let kept_split = sum_split most_members i (kept_or_promised shares G) l in
      omega (
        arith,
        all,
        shares_split,
        kept_split,
        others_parts i,
        R.shares_are i l,
        R.promises,
        larger (kept_at_place (G.places i)) (at shares i),
      )

-- ---- A call of watch i

-- The pool is as it was and the watch keeps as many; or its number in the pool is the record's.
abbrev pub PoolLeft : (G : Pooled) (i : ℕ) (o : Outcome) → Type 0
PoolLeft G i o =
    ((o.pool ≡ G.pool) × (kept_at_place o.place ≡ kept_at_place (G.places i)))
    ⊎ ((i < most_members) × (o.pool ≡ brought_up G.pool i (kept_at_place o.place))
    × (kept_at_place o.place ≤ most_frontiers))

-- What it leaves: such a pool, a watch that keeps no more than before or was promised, or no more than it may, and that
-- calls alone wrote.
pub record Lawful (w : ℕ) (shares : List ℕ) (G : Pooled) (i : ℕ) (o : Outcome) : Type 0 where
  pub pool_left : PoolLeft G i o
  pub grows : (kept_at_place o.place ≤ kept_or_promised shares G i) ⊎ (kept_at_place o.place ≤ allowance G.pool i)
  pub member : (m : Member) → o.place ≡ has m → HasShare shares i × IsWritten w m

module _ (w : ℕ) (shares : List ℕ) (G : Pooled) (R : Running w shares G) (c : Numbered) where
  abbrev i : ℕ
  i = c.number

  abbrev o : Outcome
  o = outcome_in w c G

  abbrev H : Pooled
  H = after_pool_call w c G

  -- its own place, and every other
  pub own_place : H.places i ≡ o.place
  own_place = rw (eq-eqb i i refl)

  pub other_place : (j : ℕ) → j ≢ i → H.places j ≡ G.places j
  other_place j n = rw (ne_eqb j i n)

  module _ (L : Lawful w shares G i o) where
    size-after : length o.pool ≡ pool_length
    size-after = go L.pool_left
      where
        go : PoolLeft G i o → length o.pool ≡ pool_length
        go (inl x) = rw x.0 R.size
        go (inr x) = rw x.1 (brought_length G.pool i (kept_at_place o.place) ∙ R.size)

    shares-after : (j : ℕ) → j < most_members → share_at o.pool j ≡ at shares j
    shares-after j l = go L.pool_left
      where
        go : PoolLeft G i o → share_at o.pool j ≡ at shares j
        go (inl x) = rw x.0 (R.shares_are j l)
        go (inr x) = rw x.1 (share-stays G.pool i (kept_at_place o.place) j l ∙ R.shares_are j l)

    pub own_number : i < most_members → kept_at o.pool i ≡ kept_at_place o.place
    own_number l = go L.pool_left
      where
        go : PoolLeft G i o → kept_at o.pool i ≡ kept_at_place o.place
        go (inl x) = rw x.0 (R.numbers i l ∙ sym x.1)
        go (inr x) = rw x.1 (kept_own G.pool i (kept_at_place o.place) R.size l (omega (arith, x.2)))

    pub other_number : (j : ℕ) → j ≢ i → kept_at o.pool j ≡ kept_at G.pool j
    other_number j n = go L.pool_left
      where
        go : PoolLeft G i o → kept_at o.pool j ≡ kept_at G.pool j
        go (inl x) = rw x.0
        go (inr x) = rw x.1 (kept_other G.pool i (kept_at_place o.place) j n)

    numbers_after : (j : ℕ) → j < most_members → kept_at o.pool j ≡ kept_at_place (H.places j)
    numbers_after j l = go (ℕ_discrete j i)
      where
        go : Dec (j ≡ i) → kept_at o.pool j ≡ kept_at_place (H.places j)
        go (yes e) = rw (e, own_place) (own_number (omega (arith, e)))
        go (no n) = rw (other_place j n) (other_number j n ∙ R.numbers j l)

    members_after : (j : ℕ) (m : Member) → H.places j ≡ has m → HasShare shares j × IsWritten w m
    members_after j m h = go (ℕ_discrete j i)
      where
        go : Dec (j ≡ i) → HasShare shares j × IsWritten w m
        go (yes e) = rw e (L.member m (sym own_place ∙ rw e at h))
        go (no n) = R.members j m (sym (other_place j n) ∙ h)

    -- the others keep what they kept
    others_same : (j : ℕ) → j < most_members
        → cond (eqb j i) 0 (kept_or_promised shares H j) ≡ cond (eqb j i) 0 (kept_or_promised shares G j)
    others_same j l = go (ℕ_discrete j i)
      where
        go : Dec (j ≡ i)
            → cond (eqb j i) 0 (kept_or_promised shares H j) ≡ cond (eqb j i) 0 (kept_or_promised shares G j)
        go (yes e) = rw (eq-eqb j i e)
        go (no n) = rw (other_place j n)

    -- with what it keeps itself, or is promised
    own_within : i < most_members
        → (kept_at_place o.place ≤ kept_or_promised shares G i) ⊎ (kept_at_place o.place ≤ allowance G.pool i)
        → max (kept_at_place o.place) (at shares i) + of_others w shares G R i ≤ most_frontiers
    own_within l (inl g) =
        let before = sum_split most_members i (kept_or_promised shares G) l in
        omega (arith, g, before, R.promises)
    own_within l (inr g) =
        omega (arith, g, allowed_exactly w shares G R i l, share_allowed G.pool i, R.shares_are i l)

    promises_after : sum_below most_members (kept_or_promised shares H) ≤ most_frontiers
    promises_after = go (dec_lt i most_members)
      where
        go : Dec (i < most_members) → sum_below most_members (kept_or_promised shares H) ≤ most_frontiers
        go (yes l) =
            let after = sum_split most_members i (kept_or_promised shares H) l in
            let same = sum_same most_members _ _ others_same in
            let own = ap (λ (P : Place). max (kept_at_place P) (at shares i)) own_place in
            omega (arith, after, same, own, own_within l L.grows)
        go (no f) =
            let same : sum_below most_members (kept_or_promised shares H) ≡ sum_below most_members (kept_or_promised shares G) =
            sum_same most_members _ _ (λ j l. rw (other_place j (λ e. omega (arith, e, l)))) in
            omega (arith, same, R.promises)

    -- ---- Theorem
    pub lawful_running : Running w shares H
    lawful_running = record {
      size = size-after;
      shares_are = shares-after;
      numbers = numbers_after;
      promises = promises_after;
      members = members_after;
    }
