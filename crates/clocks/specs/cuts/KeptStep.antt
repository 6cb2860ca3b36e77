-- The step theorem for kept cuts; a cut once dropped stays dropped; with all processes open a cut is kept exactly if
-- some process has all its taken events in it.

-- ---- with all processes open
use Rattle.std.specs.Prelude.{ℕ, ◌<◌, ◌≡◌, Bool, true, List, [], ◌∷◌, ◌++◌, ◌⊎◌, ◌↔◌, T}
use Rattle.std.proofs.Common.{arith, ap, inl, inr, ⊎_elim}
use Rattle.std.proofs.Math.Decide.{dec_lt}
use Rattle.clocks.specs.declared.Event.{Event}
use Rattle.clocks.specs.History.{taken, Consistent}
use Rattle.clocks.specs.Causal.{Follows, Causal}
use Rattle.clocks.specs.Event.{Cut, involved, Ready, apply}
use Rattle.clocks.specs.Kept.{Kept, all_open, KeptCut, Dropped}
use Rattle.clocks.specs.cuts.EventLaws.{T_true, ready-same, apply_next}
use Rattle.clocks.specs.cuts.Step.{consistent-old, consistent_later, consistent-new, step}
use Rattle.clocks.specs.cuts.HistoryLaws.{taken_next, taken_up}

pub kept_all : (k : ℕ) → 0 < k → (ts : List Event) (S : Cut) → Kept k all_open ts S ↔ ((p : ℕ) × (p < k) × (S p ≡ taken ts p))
kept_all k l ts S = (⊎_elim (λ c. (c.0, c.1, c.3)) (λ s. (0, l, ap (λ (R : Cut). R 0) s)), λ c. inl (c.0, c.1, tt, c.2))

pub dropped_unkept : (k : ℕ) → 0 < k → (ts : List Event) (S : Cut) → Consistent ts S → (Kept k all_open ts S → ⊥) ↔ Dropped k ts S
dropped_unkept k l ts S c = (there, back)
  where
    there : (Kept k all_open ts S → ⊥) → Dropped k ts S
    there u p j = go (dec_lt (S p) (taken ts p))
      where
        go : Dec (S p < taken ts p) → S p < taken ts p
        go (yes b) = b
        go (no b) = absurd (u (inl (p, j, tt, omega (arith, c.within p))))

    back : Dropped k ts S → Kept k all_open ts S → ⊥
    back d t = let w = (kept_all k l ts S).0 t in omega (arith, d w.0 w.1, w.2)

-- ---- one more event: an old cut that is kept was kept
pub kept_before : (k : ℕ) (opened : ℕ → Bool) (e : Event) (ts : List Event) → Follows ts e
    → (S : Cut) → Consistent ts S → Kept k opened (e ∷ ts) S → Kept k opened ts S
kept_before k opened e ts f S c (inl w) =
    inl (w.0, w.1, w.2, omega (arith, w.3, c.within w.0, taken_up e ts w.0))
kept_before k opened e ts f S c (inr s) =
    let p : ℕ = f.occupied.0 in
    let b : involved e p ≡ true = T_true (involved e p) f.occupied.1 in
    absurd (omega (arith, ap (λ (R : Cut). R p) s, c.within p, taken_next e ts p b))

-- ---- one more event, of open processes
module _ (k : ℕ) (opened : ℕ → Bool) (e : Event) (ts : List Event) (f : Follows ts e) (o : (p : ℕ) → involved e p ≡ true → (p < k) × T (opened p)) where
  member : ℕ
  member = f.occupied.0

  takes : involved e member ≡ true
  unfolding member
  takes = T_true (involved e member) f.occupied.1

  -- the cut that the event leads from is kept
  pub origin_kept : (S : Cut) → Ready e S → Kept k opened ts S
  origin_kept S r = inl (member, (o member takes).0, (o member takes).1, ready-same e S (taken ts) r f.ready member takes)

  -- ... and so is the cut it leads to
  pub new_kept : (S : Cut) → Ready e S → Kept k opened (e ∷ ts) (apply e S)
  new_kept S r = inl (
    member,
    (o member takes).0,
    (o member takes).1,
    omega (arith, apply_next e S member takes, taken_next e ts member takes, ready-same e S (taken ts) r f.ready member takes),
  )

  -- ---- Theorem
  pub kept_step : Causal ts → (S : Cut)
      → KeptCut k opened (e ∷ ts) S ↔ ((KeptCut k opened ts S × Kept k opened (e ∷ ts) S) ⊎ ((S' : Cut) × KeptCut k opened ts S' × Ready e S' × (S ≡ apply e S')))
  kept_step c S = (there, back)
    where
      there : KeptCut k opened (e ∷ ts) S → (KeptCut k opened ts S × Kept k opened (e ∷ ts) S) ⊎ ((S' : Cut) × KeptCut k opened ts S' × Ready e S' × (S ≡ apply e S'))
      there t = ⊎_elim
          (λ s. inl (record { consistent = s; kept = kept_before k opened e ts f S s t.kept }, t.kept))
          (λ a. inr (a.from, record { consistent = a.consistent; kept = origin_kept a.from a.enabled }, a.enabled, a.leads))
          ((step e ts c f S).0 t.consistent)

      back : (KeptCut k opened ts S × Kept k opened (e ∷ ts) S) ⊎ ((S' : Cut) × KeptCut k opened ts S' × Ready e S' × (S ≡ apply e S')) → KeptCut k opened (e ∷ ts) S
      back (inl w) = record { consistent = consistent-old e ts S w.0.consistent; kept = w.1 }
      back (inr w) = rw w.3 (record { consistent = consistent-new e ts w.0 f.ready w.1.consistent w.2; kept = new_kept w.0 w.2 })

-- ---- a cut once dropped stays dropped, whatever is taken and closed later
pub dropped_stays : (k : ℕ) (opened still : ℕ → Bool) (us ts : List Event) → Causal (us ++ ts)
    → ((p : ℕ) → T (still p) → T (opened p))
    → (S : Cut) → Consistent ts S → (Kept k opened ts S → ⊥) → Kept k still (us ++ ts) S → ⊥
dropped_stays k opened still [] ts c o S s u (inl w) = u (inl (w.0, w.1, o w.0 w.2, w.3))
dropped_stays k opened still [] ts c o S s u (inr q) = u (inr q)
dropped_stays k opened still (e ∷ us) ts c o S s u t =
    dropped_stays k opened still us ts c.1 o S s u
    (kept_before k still e (us ++ ts) c.0 S (consistent_later us ts S s) t)
