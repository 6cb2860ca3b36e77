-- The tests say what the predicates say, for a history of n processes and cuts that count no others.

-- ---- events of n processes
use Prim.Native.Nat.{ℕ, ◌+◌, ◌≤◌, ◌<◌}
use Rattle.std.proofs.Common.{arith, sym, ◌∙◌, true≢false, inl, inr, leb→le, le→leb, eqb→eq, le-leb, eq-eqb}
use Rattle.std.proofs.Math.Decide.{dec_lt}
use Rattle.std.specs.Prelude.{◌≡◌, refl, true, false, ◌&&◌, List, [], ◌∷◌, ◌⊎◌, ◌↔◌, T}
use Rattle.std.proofs.Math.Bool.{Bool}
use mathlib.Core.List.Memᴰ
use Rattle.std.proofs.Math.Dec.{leb}
use Rattle.clocks.specs.declared.Event.{Event}
use Rattle.clocks.specs.History.{taken, clock_of, Consistent, In}
use Rattle.clocks.specs.Event.{Cut, involved, count, ReadyAt, Ready}
use Rattle.clocks.specs.Bounded.{all_below}
use Rattle.clocks.specs.stored.BoundedLaws.{and_i, and_l, and_r, all_i, all_e}
use Rattle.clocks.specs.cuts.HistoryLaws.{event_numbered}
use Rattle.clocks.specs.cuts.Lattice.{clock_zero}
use Rattle.clocks.specs.Tested.{ready_at, ready, consistent}
use Rattle.clocks.specs.Valid.{WellFormed, History}
use Rattle.clocks.specs.cuts.CausalLaws.{clock_cases}

-- A process that takes part is one of the n.
pub involved_below : (n : ℕ) (e : Event) → WellFormed n e → (p : ℕ) → involved e p ≡ true → p < n
involved_below n e w p b = go (dec_lt p n)
  where
    go : Dec (p < n) → p < n
    go (yes l) = l
    go (no l) = absurd (true≢false (sym b ∙ w.below p (omega arith)))

pub in_takeable : (n : ℕ) (valid : List Event → Event → Type 0) (ts : List Event) → History n valid ts → (f : Event) → In f ts → WellFormed n f
in_takeable n valid [] h f m = absurd (Memᴰ.not-nil m)
in_takeable n valid (e ∷ ts) h f m = go (Memᴰ.cases_cons m) (in_takeable n valid ts h.1 f)
  where
    go : (f ≡ e) ⊎ In f ts → (In f ts → WellFormed n f) → WellFormed n f
    go (inl s) r = rw s h.0.formed
    go (inr k) r = r k

-- ---- one process
ready-at_i : (b : Bool) (n c : ℕ) → ReadyAt b n c → T (ready_at b n c)
ready-at_i true n c h = rw (eq-eqb n (c + 1) h) tt
ready-at_i false n c h = rw (le-leb n c h) tt

ready-at_e : (b : Bool) (n c : ℕ) → T (ready_at b n c) → ReadyAt b n c
ready-at_e true n c h = eqb→eq n (c + 1) h
ready-at_e false n c h = leb→le n c h

-- ---- ready
pub ready-test : (n : ℕ) (e : Event) → WellFormed n e → (S : Cut) → T (ready n e S) ↔ Ready e S
unfolding ready
ready-test n e w S = (there, λ r. all_i n (λ p. ready_at (involved e p) (count e p) (S p)) (λ p l. ready-at_i (involved e p) (count e p) (S p) (r.each p)))
  where
    at : T (ready n e S) → (p : ℕ) → Dec (p < n) → ReadyAt (involved e p) (count e p) (S p)
    at t p (yes l) = ready-at_e (involved e p) (count e p) (S p) (all_e n (λ q. ready_at (involved e q) (count e q) (S q)) t p l)
    at t p (no l) = rw (w.below p (omega arith), w.silent p (omega arith)) (omega arith)

    there : T (ready n e S) → Ready e S
    there t = record { each = λ p. at t p (dec_lt p n) }

-- ---- consistent
module _ (n : ℕ) (valid : List Event → Event → Type 0) (ts : List Event) (h : History n valid ts) where
  -- no clock of the history counts a process from n up
  clock_silent : (p m q : ℕ) → n ≤ q → clock_of ts p m q ≡ 0
  clock_silent p m q l = clock_cases (λ x. x ≡ 0) ts p m q refl (λ f k. (in_takeable n valid ts h f (event_numbered ts p m f k).among).silent q l)

  pub consistent-test : (S : Cut) → ((p : ℕ) → n ≤ p → S p ≡ 0) → T (consistent n ts S) ↔ Consistent ts S
  unfolding consistent
  consistent-test S z = (there, back)
    where
      low : ℕ → Bool
      low p = leb (S p) (taken ts p)

      known : ℕ → ℕ → Bool
      known p q = leb (clock_of ts p (S p) q) (S q)

      row : ℕ → Bool
      row p = low p && all_below n (known p)

      within : T (all_below n row) → (p : ℕ) → Dec (p < n) → S p ≤ taken ts p
      within t p (yes l) = leb→le (S p) (taken ts p) (and_l (low p) (all_below n (known p)) (all_e n row t p l))
      within t p (no l) = omega (arith, z p (omega arith))

      closed : T (all_below n row) → (p q : ℕ) → Dec (p < n) → Dec (q < n) → clock_of ts p (S p) q ≤ S q
      closed t p q (yes l) (yes k) = leb→le (clock_of ts p (S p) q) (S q) (all_e n (known p) (and_r (low p) (all_below n (known p)) (all_e n row t p l)) q k)
      closed t p q (yes l) (no k) = omega (arith, clock_silent p (S p) q (omega arith))
      closed t p q (no l) k = rw (z p (omega arith), clock_zero ts p q) (omega arith)

      there : T (all_below n row) → Consistent ts S
      there t = record { within = λ p. within t p (dec_lt p n); closed = λ p q. closed t p q (dec_lt p n) (dec_lt q n) }

      back : Consistent ts S → T (all_below n row)
      back c = all_i n row (λ p l. and_i (low p) (all_below n (known p)) (le→leb (S p) (taken ts p) (c.within p)) (all_i n (known p) (λ q k. le→leb (clock_of ts p (S p) q) (S q) (c.closed p q))))
