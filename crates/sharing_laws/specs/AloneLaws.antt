-- Where every event is of a single process without messages, every cut of the taken events is a consistent one, and the
-- processes share the events.
use Rattle.std.specs.Prelude.{ℕ, zero, suc, ◌+◌, ◌≤◌, ◌<◌, ◌≡◌, refl, Bool, true, false, List, [], ◌∷◌, ◌≢◌, length}
use Rattle.std.proofs.Common.{le_of_suc-le-suc, arith, sym, ◌∙◌, true≢false}
use Rattle.std.proofs.Math.Decide.{dec_lt, ℕ_discrete}
use mathlib.Core.List.Memᴰ
use Rattle.std.proofs.Math.Option.{some}
use Rattle.clocks.specs.declared.Event.{Event}
use Rattle.clocks.specs.Event.{Cut, one, involved, count}
use Rattle.clocks.specs.History.{taken, event, clock_of, Consistent}
use Rattle.clocks.specs.Causal.{Causal}
use Rattle.clocks.specs.Valid.{History}
use Rattle.clocks.specs.Counts.{list_of}
use Rattle.clocks.specs.stored.CountsLaws.{list_of-same}
use Rattle.clocks.specs.cuts.HistoryLaws.{event_numbered}
use Rattle.clocks.specs.cuts.CausalLaws.{clock_cases, count-number}
use Rattle.call_busiest.specs.Sharing.{total}
use Rattle.sharing_laws.specs.Alone.{Alone, AllAlone}

-- A process that takes part is the one.
pub only_process : (e : Event) (a : Alone e) (p : ℕ) → involved e p ≡ true → p ≡ a.process
only_process e a p b = go (ℕ_discrete p a.process)
  where
    go : Dec (p ≡ a.process) → p ≡ a.process
    go (yes q) = q
    go (no q) = absurd (true≢false (sym b ∙ a.no_other p q))

pub alone_consistent : (ts : List Event) → Causal ts → AllAlone ts → (S : Cut) → ((p : ℕ) → S p ≤ taken ts p)
    → Consistent ts S
alone_consistent ts c alone S within = record { within = within; closed = closed }
  where
    knows : (p q : ℕ) (f : Event) → event ts p (S p) ≡ some f → count f q ≤ S q
    knows p q f e = go (ℕ_discrete q p)
      where
        a : Alone f
        a = alone f (event_numbered ts p (S p) f e).among

        its : p ≡ a.process
        its = only_process f a p (event_numbered ts p (S p) f e).takes

        go : Dec (q ≡ p) → count f q ≤ S q
        go (yes h) = rw h (omega (arith, count-number ts c p (S p) f e))
        go (no h) = omega (arith, a.knows_none q (λ x. h (x ∙ sym its)))

    closed : (p q : ℕ) → clock_of ts p (S p) q ≤ S q
    closed p q = clock_cases (λ n. n ≤ S q) ts p (S p) q (omega arith) (knows p q)

-- ---- All events are shared

total-zeros : (k : ℕ) → total (list_of k (λ p. 0)) ≡ 0
unfolding total list_of
total-zeros zero = refl
total-zeros (suc k) = omega (arith, total-zeros k)

total-add : (k : ℕ) (f g : ℕ → ℕ) → total (list_of k (λ p. f p + g p)) ≡ total (list_of k f) + total (list_of k g)
unfolding total list_of
total-add zero f g = refl
total-add (suc k) f g = omega (arith, total-add k (λ p. f (suc p)) (λ p. g (suc p)))

-- 1 at one process, and 0 at the others.
total-one : (k : ℕ) (b : ℕ → Bool) (o : ℕ) → o < k → b o ≡ true → ((q : ℕ) → q ≢ o → b q ≡ false)
    → total (list_of k (λ p. one (b p))) ≡ 1
unfolding total list_of
total-one zero b o l t f = absurd (omega arith)
total-one (suc k) b zero l t f =
    let rest : list_of k (λ p. one (b (suc p))) ≡ list_of k (λ p. 0) =
    list_of-same k _ _ (λ p m. rw (f (suc p) (λ e. omega arith))) in
    rw (t, rest, total-zeros k)
total-one (suc k) b (suc o) l t f =
    let none : b 0 ≡ false = f 0 (λ e. omega arith) in
    rw (none, total-one k (λ p. b (suc p)) o (le_of_suc-le-suc l) t (λ q h. f (suc q) (λ e. h (omega arith))))

pub alone_total : (k : ℕ) (valid : List Event → Event → Type 0) (ts : List Event) → History k valid ts → AllAlone ts
    → total (list_of k (taken ts)) ≡ length ts
unfolding taken
alone_total k valid [] h a = total-zeros k
alone_total k valid (e ∷ ts) h a =
    let its = a e (Memᴰ.head refl) in
    total-add k (λ p. one (involved e p)) (taken ts)
    ∙ omega (
      arith,
      total-one k (involved e) its.process (inside its (dec_lt its.process k)) its.takes_part its.no_other,
      alone_total k valid ts h.1 (λ f m. a f (Memᴰ.tail m)),
    )
  where
    inside : (its : Alone e) → Dec (its.process < k) → its.process < k
    inside its (yes l) = l
    inside its (no l) =
        absurd (true≢false (sym its.takes_part ∙ h.0.formed.below its.process (omega arith)))
