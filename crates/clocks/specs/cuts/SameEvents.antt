-- The same events in another order: the same counts, events by number, last clocks, consistent cuts, and what precedes
-- what.
use Rattle.std.specs.Prelude.{ℕ, ◌≤◌, ◌≡◌, refl, List}
use Rattle.std.proofs.Common.{arith, sym, ◌∙◌}
use Rattle.std.proofs.Math.Decide.{dec_le}
use Rattle.std.proofs.Math.Path.{fun_ext}
use Rattle.std.proofs.Math.Option.{Option, none, some}
use Rattle.clocks.specs.declared.Event.{Event}
use Rattle.clocks.specs.Event.{Cut}
use Rattle.clocks.specs.History.{taken, event, clock_of, last_clock, Consistent, In, Agree, Precedes}
use Rattle.clocks.specs.Causal.{Causal}
use Rattle.clocks.specs.cuts.HistoryLaws.{event_exists, event_numbered, Numbered}
use Rattle.clocks.specs.cuts.CausalLaws.{clock_same, count-number, number_of}
use Rattle.clocks.specs.cuts.Agree.{agree_consistent, agree_precedes}

-- ---- Definition

-- Two histories with the same events. (In a causal history each event stands once: a process and a count determine it.)
pub record Same (ts us : List Event) : Type 0 where
  pub there : (e : Event) → In e ts → In e us
  pub back : (e : Event) → In e us → In e ts

pub same-sym : {ts us : List Event} → Same ts us → Same us ts
same-sym s = record { there = s.back; back = s.there }

-- ---- Laws
-- an event of one history is the other's event of the same process and number
carried : (ts us : List Event) → Causal ts → Causal us → Same ts us → (p n : ℕ) (f : Event) → event ts p n ≡ some f → event us p n ≡ some f
carried ts us c d s p n f h =
    let k : Numbered ts p n f = event_numbered ts p n f h in
    rw (count-number ts c p n f h) at (number_of us d f (s.there f k.among) p k.takes)

pub same-event : (ts us : List Event) → Causal ts → Causal us → Same ts us → (p n : ℕ) → event ts p n ≡ event us p n
same-event ts us c d s p n = go (event ts p n) (event us p n) refl refl
  where
    go : (o o' : Option Event) → event ts p n ≡ o → event us p n ≡ o' → event ts p n ≡ event us p n
    go none none h k = h ∙ sym k
    go (some f) o' h k = h ∙ sym (carried ts us c d s p n f h)
    go none (some f) h k = carried us ts d c (same-sym s) p n f k ∙ sym k

-- the last event of one history is there in the other
taken_most : (ts us : List Event) → Causal ts → Causal us → Same ts us → (p : ℕ) → taken ts p ≤ taken us p
taken_most ts us c d s p = go (dec_le (taken ts p) 0)
  where
    go : Dec (taken ts p ≤ 0) → taken ts p ≤ taken us p
    go (yes z) = omega arith
    go (no z) =
        let f = event_exists ts p (taken ts p) (omega arith) (omega arith) in
        (event_numbered us p (taken ts p) f.0 (carried ts us c d s p (taken ts p) f.0 f.1)).within

pub same_taken : (ts us : List Event) → Causal ts → Causal us → Same ts us → taken ts ≡ taken us
same_taken ts us c d s = fun_ext (λ p. omega (arith, taken_most ts us c d s p, taken_most us ts d c (same-sym s) p))

pub same_clock : (ts us : List Event) → Causal ts → Causal us → Same ts us → (p n : ℕ) → clock_of ts p n ≡ clock_of us p n
same_clock ts us c d s p n = fun_ext (clock_same ts us p n (same-event ts us c d s p n))

pub same-last : (ts us : List Event) → Causal ts → Causal us → Same ts us → (p : ℕ) → last_clock ts p ≡ last_clock us p
unfolding last_clock
same-last ts us c d s p = rw (← same_taken ts us c d s) (same_clock ts us c d s p (taken ts p))

pub same_agree : (ts us : List Event) → Causal ts → Causal us → Same ts us → (S : Cut) → Agree S ts us
same_agree ts us c d s S = record { events = λ p n h. same-event ts us c d s p n }

pub same-consistent : (ts us : List Event) → Causal ts → Causal us → Same ts us → (S : Cut) → Consistent ts S → Consistent us S
same-consistent ts us c d s S = agree_consistent ts us S (same_agree ts us c d s S)

pub same_precedes : (ts us : List Event) → Causal ts → Causal us → Same ts us → (S' S : Cut) → Precedes ts S' S → Precedes us S' S
same_precedes ts us c d s S' S = agree_precedes ts us c d S (same_agree ts us c d s S) S'
