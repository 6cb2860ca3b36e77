-- Locality: whether a cut is consistent, and what precedes it, depends only on the events inside it.
use Rattle.std.specs.Prelude.{ℕ, ◌≤◌, ◌<◌, ◌≡◌, true, List, ◌∷◌}
use Rattle.std.proofs.Common.{arith, le_trans, sym, ap, ◌∙◌}
use Rattle.std.proofs.Math.Decide.{dec_lt}
use Rattle.clocks.specs.declared.Event.{Event}
use Rattle.clocks.specs.Event.{Cut, involved}
use Rattle.clocks.specs.cuts.EventLaws.{apply_up}
use Rattle.clocks.specs.History.{taken, Consistent, In, Precedes, Agree}
use Rattle.clocks.specs.Causal.{Causal}
use Rattle.clocks.specs.cuts.HistoryLaws.{event_exists, event_numbered, event-old}
use Rattle.clocks.specs.cuts.CausalLaws.{clock_same, in_occupied}
use Rattle.clocks.specs.cuts.Preceding.{precedes_last}

pub agree_sym : {S : Cut} {ts us : List Event} → Agree S ts us → Agree S us ts
agree_sym a = record { events = λ p n h. sym (a.events p n h) }

pub agree_below : (S R : Cut) (ts us : List Event) → ((p : ℕ) → R p ≤ S p) → Agree S ts us → Agree R ts us
agree_below S R ts us w a = record { events = λ p n h. a.events p n (le_trans h (w p)) }

-- one more event changes nothing inside an old cut
pub agree_old : (e : Event) (ts : List Event) (S : Cut) → ((p : ℕ) → S p ≤ taken ts p) → Agree S ts (e ∷ ts)
agree_old e ts S w = record { events = λ p n h. sym (event-old e ts p n (le_trans h (w p))) }

-- a number whose event is there is at most the taken count, of whatever history
agree_within : (ts us : List Event) (S : Cut) → Agree S ts us → (p : ℕ) → S p ≤ taken ts p → S p ≤ taken us p
agree_within ts us S a p w = go (dec_lt 0 (S p))
  where
    go : Dec (0 < S p) → S p ≤ taken us p
    go (no z) = omega arith
    go (yes z) = let f = event_exists ts p (S p) z w in (event_numbered us p (S p) f.0 (sym (a.events p (S p) (omega arith)) ∙ f.1)).within

pub agree_consistent : (ts us : List Event) (S : Cut) → Agree S ts us → Consistent ts S → Consistent us S
agree_consistent ts us S a c = record {
  within = λ p. agree_within ts us S a p (c.within p);
  closed = λ p q. rw (← clock_same ts us p (S p) (a.events p (S p) (omega arith)) q) (c.closed p q);
}

pub agree_precedes : (ts us : List Event) → Causal ts → Causal us → (S : Cut) → Agree S ts us → (S' : Cut) → Precedes ts S' S → Precedes us S' S
agree_precedes ts us c d S a S' h = record {
  before = agree_consistent ts us S' (agree_below S S' ts us below a) h.before;
  by = h.by;
  among = there (in_occupied ts c h.by h.among);
  enabled = h.enabled;
  leads = h.leads;
}
  where
    below : (p : ℕ) → S' p ≤ S p
    below p = omega (arith, apply_up h.by S' p, ap (λ (R : Cut). R p) h.leads)

    there : (p : ℕ) × (involved h.by p ≡ true) → In h.by us
    there o = (event_numbered us o.0 (S o.0) h.by (sym (a.events o.0 (S o.0) (omega arith)) ∙ (precedes_last ts c S' S h o.0 o.1).0)).among
