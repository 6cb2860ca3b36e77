-- The kept cuts in order are one list, and it is what a window that represents a history holds.
use Rattle.std.specs.Prelude.{ℕ, ◌<◌, ◌≡◌, refl, Bool, true, false, not, List, ◌↔◌, T, length}
use Rattle.std.proofs.Common.{ap, sym, ◌∙◌, inl, inr}
use Rattle.std.proofs.lemmas.List.{length-map}
use Rattle.frontiers.specs.declared.Frontier.{Frontier}
use Rattle.pactl.specs.declared.Line.{Line}
use Rattle.clocks.specs.declared.Event.{Event}
use Rattle.codec.specs.Bit.{bit}
use Rattle.codec.specs.BitLaws.{bit-zero}
use Rattle.window_laws.specs.Represents.{Represents}
use Rattle.window_laws.specs.FrontierOf.{frontier_of}
use Rattle.window_laws.specs.Unique.{sorted_unique}
use Rattle.clocks.specs.Event.{Cut}
use Rattle.clocks.specs.History.{taken}
use Rattle.clocks.specs.Kept.{Kept}
use Rattle.clocks.specs.Counts.{list_of}
use Rattle.demands.specs.World.{world_of, Stays, KeptCuts, KeptNumber}

-- the bit of an open process
pub open_bit : (b : Bool) → T (not b) → b ≡ false
open_bit true t = absurd t
open_bit false t = refl

module _ (k closed : ℕ) (ts : List Event) where
  pub cuts_unique : (cuts others : List Cut) → KeptCuts k closed ts cuts → KeptCuts k closed ts others → cuts ≡ others
  cuts_unique cuts others K O =
      sorted_unique (list_of 8) cuts others K.ascending O.ascending
      (λ S m. (O.exactly S).1 ((K.exactly S).0 m)) (λ S m. (K.exactly S).1 ((O.exactly S).0 m))

  pub number_unique : (n m : ℕ) → KeptNumber k closed ts n → KeptNumber k closed ts m → n ≡ m
  number_unique n m a b = sym a.2 ∙ ap length (cuts_unique a.0 b.0 a.1 b.1) ∙ b.2

  -- ---- what stays, as the window's laws have it
  pub stays_kept : (S : Cut) → Stays k closed ts S ↔ Kept k (λ p. not (bit closed p)) ts S
  stays_kept S = (there, back)
    where
      there : Stays k closed ts S → Kept k (λ p. not (bit closed p)) ts S
      there (inl c) = inl (c.0, c.1, rw c.2 tt, c.3)
      there (inr q) = inr q

      back : Kept k (λ p. not (bit closed p)) ts S → Stays k closed ts S
      back (inl c) = inl (c.0, c.1, open_bit (bit closed c.0) c.2, c.3)
      back (inr q) = inr q

  module _ (table : List Line) (start : Cut) (fs : List Frontier) (R : Represents (world_of k closed table start) ts fs)
    where
      pub represented_cuts : KeptCuts k closed ts R.cuts
      represented_cuts = record {
        ascending = R.sorted;
        exactly = λ C. (
          (λ m. let c = R.kept C m in (c.consistent, (stays_kept C).1 c.kept)),
          λ c. R.complete C (record { consistent = c.0; kept = (stays_kept C).0 c.1 }),
        );
      }

      pub represented_number : KeptNumber k closed ts (length fs)
      represented_number =
          let many = length-map R.cuts (frontier_of (world_of k closed table start) ts) in
          (R.cuts, represented_cuts, sym (ap length R.are ∙ many))

-- With no process closed a cut is kept exactly if some process has all its taken events in it (01, The window).
pub none_closed : (k : ℕ) → 0 < k → (ts : List Event) (S : Cut)
    → Stays k 0 ts S ↔ ((p : ℕ) × (p < k) × (S p ≡ taken ts p))
none_closed k l ts S = (there, λ c. inl (c.0, c.1, bit-zero c.0, c.2))
  where
    there : Stays k 0 ts S → (p : ℕ) × (p < k) × (S p ≡ taken ts p)
    there (inl c) = (c.0, c.1, c.3)
    there (inr q) = (0, l, ap (λ (R : Cut). R 0) q)
