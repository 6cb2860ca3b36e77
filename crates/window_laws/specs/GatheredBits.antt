-- Words gathered from cuts: bit i of the OR says that some of them has a property, bit i of the AND that all have it.
use Rattle.std.specs.Prelude.{ℕ, ◌≡◌, Bool, ◌&&◌, ◌||◌, ◌⊎◌, ◌↔◌, T}
use Rattle.std.proofs.Common.{ap, subst, ◌∙◌, ⊎_elim}
use Rattle.std.proofs.Math.Path.{subst⁻¹}
use Rattle.std.specs.Int.Bits.{bit_or, bit_and}
use Rattle.codec.specs.Bit.{bit}
use Rattle.codec.specs.BitLaws.{bit-or, bit-and}
use Rattle.pactl.specs.Truth.{Property}
use Rattle.clocks.specs.Event.{Cut}
use Rattle.clocks.specs.stored.BoundedLaws.{and_i, and_l, and_r, or_l, or_r, or_e}

-- What is gathered from the cuts of a set, for one property and its bit.
pub record Gathers (q : Property) (From : Cut → Type 0) (i ors ands : ℕ) : Type 0 where
  pub some_has : T (bit ors i) ↔ ((S : Cut) × From S × T (q S))
  pub all_have : T (bit ands i) ↔ ((S : Cut) → From S → T (q S))

module _ (q : Property) (From From' : Cut → Type 0) (i ors ands ors' ands' : ℕ) where
  -- no cut more
  pub gathers_same : ors' ≡ ors → ands' ≡ ands → ((S : Cut) → From S → From' S) → ((S : Cut) → From' S → From S) → Gathers q From i ors ands → Gathers q From' i ors' ands'
  gathers_same o a f g r = rw (o, a) (record {
    some_has = ((λ t. let w = r.some_has.0 t in (w.0, f w.0 w.1, w.2)), λ w. r.some_has.1 (w.0, g w.0 w.1, w.2));
    all_have = ((λ t S w. r.all_have.0 t S (g S w)), λ h. r.all_have.1 (λ S w. h S (f S w)));
  })

  -- the cut R more, with the word v
  pub gathers_added : (R : Cut) (v : ℕ) → ors' ≡ bit_or ors v → ands' ≡ bit_and ands v → ((S : Cut) → From S → From' S) → bit v i ≡ q R → From' R → ((S : Cut) → From' S → From S ⊎ (S ≡ R))
      → Gathers q From i ors ands → Gathers q From' i ors' ands'
  gathers_added R v o a f b n g r = record { some_has = (some-there, some_back); all_have = (all_there, all_back) }
    where
      some : bit ors' i ≡ bit ors i || q R
      some = ap (λ (x : ℕ). bit x i) o ∙ bit-or ors v i ∙ ap (λ (t : Bool). bit ors i || t) b

      all : bit ands' i ≡ bit ands i && q R
      all = ap (λ (x : ℕ). bit x i) a ∙ bit-and ands v i ∙ ap (λ (t : Bool). bit ands i && t) b

      some-there : T (bit ors' i) → (S : Cut) × From' S × T (q S)
      some-there t = ⊎_elim (λ u. let w = r.some_has.0 u in (w.0, f w.0 w.1, w.2)) (λ u. (R, n, u)) (or_e (bit ors i) (q R) (subst T some t))

      some_back : (S : Cut) × From' S × T (q S) → T (bit ors' i)
      some_back w = subst⁻¹ T some (⊎_elim (λ u. or_l (bit ors i) (q R) (r.some_has.1 (w.0, u, w.2))) (λ e. or_r (bit ors i) (q R) (subst T (ap q e) w.2)) (g w.0 w.1))

      all_there : T (bit ands' i) → (S : Cut) → From' S → T (q S)
      all_there t S w =
          let u : T (bit ands i && q R) = subst T all t in
          ⊎_elim (λ k. r.all_have.0 (and_l (bit ands i) (q R) u) S k) (λ e. subst⁻¹ T (ap q e) (and_r (bit ands i) (q R) u)) (g S w)

      all_back : ((S : Cut) → From' S → T (q S)) → T (bit ands' i)
      all_back h = subst⁻¹ T all (and_i (bit ands i) (q R) (r.all_have.1 (λ S w. h S (f S w))) (h R n))
