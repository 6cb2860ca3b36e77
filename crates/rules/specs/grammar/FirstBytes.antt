-- The first bytes of a text, as a list.
use Rattle.std.specs.Prelude.{ℕ, ◌+◌, ◌≤◌, ◌<◌, ◌≡◌, refl, Bool, true, false, List, [], ◌∷◌, ◌++◌, ltb, T, length, take}
use Rattle.std.proofs.Common.{add-zero, add-one, arith, ap, ◌∙◌, ap₂, subst₂, append-nil, ltb→lt, length-append, length-take, take-suc, ltb-false}
use Rattle.std.proofs.Math.Seq.{append_snoc}
use Rattle.rules.specs.Text.{byte_at}
use Rattle.rules.specs.Fault.{StandsAt, Span}
use Rattle.rules.specs.reading.TextLaws.{byte_at_behind}
use Rattle.rules.specs.grammar.PlainBytes.{every, small, and_left, and_right}

-- A text's first bytes, up to before place i, are these.
pub record Begun (s bs : List ℕ) (i : ℕ) : Type 0 where
  pub taken : take i s ≡ bs
  pub ends : i ≡ length bs

pub begun_inside : {s bs : List ℕ} {i : ℕ} → Begun s bs i → i ≤ length s
begun_inside {s} {bs} {i} p = omega (arith, length-take i s, ap length p.taken, p.ends)

pub begun_nil : (s : List ℕ) → Begun s [] 0
begun_nil s = record { taken = refl; ends = refl }

-- Where a byte stands, the text has not ended.
pub inside : (s : List ℕ) (i b : ℕ) → byte_at s i ≡ b → b < 256 → i < length s
inside s i b e h = go (ltb i (length s)) refl
  where
    go : (t : Bool) → ltb i (length s) ≡ t → i < length s
    go true q = ltb→lt i (length s) (rw q tt)
    go false q = absurd (omega (arith, byte_at_behind s i (ltb-false i (length s) q)))

pub begun_next : {s bs : List ℕ} {i b : ℕ} → Begun s bs i → byte_at s i ≡ b → b < 256 → Begun s (bs ++ b ∷ []) (i + 1)
begun_next {s} {bs} {i} {b} p e h = record {
  taken = rw add-one (take-suc s i 256 (inside s i b e h) ∙ ap₂ (λ (x : List ℕ) (c : ℕ). x ++ c ∷ []) p.taken e);
  ends = omega (arith, length-append bs (b ∷ []), p.ends);
}

begun_stands : {s bs : List ℕ} {i : ℕ} (xs : List ℕ) → Begun s bs i → StandsAt s i xs → T (every small xs)
    → Begun s (bs ++ xs) (i + length xs)
unfolding StandsAt every
begun_stands {s} {bs} {i} [] p q h = rw (append-nil, add-zero) p
begun_stands {s} {bs} {i} (x ∷ xs) p q h =
    let r = begun_stands {bs = bs ++ x ∷ []} xs (begun_next p q.0 (ltb→lt x 256 (and_left (small x) _ h))) q.1 (and_right (small x) _ h) in
    subst₂ (λ (l : List ℕ) (j : ℕ). Begun s l j) (append_snoc bs x xs) (omega arith) r

pub begun_span : {s bs xs : List ℕ} {i j : ℕ} → Begun s bs i → Span s i xs j → T (every small xs) → Begun s (bs ++ xs) j
begun_span {s} {bs} {xs} {i} {j} p q h = rw q.ends (begun_stands xs p q.stands h)
