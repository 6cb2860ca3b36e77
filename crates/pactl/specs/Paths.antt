-- What PaCTL's operators say over paths (source 000, section 2: E, there exists a path; A, for all paths; P reads as
-- previously, H as historically). The source prints no such clauses: these follow from its own (Semantics), and are for
-- a reader who thinks in paths. Proved in PathsTheorem.
use Rattle.std.specs.Prelude.{ℕ, suc, ◌≤◌, ◌<◌, ◌≡◌, List, ◌⊎◌, ◌↔◌}
use Rattle.clocks.specs.declared.Event.{Event}
use Rattle.clocks.specs.Event.{Cut}
use Rattle.clocks.specs.History.{Consistent, Precedes}
use Rattle.clocks.specs.Valid.{Known, History}
use Rattle.pactl.specs.Pactl.{Pactl, negation, exists_yesterday, exists_since, all_since, disjunction, truth, exists_previously, all_previously}
use Rattle.pactl.specs.Truth.{holds}
use Rattle.pactl.specs.Semantics.{Truths, Has, model_over}

-- A path of n steps back from a cut: each next cut precedes the one before it.
pub record Path (ts : List Event) (S : Cut) (n : ℕ) (cuts : ℕ → Cut) : Type 0 where
  pub begins : cuts 0 ≡ S
  pub steps : (i : ℕ) → i < n → Precedes ts (cuts (suc i)) (cuts i)

-- ... and nothing precedes its last cut (source 000: maximal paths are linearizations).
pub record Maximal (ts : List Event) (S : Cut) (n : ℕ) (cuts : ℕ → Cut) : Type 0 where
  pub path : Path ts S n cuts
  pub ends : (R : Cut) → Precedes ts R (cuts n) → ⊥

-- Cut number m of a path has ψ, and all cuts on the way there have φ.
pub record SinceAt (truths : Truths) (φ ψ : Pactl) (cuts : ℕ → Cut) (m : ℕ) : Type 0 where
  pub there : Has truths (cuts m) ψ
  pub on_the_way : (i : ℕ) → i < m → Has truths (cuts i) φ

-- ---- Statement

pub record OverPaths (ts : List Event) (truths : Truths) (S : Cut) : Type 0 where
  -- paths lead back to exactly the consistent cuts inside (source 000: < is the transitive closure of →)
  pub reach : (R : Cut)
      → ((n : ℕ) × (cuts : ℕ → Cut) × Path ts S n cuts × (cuts n ≡ R)) ↔ (Consistent ts R × ((p : ℕ) → R p ≤ S p))
  -- E(φ S ψ), A(φ S ψ): on some path; on every maximal one
  pub of_es : (φ ψ : Pactl)
      → Has truths S (exists_since φ ψ)
      ↔ ((n : ℕ) × (cuts : ℕ → Cut) × Path ts S n cuts × SinceAt truths φ ψ cuts n)
  pub of_as : (φ ψ : Pactl)
      → Has truths S (all_since φ ψ)
      ↔ ((n : ℕ) (cuts : ℕ → Cut) → Maximal ts S n cuts → (m : ℕ) × (m ≤ n) × SinceAt truths φ ψ cuts m)
  -- true, φ ∨ ψ
  pub of_true : Has truths S truth
  pub of_or : (φ ψ : Pactl) → Has truths S (disjunction φ ψ) ↔ (Has truths S φ ⊎ Has truths S ψ)
  -- EP φ, AP φ: at some cut of some path; at some cut of every maximal one
  pub of_ep : (φ : Pactl)
      → Has truths S (exists_previously φ)
      ↔ ((n : ℕ) × (cuts : ℕ → Cut) × Path ts S n cuts × Has truths (cuts n) φ)
  pub of_ap : (φ : Pactl)
      → Has truths S (all_previously φ)
      ↔ ((n : ℕ) (cuts : ℕ → Cut) → Maximal ts S n cuts → (m : ℕ) × (m ≤ n) × Has truths (cuts m) φ)
  -- AY φ = ¬EY¬φ: at all preceding cuts
  pub of_ay : (φ : Pactl)
      → Has truths S (negation (exists_yesterday (negation φ)))
      ↔ ((S' : Cut) → Precedes ts S' S → Has truths S' φ)
  -- EH φ = ¬AP¬φ, AH φ = ¬EP¬φ: at all cuts of some maximal path; at all cuts of every path
  pub of_eh : (φ : Pactl)
      → Has truths S (negation (all_previously (negation φ)))
      ↔ ((n : ℕ) × (cuts : ℕ → Cut) × Maximal ts S n cuts × ((m : ℕ) → m ≤ n → Has truths (cuts m) φ))
  pub of_ah : (φ : Pactl)
      → Has truths S (negation (exists_previously (negation φ)))
      ↔ ((n : ℕ) (cuts : ℕ → Cut) → Path ts S n cuts → Has truths (cuts n) φ)

abbrev pub OperatorsOverPaths : Type 0
OperatorsOverPaths =
    (k : ℕ) (start : Cut) (ts : List Event) → History k Known ts
    → (S : Cut) → Consistent ts S → OverPaths ts (holds (model_over k start ts)) S
