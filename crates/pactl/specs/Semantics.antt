-- PaCTL's semantics, clause by clause as source 000 prints it in section 2 (01, The rule, has the same words). The
-- truth that Truth computes keeps these clauses at every consistent cut of a history, and no other truth does. Proved
-- in SemanticsTheorem.
--
-- The source's letters: S and S' are cuts, S' → S says that S' precedes S, L(S) are the propositions that hold at S, q
-- is a proposition. The script S in E(φ S ψ) is since.
use Rattle.std.specs.Prelude.{ℕ, ◌≡◌, Bool, true, List, ◌⊎◌, ◌↔◌}
use Rattle.clocks.specs.declared.Event.{Event}
use Rattle.codec.specs.Bit.{bit}
use Rattle.clocks.specs.Event.{Cut}
use Rattle.clocks.specs.History.{label_of, Consistent, Precedes}
use Rattle.clocks.specs.Valid.{Known, History}
use Rattle.pactl.specs.Pactl.{Pactl, proposition, negation, conjunction, exists_yesterday, exists_since, all_since}
use Rattle.pactl.specs.Truth.{Model, holds}

-- A truth of every formula at every cut.
abbrev pub Truths : Type 0
Truths = Pactl → Cut → Bool

-- S ⊨ φ, by these truths.
abbrev pub Has : (truths : Truths) (S : Cut) (φ : Pactl) → Type 0
Has truths S φ = truths φ S ≡ true

-- The six clauses, at a cut of a history with these start labels.
pub record ClausesAt (start : Cut) (ts : List Event) (truths : Truths) (S : Cut) : Type 0 where
  -- S ⊨ q if q ∈ L(S): the label byte of the process's last event in the cut, or its start labels, has the bit
  pub of_proposition : (p b : ℕ) → Has truths S (proposition p b) ↔ (bit (label_of start ts p (S p)) b ≡ true)
  -- S ⊨ (φ ∧ ψ) if S ⊨ φ and S ⊨ ψ
  pub of_and : (φ ψ : Pactl) → Has truths S (conjunction φ ψ) ↔ (Has truths S φ × Has truths S ψ)
  -- S ⊨ ¬φ if not S ⊨ φ
  pub of_not : (φ : Pactl) → Has truths S (negation φ) ↔ (Has truths S φ → ⊥)
  -- S ⊨ EY φ if there exists S' → S such that S' ⊨ φ
  pub of_ey : (φ : Pactl)
      → Has truths S (exists_yesterday φ) ↔ ((S' : Cut) × Precedes ts S' S × Has truths S' φ)
  -- S ⊨ E(φ S ψ) if either S ⊨ ψ or both S ⊨ φ and there exists S' → S such that S' ⊨ E(φ S ψ)
  pub of_es : (φ ψ : Pactl)
      → Has truths S (exists_since φ ψ)
      ↔ (Has truths S ψ
      ⊎ (Has truths S φ × ((S' : Cut) × Precedes ts S' S × Has truths S' (exists_since φ ψ))))
  -- S ⊨ A(φ S ψ) if either S ⊨ ψ or both S ⊨ φ and for each S' → S it holds that S' ⊨ A(φ S ψ), where at least one such
  -- predecessor S' exists
  pub of_as : (φ ψ : Pactl)
      → Has truths S (all_since φ ψ)
      ↔ (Has truths S ψ
      ⊎ (Has truths S φ × ((S' : Cut) → Precedes ts S' S → Has truths S' (all_since φ ψ))
      × ((S' : Cut) × Precedes ts S' S)))

-- ... at every consistent cut.
abbrev pub Keeps : (start : Cut) (ts : List Event) (truths : Truths) → Type 0
Keeps start ts truths = (S : Cut) → Consistent ts S → ClausesAt start ts truths S

-- ---- Statement

-- The model after a history of k processes with these start labels (demands World: model_after is it).
abbrev pub model_over : (k : ℕ) (start : Cut) (ts : List Event) → Model
model_over k start ts = record { processes = k; start = start; history = ts }

-- The truth there keeps the clauses, and one that keeps them too is the same at every consistent cut.
pub record OneTruth (k : ℕ) (start : Cut) (ts : List Event) : Type 0 where
  pub keeps : Keeps start ts (holds (model_over k start ts))
  pub no_other : (truths : Truths) → Keeps start ts truths → (φ : Pactl) (S : Cut) → Consistent ts S
      → truths φ S ≡ holds (model_over k start ts) φ S

-- (A history under any rule for valid clocks is one under this rule: Valid, ClockRule, asks for as much of each.)
abbrev pub ClausesAsPrinted : Type 0
ClausesAsPrinted = (k : ℕ) (start : Cut) (ts : List Event) → History k Known ts → OneTruth k start ts
