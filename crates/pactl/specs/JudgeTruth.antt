-- Judging is right: from the labels at a cut and the OR and the AND of right words at the preceding cuts, the word
-- judged has PaCTL's truth of each line.
use Rattle.std.specs.Prelude.{ℕ, zero, suc, ◌<◌, ◌≤◌, ◌≡◌, refl, Bool, true, List, ◌⊎◌, T, length, get_or}
use Rattle.std.proofs.Common.{arith, ◌∙◌, inl, inr, ⊎_elim}
use Rattle.std.proofs.Math.Decide.{dec_lt}
use Rattle.clocks.specs.declared.Event.{Event}
use Rattle.codec.specs.Bit.{bit}
use Rattle.clocks.specs.Event.{Cut}
use Rattle.pactl.specs.declared.Line.{Line}
use Rattle.pactl.specs.Line.{line}
use Rattle.pactl.specs.Table.{LineIs, good_table}
use Rattle.pactl.specs.Truth.{Model, line_truth}
use Rattle.pactl.specs.ModelCuts.{Ruled, CutOf}
use Rattle.pactl.specs.Judge.{judge, judge_line}
use Rattle.pactl.specs.JudgeLaws.{judge-bit}
use Rattle.pactl.specs.GoodLineLaws.{good_at, by_kind}
use Rattle.pactl.specs.Clauses.{LabelHere, Here, SomeBefore, AllBefore, SomePrecedes}
use Rattle.pactl.specs.ClauseLaws.{proposition_right, not_right, and_right, ey_right, es_right, as_right}

-- ---- Statement

-- What is gathered from the cuts that precede a cut S: bit i of `any` says that some of them has line i, bit i of `all`
-- that all have it, and `preceded` that there is one; without one `all` may be anything.
pub record Preceding (M : Model) (ls : List Line) (S : Cut) (any all : ℕ) (preceded : Bool) : Type 0 where
  pub some_has : (i : ℕ) → i < length ls → SomeBefore M ls S any i
  pub all_have : T preceded → (i : ℕ) → i < length ls → AllBefore M ls S all i
  pub some_precedes : SomePrecedes M S preceded

-- The label bytes at a cut.
abbrev pub LabelsAt : Model → Cut → List ℕ → Type 0
LabelsAt M S labels = (p : ℕ) → p < M.processes → LabelHere M S labels p

-- ---- Proof
module _ (M : Model) (valid : List Event → Event → Type 0) (m : Ruled M valid)
    (ls : List Line) (good : good_table M.processes ls ≡ true) (S : Cut) (c : CutOf M S)
    (labels : List ℕ) (at : LabelsAt M S labels)
    (any all : ℕ) (preceded : Bool) (g : Preceding M ls S any all preceded) where
  abbrev word : ℕ
  word = judge labels any all preceded ls

  -- line i is right where the lines before it are, by the clause of its kind
  line_right : (i : ℕ) → i < length ls → ((j : ℕ) → j < i → Here M ls S word j) → Here M ls S word i
  unfolding judge_line
  line_right i l earlier =
      judge-bit labels any all preceded M.processes ls i (line 0 0 0) good l
      ∙ by_kind M.processes i
      (λ x. LineIs ls i x → judge_line labels word any all preceded i x ≡ line_truth M ls i S)
      (λ a b la is. proposition_right M ls i S a b labels is (at a la))
      (λ a la is. not_right M ls i S a word is la (earlier a la))
      (λ a b la lb is. and_right M ls i S a b word is la lb (earlier a la) (earlier b lb))
      (λ a la is. ey_right M ls i S valid m c a any is la (g.some_has a (omega arith)))
      (λ a b la lb is.
      es_right M ls i S valid m c a b word any is la lb (earlier a la) (earlier b lb) (g.some_has i l))
      (λ a b la lb is.
      as_right M ls i S valid m c a b word all preceded is la lb (earlier a la) (earlier b lb)
      g.some_precedes (λ t. g.all_have t i l))
      (get_or ls i (line 0 0 0)) (good_at M.processes ls i good l) (l, refl)

  up_to : (n : ℕ) → n ≤ length ls → (j : ℕ) → j < n → Here M ls S word j
  up_to zero l j h = absurd (omega arith)
  up_to (suc n) l j h =
      ⊎_elim
      (λ k. up_to n (omega arith) j k)
      (λ e. rw e (line_right n (omega arith) (up_to n (omega arith))))
      (below_or j n h)
    where
      below_or : (j n : ℕ) → j < suc n → (j < n) ⊎ (j ≡ n)
      below_or j n h = go (dec_lt j n)
        where
          go : Dec (j < n) → (j < n) ⊎ (j ≡ n)
          go (yes k) = inl k
          go (no k) = inr (omega arith)

  -- ---- Theorem
  pub judged_right : (i : ℕ) → i < length ls → bit (judge labels any all preceded ls) i ≡ line_truth M ls i S
  judged_right i l = up_to (length ls) (omega arith) i l
