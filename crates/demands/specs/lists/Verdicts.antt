-- Every verdict that a list of calls reports is PaCTL's, by source 000, of the formula whose text was opened, at the
-- cut of the counts beside it, over all consistent cuts of the events taken by the list's end.
use Rattle.std.specs.Prelude.{ℕ, ◌-◌, ◌<◌, ◌≡◌, Bool, List, ◌∷◌, map, length, get_or}
use Rattle.std.proofs.Common.{arith, ap, ◌∙◌}
use Rattle.frontiers.specs.declared.Frontier.{Frontier}
use Rattle.clocks.specs.declared.Event.{Event}
use Rattle.codec.specs.Bit.{bit}
use Rattle.window.specs.Lists.{get_d_mapped}
use Rattle.window_laws.specs.Verdict.{some_frontier, verdict_right}
use Rattle.window_laws.specs.Represents.{Represents, Proper}
use Rattle.window_laws.specs.FrontierOf.{World, model_of, frontier_of}
use Rattle.rules.specs.Line.{lines_at}
use Rattle.pactl.specs.Truth.{Property, line_truth, holds}
use Rattle.rules.specs.lines.LinesMean.{rule_means}
use Rattle.pactl.specs.TruthLocal.{holds_local}
use Rattle.rules.specs.Formula.{Formula, meaning}
use Rattle.rules.specs.lines.LineLaws.{length-lines_at}
use Rattle.clocks.specs.History.{taken}
use Rattle.clocks.specs.Event.{Cut}
use Rattle.clocks.specs.validity.ClockRule.{history_causal}
use Rattle.clocks.specs.cuts.Step.{consistent-old}
use Rattle.clocks.specs.Counts.{list_of}
use Rattle.clocks.specs.cuts.Lattice.{taken-consistent}
use Rattle.clocks.specs.cuts.Agree.{agree_old}
use Rattle.clocks.specs.Valid.{History}
use Rattle.demands.specs.Watching.{Rule}
use Rattle.demands.specs.World.{world_of, Valid}
use Rattle.demands.specs.Verdict.{TrueVerdict}
use Rattle.demands.specs.calls.ValidRule.{valid_rule}

-- ---- A verdict stays true
module _ (k : ℕ) (f : Formula) (start : Cut) where
  pub verdict_later : (e : Event) (ts : List Event) → History k Valid (e ∷ ts) → (counts : List ℕ) (truth : Bool)
      → TrueVerdict k f start ts counts truth → TrueVerdict k f start (e ∷ ts) counts truth
  verdict_later e ts h counts truth v = record {
    cut = v.cut;
    consistent = consistent-old e ts v.cut v.consistent;
    counts_are = v.counts_are;
    truth_is =
        v.truth_is
        ∙ holds_local k start Valid (valid_rule k) ts (e ∷ ts) h.1 h (meaning f) v.cut v.consistent
        (agree_old e ts v.cut v.consistent.within);
  }

  -- ---- the answer of a window that holds the kept cuts
  module _ (w closed : ℕ) (R : Rule w k (lines_at 0 f) start) (ts : List Event) (h : History k Valid ts)
      (fs : List Frontier) (r : Represents (world_of k closed (lines_at 0 f) start) ts fs) where
    pub state-holds : bit (get_or (map (λ g. g.values) fs) (length fs - 1) 0) (length (lines_at 0 f) - 1)
        ≡ holds (model_of (world_of k closed (lines_at 0 f) start) ts) (meaning f) (taken ts)
    state-holds =
        let W : World = world_of k closed (lines_at 0 f) start in
        let P : Proper W Valid ts = record {
          some_process = R.some_process;
          room = R.eight_processes;
          rule = valid_rule k;
          by_rule = h;
          good = R.good;
        } in
        let n : 0 < length fs = some_frontier W Valid ts P fs r in
        let last : ℕ = length (lines_at 0 f) - 1 in
        let d : Frontier = frontier_of W ts (taken ts) in
        ap (λ (v : ℕ). bit v last) (get_d_mapped (λ (g : Frontier). g.values) fs (length fs - 1) d 0 (omega arith))
        ∙ verdict_right W Valid ts P fs r d last (omega (arith, R.some_line))
        ∙ ap (λ (i : ℕ). line_truth (model_of W ts) (lines_at 0 f) (i - 1) (taken ts)) (length-lines_at 0 f)
        ∙ ap (λ (q : Property). q (taken ts)) (rule_means (model_of W ts) f)

    pub state-true : (counts : List ℕ) → counts ≡ list_of 8 (taken ts)
        → TrueVerdict k f start ts counts
        (bit (get_or (map (λ g. g.values) fs) (length fs - 1) 0) (length (lines_at 0 f) - 1))
    state-true counts c = record {
      cut = taken ts;
      consistent = taken-consistent ts (history_causal k Valid (valid_rule k) ts h);
      counts_are = c;
      truth_is = state-holds;
    }
