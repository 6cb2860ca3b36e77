-- The window is exact (demand 2): after every list of calls it holds exactly the kept cuts of the taken events, with
-- PaCTL's truth of every line.
use Rattle.std.specs.Prelude.{ℕ, ◌-◌, ◌≤◌, ◌≡◌, false, length}
use Rattle.std.proofs.Math.Path.{ap}
use Rattle.std.proofs.Common.{◌∙◌, arith}
use mathlib.Core.List.{List}
use Rattle.clocks.specs.declared.Event.{Event}
use Rattle.codec.specs.BitLaws.{bit_above}
use Rattle.window_laws.specs.FrontierLaws.{word_of-lt, bit-word_of}
use Rattle.window_laws.specs.FrontierOf.{World, model_of, word_of, frontier_of}
use Rattle.frontiers.specs.Bytes.{frontiers}
use Rattle.rules.specs.Line.{lines_at}
use Rattle.pactl.specs.Truth.{line_truth}
use Rattle.rules.specs.lines.LineLaws.{length-lines_at}
use Rattle.rules.specs.lines.LinesMean.{rule_means}
use Rattle.rules.specs.Formula.{Formula}
use Rattle.clocks.specs.Event.{Cut}
use Rattle.records.specs.Record.{kept_count}
use Rattle.refusals.specs.Refusals.{bad_state}
use Rattle.demands.specs.calls.WatchingLaws.{says_frontiers, says_kept, never_34}
use Rattle.demands.specs.Run.{Watch}
use Rattle.demands.specs.lists.SoundRun.{Sound, every-list}
use Rattle.demands.specs.World.{world_of}
use Rattle.pactl.specs.declared.Line.{Line}
use Rattle.demands.specs.statements.WindowExact.{WindowExact, WindowIsExact}
use Rattle.demands.specs.calls.KeptCutsLaws.{represented_cuts, none_closed}
use Rattle.demands.specs.lists.TakeAnswers.{nothing_after, not_34}

-- ---- Proof
module _ (w k : ℕ) (f : Formula) (start : Cut) (Z : Watch) (S : Sound w k f start Z) where
  abbrev table : List Line
  table = lines_at 0 f

  abbrev ts : List Event
  ts = Z.ledger.history

  good : (room : ℕ) → kept_count Z.bytes ≤ room → bad_state w room Z.bytes ≡ false
  good room l = never_34 w k table start S.rule Z.ledger Z.bytes Z.window S.right room
      (omega (arith, says_kept w k table start S.rule Z.ledger Z.bytes Z.window S.right))

  pub window_exact_of : WindowExact w k f start Z
  unfolding frontier_of
  window_exact_of =
      let X = S.right in
      let W : World = world_of k Z.ledger.closed table start in
      record {
        frontiers_kept = X.kept;
        cuts = X.represents.cuts;
        record_is = X.bytes_are;
        window_is = X.window_is;
        read_back =
            ap (λ (s : List ℕ). frontiers w s (kept_count Z.bytes)) X.window_is
            ∙ says_frontiers w k table start S.rule Z.ledger Z.bytes Z.window X (length Z.window);
        cuts_are = represented_cuts k Z.ledger.closed ts table start X.kept X.represents;
        none_closed = λ q C.
            let kept = (represented_cuts k Z.ledger.closed ts table start X.kept X.represents).exactly C in
            let old = none_closed k S.rule.some_process ts C in (
              (λ m. let c = kept.0 m in (c.0, old.0 (rw q at c.1))),
              λ c. kept.1 (c.0, rw q (old.1 c.1)),
            );
        frontiers_are = X.represents.are;
        line_true = λ C i l. bit-word_of (length table) (λ j. line_truth (model_of W ts) table j C) i l;
        no_more_bits = λ C i l.
            bit_above (word_of (length table) (λ j. line_truth (model_of W ts) table j C)) (length table) i
            (word_of-lt (length table) (λ j. line_truth (model_of W ts) table j C)) l;
        rule_true =
            ap (λ (n : ℕ). line_truth (model_of W ts) table (n - 1)) (length-lines_at 0 f) ∙ rule_means (model_of W ts) f;
        history_true = X.right.by_rule;
        pending_formed = X.right.formed;
        pending_ordered = X.ordered;
        pending_apart = X.clear;
        closed_below = X.closed_below;
        pending_open = X.names_open;
        nothing_ready = λ cap more scratch h. nothing_after w k f start Z S cap more scratch h;
        kept_few =
            omega (arith, X.few, says_kept w k table start S.rule Z.ledger Z.bytes Z.window S.right);
        state_good = good;
        never_34 = not_34 w k f start Z S;
      }

-- ---- Theorem
pub window_exact : WindowIsExact
window_exact = every-list _ window_exact_of
