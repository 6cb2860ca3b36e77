-- What a call meets that looks at a sound watch: a record of the right length and in a good state, the table's lines,
-- and the kept cuts' frontiers with the truth of each line.
use Rattle.std.specs.Prelude.{ℕ, ◌<◌, ◌≡◌, false, length}
use Rattle.std.proofs.Math.Path.{ap}
use Rattle.std.proofs.Common.{◌∙◌, eq-eqb}
use mathlib.Core.List.{List, map}
use Rattle.codec.specs.Bit.{bit}
use Rattle.frontiers.specs.Bytes.{frontiers}
use Rattle.window_laws.specs.FrontierLaws.{bit-word_of}
use Rattle.window_laws.specs.FrontierOf.{model_of, frontier_of}
use Rattle.rules.specs.Line.{lines_at}
use Rattle.rules.specs.Formula.{Formula}
use Rattle.pactl.specs.Truth.{line_truth}
use Rattle.clocks.specs.Event.{Cut}
use Rattle.records.specs.Record.{kept_count, line_total, record_length}
use Rattle.refusals.specs.Refusals.{bad_record_length, bad_state, room_of}
use Rattle.demands.specs.Run.{Watch}
use Rattle.demands.specs.World.{world_of, frontier_after}
use Rattle.demands.specs.statements.Find.{line_of}
use Rattle.demands.specs.calls.WatchingLaws.{bytes_long, says_lines, says_frontiers, never_34}
use Rattle.demands.specs.calls.AfterCall.{room_iff}
use Rattle.demands.specs.lists.SoundRun.{Sound}

module _ (w k : ℕ) (f : Formula) (start : Cut) (Z : Watch) (S : Sound w k f start Z) where
  pub right_record : bad_record_length w (length Z.bytes) ≡ false
  unfolding bad_record_length
  right_record =
      let n = bytes_long w k (lines_at 0 f) start S.rule Z.ledger Z.bytes Z.window S.right in
      rw (eq-eqb (length Z.bytes) (record_length w) n)

  pub good_state : bad_state w (room_of w (length Z.window)) Z.bytes ≡ false
  good_state =
      let fits = (room_iff w (length S.right.kept) (length Z.window)).1 S.right.room in
      let room = room_of w (length Z.window) in
      never_34 w k (lines_at 0 f) start S.rule Z.ledger Z.bytes Z.window S.right room fits

  pub lines_read : line_total Z.bytes ≡ length (lines_at 0 f)
  lines_read = says_lines w k (lines_at 0 f) start S.rule Z.ledger Z.bytes Z.window S.right

  pub kept_read : frontiers w Z.window (kept_count Z.bytes)
      ≡ map (frontier_after k f start Z.ledger.history) S.right.represents.cuts
  unfolding frontier_of
  kept_read =
      ap (λ (s : List ℕ). frontiers w s (kept_count Z.bytes)) S.right.window_is
      ∙ says_frontiers w k (lines_at 0 f) start S.rule Z.ledger Z.bytes Z.window S.right
      (length Z.window)
      ∙ S.right.represents.are

  pub line_read : (line : ℕ) → line < length (lines_at 0 f) → (C : Cut)
      → bit (frontier_after k f start Z.ledger.history C).values line ≡ line_of k f start Z line C
  unfolding frontier_of
  line_read line l C =
      bit-word_of (length (lines_at 0 f))
      (λ j. line_truth (model_of (world_of k 0 (lines_at 0 f) start) Z.ledger.history) (lines_at 0 f) j C) line l
