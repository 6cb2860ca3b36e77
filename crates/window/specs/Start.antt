-- The first frontier: the cut of zeros, with the start labels, judged where nothing precedes (01, The calls: open).
use Rattle.std.specs.Prelude.{ℕ, false, List, replicate}
use Rattle.pactl.specs.declared.Line.{Line}
use Rattle.pactl.specs.Judge.{judge}
use Rattle.frontiers.specs.declared.Frontier.{Frontier}

unfoldable pub start_frontier : (stored : ℕ) (labels : List ℕ) (table : List Line) → Frontier
start_frontier stored labels table = record {
  counts = replicate stored 0;
  labels = labels;
  masks = replicate stored 0;
  values = judge labels 0 0 false table;
}
