-- Frontiers that bytes can hold: eight of each part, every number within its width (01, The window).
use Rattle.std.specs.Prelude.{ℕ, ◌^◌, ◌<◌, ◌≡◌, length}
use mathlib.Core.List.{List, Memᴰ}
use Rattle.codec.specs.Little.{Bytes}
use Rattle.clocks.specs.Counts.{at}
use Rattle.frontiers.specs.declared.Frontier.{Frontier}

-- A frontier of proper shape, for counts of w bytes.
pub record Shaped (w : ℕ) (f : Frontier) : Type 0 where
  pub eight_counts : length f.counts ≡ 8
  pub counts_fit : (p : ℕ) → at f.counts p < 256 ^ w
  pub eight_labels : length f.labels ≡ 8
  pub labels_fit : Bytes f.labels
  pub eight_masks : length f.masks ≡ 8
  pub masks_fit : Bytes f.masks
  pub values_fit : f.values < 256 ^ 8

-- Each of a list of frontiers is so.
abbrev pub AllShaped : ℕ → List Frontier → Type 0
AllShaped w fs = (f : Frontier) → Memᴰ f fs → Shaped w f
