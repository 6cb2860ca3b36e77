-- Frontiers in bytes (01, The window), for counts of any width: counts, labels, masks, values, low byte first.
use Rattle.std.specs.Prelude.{ℕ, ◌+◌, ◌-◌, ◌*◌, List, [], ◌∷◌, ◌++◌, length, take, drop, replicate}
use Rattle.std.proofs.lemmas.List.Edits.{sets}
use Rattle.codec.specs.Little.{bytes_of, number}
use Rattle.clocks.specs.Counts.{list_of}
use Rattle.frontiers.specs.declared.Frontier.{Frontier}

-- The length of a frontier with counts of w bytes.
unfoldable pub frontier_length : (w : ℕ) → ℕ
frontier_length w = 8 * w + 24

-- The bytes of counts, w for each.
unfoldable pub count_bytes : (w : ℕ) (xs : List ℕ) → List ℕ
count_bytes w [] = []
count_bytes w (c ∷ cs) = bytes_of w c ++ count_bytes w cs

unfoldable pub frontier_bytes : (w : ℕ) (f : Frontier) → List ℕ
frontier_bytes w f = count_bytes w f.counts ++ f.labels ++ f.masks ++ bytes_of 8 f.values

-- The frontier whose bytes begin at a place.
unfoldable pub frontier_from : (w : ℕ) (s : List ℕ) (place : ℕ) → Frontier
frontier_from w s place = record {
  counts = list_of 8 (λ p. number s (place + p * w) w);
  labels = take 8 (drop (place + 8 * w) s);
  masks = take 8 (drop (place + 8 * w + 8) s);
  values = number s (place + 8 * w + 16) 8;
}

-- Frontier number i of a window.
unfoldable pub frontier_at : (w : ℕ) (s : List ℕ) (i : ℕ) → Frontier
frontier_at w s i = frontier_from w s (i * frontier_length w)

-- The first n frontiers of a window.
unfoldable pub frontiers : (w : ℕ) (s : List ℕ) (n : ℕ) → List Frontier
frontiers w s n = list_of n (frontier_at w s)

-- The bytes of frontiers one behind the other.
unfoldable pub framed : (w : ℕ) (fs : List Frontier) → List ℕ
framed w [] = []
framed w (f ∷ fs) = frontier_bytes w f ++ framed w fs

-- A window of so many bytes: its frontiers, then zeros (01: bytes after the last are 0).
unfoldable pub window_bytes : (w total : ℕ) (fs : List Frontier) → List ℕ
window_bytes w total fs = framed w fs ++ replicate (total - length fs * frontier_length w) 0

-- A window in which others stand in place of its first n frontiers: zeros where there were more of them, and the rest
-- as it was.
unfoldable pub replaced : (w : ℕ) (s : List ℕ) (n : ℕ) (fs : List Frontier) → List ℕ
replaced w s n fs = sets (sets s 0 (framed w fs)) (length fs * frontier_length w) (replicate ((n - length fs) * frontier_length w) 0)
