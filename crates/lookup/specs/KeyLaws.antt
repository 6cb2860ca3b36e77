-- The keys of frontiers.
use Rattle.std.specs.Prelude.{ℕ, ◌<◌, ◌≡◌, List, [], length, get_or}
use Rattle.std.proofs.lemmas.List.{length-map}
use Rattle.frontiers.specs.declared.Frontier.{Frontier}
use Rattle.frontiers.specs.Bytes.{frontier_at, frontiers}
use Rattle.frontiers.specs.WindowLaws.{counts_listed}
use Rattle.lookup.specs.Seek.{keys_of}

-- One for each.
pub length_keys : (laid : List Frontier) → length (keys_of laid) ≡ length laid
length_keys laid = length-map laid (λ f. f.counts)

-- Among the first n of a window's bytes.
pub get_d_keys : (w : ℕ) (s : List ℕ) (n i : ℕ) → i < n → get_or (keys_of (frontiers w s n)) i [] ≡ (frontier_at w s i).counts
get_d_keys w s n i l = counts_listed w s n i l
