-- A frontier of the list stands in the bytes, and is read from there.
use Rattle.std.proofs.Common.{ℕ, ◌+◌, ◌*◌, ◌≤◌, ◌<◌, ◌≡◌, List, [], length, map, get_or, arith, sym, ap, ◌∙◌}
use Rattle.frontiers.specs.declared.Frontier.{Frontier}
use Rattle.frontiers.specs.declared.listed.Frontiers.TheInside.{Inside}
use Rattle.frontiers.specs.Bytes.{frontier_length, frontier_at}
use Rattle.frontiers.specs.Listed.{listed, Stands}
use Rattle.frontiers.specs.WindowLaws.{length-frontiers, length-counts-at, place-within, counts_listed, values_listed}

module _ (f : Inside) (fs : List Frontier) (e : listed f ≡ fs) where
  pub long : f.count ≡ length fs
  long = sym (length-frontiers f.width f.bytes.now f.count) ∙ ap length e

  module _ (h : Stands f) (i : ℕ) (l : i < length fs) where
    there : i < f.count
    there = omega (arith, long)

    pub few : i ≤ 1024
    few = omega (arith, long, h.most)

    pub stands : i * frontier_length f.width + frontier_length f.width ≤ length f.bytes.now
    stands = omega (arith, place-within i f.count f.width there, h.within)

    pub counts_read : (frontier_at f.width f.bytes.now i).counts ≡ get_or (map (λ (g : Frontier). g.counts) fs) i []
    counts_read =
        sym (counts_listed f.width f.bytes.now f.count i there)
        ∙ ap (λ (gs : List Frontier). get_or (map (λ (g : Frontier). g.counts) gs) i []) e

    pub eight_read : length (get_or (map (λ (g : Frontier). g.counts) fs) i []) ≡ 8
    eight_read = ap length (sym counts_read) ∙ length-counts-at f.width f.bytes.now i

    pub values_read : (frontier_at f.width f.bytes.now i).values ≡ get_or (map (λ (g : Frontier). g.values) fs) i 0
    values_read =
        sym (values_listed f.width f.bytes.now f.count i there)
        ∙ ap (λ (gs : List Frontier). get_or (map (λ (g : Frontier). g.values) gs) i 0) e
