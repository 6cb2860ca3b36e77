-- The look-up among frontiers laid down: it finds a cut exactly if the cut is there, and then its values.
use Rattle.std.specs.Prelude.{ℕ, zero, suc, ◌<◌, ◌≡◌, length, get_or}
use Rattle.std.proofs.Common.{arith, sym, ap, ◌∙◌}
use mathlib.Core.List.{List, [], ◌∷◌, map, Memᴰ}
use Rattle.std.proofs.lemmas.List.{length-map}
use Rattle.clocks.specs.declared.Event.{Event}
use Rattle.clocks.specs.Event.{Cut}
use Rattle.clocks.specs.Bounds.{zeros}
use Rattle.clocks.specs.Counts.{list_of, at}
use Rattle.frontiers.specs.declared.Frontier.{Frontier}
use Rattle.lookup.specs.Seek.{seek, keys_of}
use Rattle.window.specs.Step.{values_at}
use Rattle.window_laws.specs.FrontierOf.{World, frontier_of, Sorted}
use Rattle.lookup.specs.Ascending.{Ascending}
use Rattle.window.specs.Lists.{map-map, get_d_mapped}
use Rattle.lookup.specs.SeekLaws.{seek_finds, seek-ends}
use Rattle.frontiers.specs.ListLaws.{place_member, member_place}

pub sorted_ascending : (n : ℕ) (cuts : List Cut) → Sorted n cuts → Ascending (map (list_of n) cuts)
sorted_ascending n [] s i j l k = absurd (omega arith)
sorted_ascending n (S ∷ Ss) s zero zero l k = absurd (omega arith)
sorted_ascending n (S ∷ Ss) s (suc i) zero l k = absurd (omega arith)
sorted_ascending n (S ∷ Ss) s (suc i) (suc j) l k = sorted_ascending n Ss s.1 i j (omega arith) (omega arith)
sorted_ascending n (S ∷ Ss) s zero (suc j) l k =
    let h : j < length Ss = omega (arith, length-map Ss (list_of n)) in
    rw (get_d_mapped (list_of n) Ss j zeros [] h) (s.0 (get_or Ss j zeros) (place_member Ss j zeros h))

module _ (W : World) (us : List Event) (laid : List Cut) (s : Sorted W.stored laid) where
  abbrev keys : List (List ℕ)
  keys = keys_of (map (frontier_of W us) laid)

  keys_are : keys ≡ map (list_of W.stored) laid
  unfolding frontier_of
  keys_are = map-map (λ (f : Frontier). f.counts) (frontier_of W us) laid

  many : length keys ≡ length laid
  many = ap length keys_are ∙ length-map laid (list_of W.stored)

  key_at : (i : ℕ) → i < length laid → get_or keys i [] ≡ list_of W.stored (get_or laid i zeros)
  key_at i l = ap (λ (ks : List (List ℕ)). get_or ks i []) keys_are ∙ get_d_mapped (list_of W.stored) laid i zeros [] l

  pub found_e : (key : List ℕ) (hint : ℕ) → let place = seek keys key hint in
      place < length laid → (R : Cut) × Memᴰ R laid × (key ≡ list_of W.stored R) × (values_at (map (frontier_of W us) laid) place ≡ (frontier_of W us R).values)
  found_e key hint l =
      let place = seek keys key hint in (
        get_or laid place zeros,
        place_member laid place zeros l,
        sym (seek-ends keys key hint (omega (arith, many))) ∙ key_at place l,
        ap (λ (vs : List ℕ). get_or vs place 0) (map-map (λ (f : Frontier). f.values) (frontier_of W us) laid) ∙ get_d_mapped (λ (S : Cut). (frontier_of W us S).values) laid place zeros 0 l,
      )

  pub found_i : (R : Cut) → Memᴰ R laid → (hint : ℕ) → seek keys (list_of W.stored R) hint < length laid
  found_i R m hint =
      let w = member_place laid R zeros m in
      let k : get_or keys w.0 [] ≡ list_of W.stored R = key_at w.0 w.1 ∙ ap (list_of W.stored) w.2 in
      let l : w.0 < length keys = omega (arith, w.1, many) in
      let a : Ascending keys = rw keys_are (sorted_ascending W.stored laid s) in
      let p : seek keys (list_of W.stored R) hint ≡ w.0 = rw k at (seek_finds keys a w.0 l hint) in
      rw p w.1
