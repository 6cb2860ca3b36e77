-- The frontiers that stay, laid together at the window's start one by one.
use Prim.Native.Nat.{ℕ, ◌+◌, ◌-◌, ◌*◌, ◌≤◌}
use native.Mathlib.Omega.{arith}
use native.Mathlib.Nat.{mul-le-mul_right}
use native.Mathlib.Numerals.{add-one}
use mathlib.Core.Path.{◌≡◌, refl, sym, ap, ◌∙◌}
use mathlib.Core.Bool.{Bool, true, false}
use mathlib.Core.List.{List, [], ◌∷◌, ◌++◌, append-nil}
use lib.ListN.{length, take, drop, replicate, length-append}
use lib.Seq.{sets, length-sets}
use Rattle.codec.specs.Little.{Bytes}
use Rattle.codec.specs.SetsLaws.{sets-append, part-sets-after}
use Rattle.frontiers.specs.declared.Frontier.{Frontier}
use Rattle.frontiers.specs.Bytes.{frontier_length, frontier_bytes, frontier_at, frontiers, framed, replaced}
use Rattle.frontiers.specs.BytesLaws.{frontier_from-alike, frontier_bytes_from}
use Rattle.frontiers.specs.WindowLaws.{length-framed, framed-append, frontiers_more, length-frontiers, shaped_frontiers}
use Rattle.window.specs.Step.{filtered}
use Rattle.window.specs.Lists.{filtered_e, filtered-append, length-filtered}
use Rattle.call_close.specs.CloseCode.{moved_to}

-- What is left behind those laid down is cleared, by the places that were worked out.
pub cleared_behind : (w n m far left : ℕ) (s laid : List ℕ) (gs : List Frontier) → m ≡ length gs
    → far ≡ m * frontier_length w → left ≡ (n - m) * frontier_length w → laid ≡ sets s 0 (framed w gs)
    → sets laid far (replicate left 0) ≡ replaced w s n gs
unfolding replaced
cleared_behind w n m far left s laid gs e f l h = rw (h, f, l, e)

-- A frontier moved, by the places and the length that were worked out.
pub moved_to_lem : (s : List ℕ) (to by size m i F : ℕ) → to ≡ m * F → to + by ≡ i * F → size ≡ F
    → sets s to (take size (drop (to + by) s)) ≡ sets s (m * F) (take F (drop (i * F) s))
moved_to_lem s to by size m i F e f g = rw (f, e, g)

module _ (t : Frontier → Bool) (w : ℕ) (s : List ℕ) where
  -- Those of the first i frontiers that pass the test, and the window with their bytes at its start.
  abbrev among : ℕ → List Frontier
  among i = filtered t (frontiers w s i)

  abbrev laid : ℕ → List ℕ
  laid i = sets s 0 (framed w (among i))

  -- Of the first i frontiers so many pass, and this is the window then.
  pub record Laid (i m : ℕ) (window : List ℕ) : Type 0 where
    pub few : m ≤ i
    pub number : m ≡ length (among i)
    pub long : length window ≡ length s
    pub bytes : window ≡ laid i

  among_none : among 0 ≡ []
  unfolding filtered frontiers Rattle.clocks.specs.Counts.list_of
  among_none = refl

  among_few : (i : ℕ) → length (among i) ≤ i
  among_few i = omega (arith, length-filtered t (frontiers w s i), length-frontiers w s i)

  among_more : (i : ℕ) → among (i + 1) ≡ among i ++ filtered t (frontier_at w s i ∷ [])
  among_more i = rw (add-one, frontiers_more w s i) (filtered-append t (frontiers w s i) (frontier_at w s i ∷ []))

  among_passed : (i : ℕ) → t (frontier_at w s i) ≡ false → among (i + 1) ≡ among i
  unfolding filtered
  among_passed i h = among_more i ∙ rw h (append-nil (among i))

  among_next : (i : ℕ) → t (frontier_at w s i) ≡ true → among (i + 1) ≡ among i ++ (frontier_at w s i ∷ [])
  unfolding filtered
  among_next i h = among_more i ∙ rw h

  one_more : (i : ℕ) → t (frontier_at w s i) ≡ true → length (among (i + 1)) ≡ length (among i) + 1
  one_more i h = ap length (among_next i h) ∙ length-append (among i) (frontier_at w s i ∷ [])

  module _ (i : ℕ) (b : Bytes s) (room : i * frontier_length w + frontier_length w ≤ length s) where
    laid_long : length (framed w (among i)) ≡ length (among i) * frontier_length w
    laid_long =
        length-framed w (among i)
        (λ f m. shaped_frontiers w s i b (omega arith) f (filtered_e t (frontiers w s i) f m).0)

    -- What is laid ends before frontier number i,
    laid_before : 0 + length (framed w (among i)) ≤ i * frontier_length w
    laid_before = omega (arith, laid_long, mul-le-mul_right (frontier_length w) (among_few i))

    -- which is as it was.
    same_here : frontier_at w (laid i) i ≡ frontier_at w s i
    unfolding frontier_at
    same_here =
        frontier_from-alike w (laid i) (i * frontier_length w) s (i * frontier_length w)
        (λ o n l. part-sets-after s 0 (framed w (among i)) (i * frontier_length w + o) n (omega (arith, laid_before)))

    bytes_here : take (frontier_length w) (drop (i * frontier_length w) (laid i)) ≡ frontier_bytes w (frontier_at w s i)
    unfolding frontier_at
    bytes_here =
        part-sets-after s 0 (framed w (among i)) (i * frontier_length w) (frontier_length w) laid_before
        ∙ sym (frontier_bytes_from w s (i * frontier_length w) b room)

    laid_more : (m : ℕ) → m ≡ length (among i) → t (frontier_at w s i) ≡ true → moved_to w (laid i) i m ≡ laid (i + 1)
    unfolding framed
    laid_more m e h =
        let f = frontier_at w s i in
        let end : m * frontier_length w ≡ 0 + length (framed w (among i)) = rw (e, laid_long) (omega arith) in
        let bytes : framed w (among (i + 1)) ≡ framed w (among i) ++ frontier_bytes w f =
        ap (framed w) (among_next i h)
        ∙ framed-append w (among i) (f ∷ [])
        ∙ ap (λ (l : List ℕ). framed w (among i) ++ l) (append-nil (frontier_bytes w f)) in
        rw (bytes_here, end, bytes) (sets-append s 0 (framed w (among i)) (frontier_bytes w f))

    module _ (m : ℕ) (window : List ℕ) (h : Laid i m window) where
      -- Frontier number i is read as it was;
      pub read_here : frontier_at w window i ≡ frontier_at w s i
      read_here = rw h.bytes same_here

      -- one that passes is laid behind the others;
      pub laid_next : (next : List ℕ) → t (frontier_at w s i) ≡ true → next ≡ moved_to w window i m
          → Laid (i + 1) (m + 1) next
      laid_next next passes e =
          let whole : next ≡ laid (i + 1) = e ∙ rw h.bytes (laid_more m h.number passes) in
          record {
            few = omega (arith, h.few);
            number = rw h.number (sym (one_more i passes));
            long = ap length whole ∙ length-sets s 0 (framed w (among (i + 1)));
            bytes = whole;
          }

      -- one that does not changes nothing.
      pub laid_passed : t (frontier_at w s i) ≡ false → Laid (i + 1) m window
      laid_passed fails = record {
        few = omega (arith, h.few);
        number = h.number ∙ sym (ap length (among_passed i fails));
        long = h.long;
        bytes = h.bytes ∙ sym (ap (λ (gs : List Frontier). sets s 0 (framed w gs)) (among_passed i fails));
      }

  pub laid_none : Laid 0 0 s
  unfolding framed
  laid_none = record {
    few = omega arith;
    number = sym (ap length among_none);
    long = refl;
    bytes = sym (ap (λ (gs : List Frontier). sets s 0 (framed w gs)) among_none);
  }
