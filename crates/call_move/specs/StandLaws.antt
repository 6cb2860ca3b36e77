-- Where the parts of a record and of a window stand in either form.
use Rattle.std.specs.Prelude.{ℕ, suc, ◌+◌, ◌-◌, ◌*◌, ◌<◌, ◌≡◌}
use native.Mathlib.Omega.{arith}
use Rattle.std.proofs.Math.Path.{refl}
use Rattle.std.proofs.Common.{ap, ◌∙◌}
use mathlib.Core.List.{List, [], ◌∷◌, ◌++◌, append_assoc}
use Rattle.frontiers.specs.Bytes.{frontier_length}
use Rattle.records.specs.Record.{clocks_place, table_place, pending_place}
use Rattle.call_move.specs.Parts.{Part, plain, counts, many_of, event_parts, record_parts, frontier_parts, window_parts}
use Rattle.call_move.specs.PartLengths.{part_length, length_of}
use Rattle.call_move.specs.PartLaws.{length_of-append, length_of-repeated, length-event_parts, length-frontier_parts}
use Rattle.call_move.specs.PlaceLaws.{repeated_apart, Stands, stands_at}

-- What stands before the pending events.
length_front : (u : ℕ) → length_of u (plain 8 ∷ counts 8 ∷ counts 64 ∷ plain 192 ∷ []) ≡ 200 + 72 * u
unfolding length_of part_length
length_front u = omega arith

module _ (v w : ℕ) where
  pub head_stands : Stands v w record_parts (plain 8) 0 0
  unfolding length_of
  head_stands = record { before = []; after = _; parts = refl; from = refl; to = refl }

  pub taken_stands : Stands v w record_parts (counts 8) 8 8
  unfolding length_of part_length
  taken_stands = record { before = plain 8 ∷ []; after = _; parts = refl; from = refl; to = refl }

  pub clocks_stand : Stands v w record_parts (counts 64) (clocks_place v) (clocks_place w)
  unfolding length_of part_length
  clocks_stand =
      record { before = plain 8 ∷ counts 8 ∷ []; after = _; parts = refl; from = omega arith; to = omega arith }

  abbrev to_table : List Part
  to_table = plain 8 ∷ counts 8 ∷ counts 64 ∷ []

  pub table_stands : Stands v w record_parts (plain 192) (table_place v) (table_place w)
  unfolding length_of part_length
  table_stands = record { before = to_table; after = _; parts = refl; from = omega arith; to = omega arith }

  -- One of some things of a kind, and one of its parts.
  module _ (first : List Part) (n : ℕ) (kind : List Part) (i : ℕ) (l : i < n) (earlier : List Part) (p : Part)
      (later : List Part) (kind_is : kind ≡ earlier ++ (p ∷ later)) where
    one_stands : Stands v w (first ++ many_of n kind) p
        (length_of v first + i * length_of v kind + length_of v earlier)
        (length_of w first + i * length_of w kind + length_of w earlier)
    one_stands = record {
      before = first ++ (many_of i kind ++ earlier);
      after = later ++ many_of (n - suc i) kind;
      parts =
          let whole : n ≡ i + suc (n - suc i) = omega arith in
          ap (λ (m : ℕ). first ++ many_of m kind) whole
          ∙ ap (λ (ps : List Part). first ++ ps) (repeated_apart i (n - suc i) kind)
          ∙ ap (λ (ps : List Part). first ++ (many_of i kind ++ (ps ++ many_of (n - suc i) kind))) kind_is
          ∙ apart first (many_of i kind) earlier later (many_of (n - suc i) kind);
      from = place v;
      to = place w;
    }
      where
        apart : (a b c d e : List Part) → a ++ (b ++ ((c ++ (p ∷ d)) ++ e)) ≡ (a ++ (b ++ c)) ++ (p ∷ (d ++ e))
        apart a b c d e = simp append_assoc

        place : (u : ℕ)
            → length_of u (first ++ (many_of i kind ++ earlier))
            ≡ length_of u first + i * length_of u kind + length_of u earlier
        place u =
            rw (
              length_of-append u first (many_of i kind ++ earlier),
              length_of-append u (many_of i kind) earlier,
              length_of-repeated u i kind,
            )
            (omega arith)

  -- ---- pending event number i
  module _ (i : ℕ) (l : i < 32) where
    abbrev first : List Part
    first = plain 8 ∷ counts 8 ∷ counts 64 ∷ plain 192 ∷ []

    start : (u : ℕ) (earlier : List Part) (n : ℕ) → length_of u earlier ≡ n
        → length_of u first + i * length_of u event_parts + length_of u earlier ≡ pending_place u i + n
    start u earlier n e = rw (length_front u, length-event_parts u, e)

    pub mask_stands : Stands v w record_parts (plain 8) (pending_place v i + 0) (pending_place w i + 0)
    unfolding length_of
    mask_stands =
        stands_at v w record_parts (plain 8) _ _ _ _ (one_stands first 32 event_parts i l [] (plain 8) _ refl)
        (start v [] 0 refl) (start w [] 0 refl)

    pub clock_stands : Stands v w record_parts (counts 8) (pending_place v i + 8) (pending_place w i + 8)
    unfolding length_of part_length
    clock_stands =
        stands_at v w record_parts (counts 8) _ _ _ _
        (one_stands first 32 event_parts i l (plain 8 ∷ []) (counts 8) _ refl)
        (start v (plain 8 ∷ []) 8 refl) (start w (plain 8 ∷ []) 8 refl)

    pub labels_stand : Stands v w record_parts (plain 8) (pending_place v i + (8 + 8 * v))
        (pending_place w i + (8 + 8 * w))
    unfolding length_of part_length
    labels_stand =
        stands_at v w record_parts (plain 8) _ _ _ _
        (one_stands first 32 event_parts i l (plain 8 ∷ counts 8 ∷ []) (plain 8) _ refl)
        (start v (plain 8 ∷ counts 8 ∷ []) (8 + 8 * v) (omega arith))
        (start w (plain 8 ∷ counts 8 ∷ []) (8 + 8 * w) (omega arith))

  -- ---- frontier number i of n
  module _ (n i : ℕ) (l : i < n) where
    pub counts_stand : Stands v w (window_parts n) (counts 8) (i * frontier_length v) (i * frontier_length w)
    unfolding length_of
    counts_stand =
        stands_at v w (window_parts n) (counts 8) _ _ _ _
        (one_stands [] n frontier_parts i l [] (counts 8) _ refl) (start v) (start w)
      where
        start : (u : ℕ) → 0 + i * length_of u frontier_parts + 0 ≡ i * frontier_length u
        start u = rw (length-frontier_parts u) (omega arith)

    pub rest_stands : Stands v w (window_parts n) (plain 24) (i * frontier_length v + 8 * v)
        (i * frontier_length w + 8 * w)
    unfolding length_of part_length
    rest_stands =
        stands_at v w (window_parts n) (plain 24) _ _ _ _
        (one_stands [] n frontier_parts i l (counts 8 ∷ []) (plain 24) _ refl) (start v) (start w)
      where
        start : (u : ℕ) → 0 + i * length_of u frontier_parts + (8 * u + 0) ≡ i * frontier_length u + 8 * u
        start u = rw (length-frontier_parts u) (omega arith)
