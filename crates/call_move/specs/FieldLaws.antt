-- The fields of a record, and the frontiers of a window, are read after a move as they were before it.
use Rattle.std.specs.Prelude.{ℕ, ◌+◌, ◌*◌, ◌≤◌, ◌<◌, ◌≡◌, refl, false, List, length, get_or, take, drop}
use Rattle.std.proofs.Common.{arith, add-zero, zero-add, ◌∙◌, ext_get_or}
use Rattle.std.proofs.Math.Nat.{add-mul, mul_assoc, mul_comm}
use Rattle.std.proofs.Math.Path.{sym, ap}
use Rattle.std.proofs.Math.Seq.{get_or-drop}
use Rattle.codec.specs.Little.{number, value_of}
use Rattle.pactl.specs.declared.Line.{Line}
use Rattle.pactl.specs.Line.{line}
use Rattle.pactl.specs.TableBytes.{line_at, lines_of}
use Rattle.pactl.specs.TableBytesLaws.{get_d_lines_of, length-lines_from}
use Rattle.clocks.specs.Counts.{list_of}
use Rattle.clocks.specs.stored.CountsLaws.{list_of-same}
use Rattle.frontiers.specs.Bytes.{frontier_length, frontier_from, frontier_at}
use Rattle.records.specs.Record.{clocks_place, table_place, pending_place, record_length, line_total, kept_count, taken_counts, last_clocks, table_lines, pending_at}
use Rattle.records.specs.RecordLaws.{event_parts_lem}
use Rattle.call_move.specs.Parts.{record_parts, window_parts}
use Rattle.call_move.specs.PartLengths.{length_of}
use Rattle.call_move.specs.PartLaws.{length-record_parts, length-window_parts}
use Rattle.call_move.specs.PlaceLaws.{part_at, byte_at, number_at}
use Rattle.call_move.specs.StandLaws.{head_stands, taken_stands, clocks_stand, table_stands, mask_stands, clock_stands, labels_stand, counts_stand, rest_stands}
use Rattle.call_move.specs.MoveExact.{SameFields}
use Rattle.call_move.specs.Move.{moved, some_too_large}

-- Lines depend on their own bytes only.
lines_alike : (xs ys : List ℕ) (n : ℕ) → ((j : ℕ) → j < 3 * n → get_or xs j 0 ≡ get_or ys j 0) → lines_of xs n ≡ lines_of ys n
unfolding line_at
lines_alike xs ys n h =
    ext_get_or none (lines_of xs n) (lines_of ys n) (length-lines_from xs n 0 ∙ sym (length-lines_from ys n 0)) same
  where
    none : Line
    none = line 0 0 0

    one : (i : ℕ) → i < n → line_at xs i ≡ line_at ys i
    one i l = rw (h (3 * i) (omega arith), h (3 * i + 1) (omega arith), h (3 * i + 2) (omega arith))

    same : (i : ℕ) → i < length (lines_of xs n) → get_or (lines_of xs n) i none ≡ get_or (lines_of ys n) i none
    same i l =
        let k : i < n = rw (length-lines_from xs n 0) at l in
        get_d_lines_of xs n i none k ∙ one i k ∙ sym (get_d_lines_of ys n i none k)

-- ---- A record

module _ (v w : ℕ) (s : List ℕ) (long : length s ≡ record_length v) (fits : some_too_large v w record_parts s ≡ false)
    (few : line_total s ≤ 64) where
  abbrev t : List ℕ
  t = moved v w record_parts s

  enough : length_of v record_parts ≤ length s
  enough = omega (arith, long, length-record_parts v)

  head : (i : ℕ) → i < 8 → get_or t i 0 ≡ get_or s i 0
  head i l = rw zero-add at (byte_at v w record_parts 8 0 0 s enough (head_stands v w) i l)

  kept_same : kept_count t ≡ kept_count s
  unfolding number
  kept_same = ap value_of (part_at v w record_parts 8 0 0 s enough (head_stands v w) 4 4 (omega arith))

  taken-same : taken_counts w t ≡ taken_counts v s
  unfolding taken_counts
  taken-same =
      list_of-same 8 (λ p. number t (8 + p * w) w) (λ p. number s (8 + p * v) v)
      (λ p l. number_at v w record_parts 8 8 8 s enough (taken_stands v w) fits p l)

  clocks_same : last_clocks w t ≡ last_clocks v s
  unfolding last_clocks
  clocks_same =
      list_of-same 8 (λ p. list_of 8 (λ q. number t (clocks_place w + p * (8 * w) + q * w) w))
      (λ p. list_of 8 (λ q. number s (clocks_place v + p * (8 * v) + q * v) v))
      (λ p l.
      list_of-same 8 (λ q. number t (clocks_place w + p * (8 * w) + q * w) w)
      (λ q. number s (clocks_place v + p * (8 * v) + q * v) v)
      (λ q m.
      rw (place w p q, place v p q)
      (number_at v w record_parts 64 (clocks_place v) (clocks_place w) s enough (clocks_stand v w) fits (8 * p + q)
      (omega arith))))
    where
      place : (u p q : ℕ) → clocks_place u + p * (8 * u) + q * u ≡ clocks_place u + (8 * p + q) * u
      place u p q = omega (arith, add-mul (8 * p) q u, mul_assoc 8 p u, mul_assoc p 8 u, mul_comm p 8)

  table_same : table_lines w t ≡ table_lines v s
  unfolding table_lines
  table_same =
      ap (lines_of (drop (table_place w) t)) (head 1 (omega arith))
      ∙ lines_alike (drop (table_place w) t) (drop (table_place v) s) (line_total s)
      (λ j l.
      get_or-drop (table_place w) t j 0
      ∙ byte_at v w record_parts 192 (table_place v) (table_place w) s enough (table_stands v w) j (omega arith)
      ∙ sym (get_or-drop (table_place v) s j 0))

  -- ---- pending events
  module _ (i : ℕ) (l : i < 32) where
    pending_same : pending_at w t i ≡ pending_at v s i
    pending_same =
        sym (event_parts_lem w i t (pending_place w i) (get_or s (pending_place v i) 0) clock labels refl mask_same clock_same
        labels_same)
        ∙ event_parts_lem v i s (pending_place v i) (get_or s (pending_place v i) 0) clock labels refl refl refl refl
      where
        clock : List ℕ
        clock = list_of 8 (λ p. number s (pending_place v i + 8 + p * v) v)

        labels : List ℕ
        labels = take 8 (drop (pending_place v i + 8 + 8 * v) s)

        mask_same : get_or s (pending_place v i) 0 ≡ get_or t (pending_place w i) 0
        mask_same =
            let here : (u : ℕ) → pending_place u i + 0 + 0 ≡ pending_place u i = λ u. omega arith in
            sym (rw (here w, here v) at (byte_at v w record_parts 8 (pending_place v i + 0) (pending_place w i + 0) s
            enough (mask_stands v w i l) 0 (omega arith)))

        clock_same : clock ≡ list_of 8 (λ p. number t (pending_place w i + 8 + p * w) w)
        clock_same =
            list_of-same 8 (λ p. number s (pending_place v i + 8 + p * v) v)
            (λ p. number t (pending_place w i + 8 + p * w) w)
            (λ p k.
            sym (number_at v w record_parts 8 (pending_place v i + 8) (pending_place w i + 8) s enough
            (clock_stands v w i l) fits p k))

        labels_same : labels ≡ take 8 (drop (pending_place w i + 8 + 8 * w) t)
        labels_same =
            let here : (u : ℕ) → pending_place u i + (8 + 8 * u) + 0 ≡ pending_place u i + 8 + 8 * u = λ u. omega arith in
            sym (rw (here w, here v) at (part_at v w record_parts 8 (pending_place v i + (8 + 8 * v))
            (pending_place w i + (8 + 8 * w)) s enough (labels_stand v w i l) 0 8 (omega arith)))

  pub record_same : SameFields v w s t
  record_same = record {
    processes = head 0 (omega arith);
    lines = head 1 (omega arith);
    pending_number = head 2 (omega arith);
    closed = head 3 (omega arith);
    kept = kept_same;
    taken = taken-same;
    clocks = clocks_same;
    table = table_same;
    pending = pending_same;
  }

-- ---- A window

module _ (v w n : ℕ) (s : List ℕ) (long : length s ≡ n * frontier_length v)
    (fits : some_too_large v w (window_parts n) s ≡ false) (i : ℕ) (l : i < n) where
  abbrev u : List ℕ
  u = moved v w (window_parts n) s

  enough-frontiers : length_of v (window_parts n) ≤ length s
  enough-frontiers = omega (arith, long, length-window_parts v n)

  abbrev from : ℕ
  from = i * frontier_length v

  abbrev to : ℕ
  to = i * frontier_length w

  eight-same : (j : ℕ) → j + 8 ≤ 24 → take 8 (drop (to + 8 * w + j) u) ≡ take 8 (drop (from + 8 * v + j) s)
  eight-same j k =
      part_at v w (window_parts n) 24 (from + 8 * v) (to + 8 * w) s enough-frontiers (rest_stands v w n i l) j 8 k

  labels_alike : take 8 (drop (to + 8 * w) u) ≡ take 8 (drop (from + 8 * v) s)
  labels_alike = simp add-zero at (eight-same 0 (omega arith))

  values_alike : number u (to + 8 * w + 16) 8 ≡ number s (from + 8 * v + 16) 8
  unfolding number
  values_alike = ap value_of (eight-same 16 (omega arith))

  counts-alike : list_of 8 (λ p. number u (to + p * w) w) ≡ list_of 8 (λ p. number s (from + p * v) v)
  counts-alike =
      list_of-same 8 (λ p. number u (to + p * w) w) (λ p. number s (from + p * v) v)
      (λ p k. number_at v w (window_parts n) 8 from to s enough-frontiers (counts_stand v w n i l) fits p k)

  pub frontier_moved : frontier_at w u i ≡ frontier_at v s i
  unfolding frontier_at frontier_from
  frontier_moved = rw (counts-alike, labels_alike, eight-same 8 (omega arith), values_alike)
