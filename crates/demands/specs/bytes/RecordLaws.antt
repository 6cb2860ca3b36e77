-- A record that can be stored comes back from its bytes: laws of `record_bytes` and the record's fields, over the width.
use Prim.Native.Nat.{ℕ, ◌+◌, ◌-◌, ◌*◌, ◌<◌, suc}
use Rattle.std.proofs.Common.{arith, ◌∙◌, length-append}
use Rattle.std.specs.Prelude.{◌≡◌, take}
use Rattle.std.proofs.Math.Path.{refl}
use mathlib.Core.List.{List, [], ◌∷◌, ◌++◌}
use Rattle.std.proofs.Math.ListN.{length, drop}
use Rattle.std.proofs.Math.Seq.{take_at, drop_at}
use Rattle.codec.specs.Little.{bytes_of, number, Bytes}
use Rattle.codec.specs.LittleLaws.{length-bytes_of, value_of-bytes_of, Bytes-bytes_of}
use Rattle.pactl.specs.TableBytesLaws.{lines_of-table_bytes}
use Rattle.pactl.specs.Table.{table_bytes}
use Rattle.clocks.specs.Counts.{list_of}
use Rattle.clocks.specs.stored.CountsLaws.{length-list_of, list_of-same, get_d_list_of}
use Rattle.frontiers.specs.Bytes.{count_bytes}
use Rattle.demands.specs.bytes.PlaceLaws.{numbers_count_bytes, zeros, Bytes-append, Bytes-zeros, Bytes-count_bytes, Bytes_cons}
use Rattle.records.specs.Record.{clocks_place, table_place, record_length, process_count, line_total, pending_count, closed_mask, kept_count, taken_counts, last_clocks, table_lines, event_length, event_bytes, events_bytes}
use Rattle.demands.specs.bytes.RecordBlocks.{clock_rows, pending_block, record_bytes-blocks, head_of, before_table, after_counts, after_head, kept_split, counts_split, table_split, fit_list_of, length-pending_block, length-front_bytes, length-before_table, before_clocks, after_clocks, table_block, front_bytes, clocks_split, length-head_of, even_clocks, length-before_clocks}
use Rattle.demands.specs.Status.{Status, record_bytes, clock_bytes}
use Rattle.demands.specs.bytes.BlockLaws.{blocks, clock_bytes-blocks, events_bytes-blocks, Bytes-blocks, block_apart, length_before}
use Rattle.demands.specs.bytes.StoredLaws.{Bytes-event_bytes}
use Rattle.demands.specs.bytes.Sized.{Sized}

module _ (w : ℕ) (t : Status) where
  pub process_count-record_bytes : process_count (record_bytes w t) ≡ t.processes
  unfolding record_bytes
  process_count-record_bytes = refl

  pub line_total-record_bytes : line_total (record_bytes w t) ≡ length t.table
  unfolding record_bytes
  line_total-record_bytes = refl

  pub pending_count-record_bytes : pending_count (record_bytes w t) ≡ length t.pending
  unfolding record_bytes
  pending_count-record_bytes = refl

  pub closed_mask-record_bytes : closed_mask (record_bytes w t) ≡ t.closed
  unfolding record_bytes
  closed_mask-record_bytes = refl

  pub table_lines-record_bytes : table_lines w (record_bytes w t) ≡ t.table
  unfolding table_lines
  table_lines-record_bytes =
      let behind : List ℕ = zeros (192 - 3 * length t.table) ++ pending_block w t.pending in
      let there : drop (table_place w) (record_bytes w t) ≡ table_bytes t.table ++ behind =
      rw (table_split w t)
      (drop_at (before_table w t) (table_bytes t.table ++ behind) (table_place w) (length-before_table w t)) in
      rw (there, line_total-record_bytes) (lines_of-table_bytes t.table behind)

module _ (w : ℕ) (t : Status) (z : Sized w t) where
  pub length-record_bytes : length (record_bytes w t) ≡ record_length w
  length-record_bytes = rw (
    record_bytes-blocks w t,
    length-append,
    length-front_bytes w t (length t.pending) z.short,
    length-pending_block w t.pending z.few z.storable,
  )

  pub kept_count-record_bytes : kept_count (record_bytes w t) ≡ t.kept
  unfolding number
  kept_count-record_bytes =
      let first : List ℕ = t.processes ∷ length t.table ∷ length t.pending ∷ t.closed ∷ [] in
      rw (
        kept_split w t,
        drop_at first (bytes_of 4 t.kept ++ after_head w t) 4 refl,
        take_at (bytes_of 4 t.kept) (after_head w t) 4 (length-bytes_of 4 t.kept),
      )
      (value_of-bytes_of 4 t.kept z.kept_fits)

  pub taken_counts-record_bytes : taken_counts w (record_bytes w t) ≡ list_of 8 t.counts
  unfolding taken_counts
  taken_counts-record_bytes =
      rw (counts_split w t)
      (numbers_count_bytes w (list_of 8 t.counts) (head_of t) (after_counts w t) 8 8 (length-head_of t)
      (length-list_of 8 t.counts) (fit_list_of w 8 t.counts z.counts_fit))

  pub last_clocks-record_bytes : last_clocks w (record_bytes w t) ≡ clock_rows t.clocks
  unfolding last_clocks
  last_clocks-record_bytes = list_of-same 8 (λ p. list_of 8 (λ q. number s (clocks_place w + p * (8 * w) + q * w) w)) row one
    where
      s : List ℕ
      s = record_bytes w t

      row : ℕ → List ℕ
      row p = list_of 8 (t.clocks p)

      clocks : List (List ℕ)
      clocks = clock_rows t.clocks

      place : (p : ℕ) → p < 8
          → s ≡ (before_clocks w t ++ blocks (count_bytes w) (take p clocks))
          ++ (count_bytes w (row p) ++ (blocks (count_bytes w) (drop (suc p) clocks) ++ after_clocks w t))
      place p l =
          clocks_split w t
          ∙ rw (clock_bytes-blocks w clocks, ← get_d_list_of 8 row p [] l)
          (block_apart (count_bytes w) clocks p [] (rw (length-list_of 8 row) l) (before_clocks w t) (after_clocks w t))

      start : (p : ℕ) → p < 8
          → length (before_clocks w t ++ blocks (count_bytes w) (take p clocks)) ≡ clocks_place w + p * (8 * w)
      start p l =
          length_before (count_bytes w) (8 * w) clocks (even_clocks w t.clocks) p
          (rw (length-list_of 8 row) (omega arith)) (before_clocks w t) (clocks_place w) (length-before_clocks w t)

      one : (p : ℕ) → p < 8 → list_of 8 (λ q. number s (clocks_place w + p * (8 * w) + q * w) w) ≡ row p
      one p l =
          rw (place p l)
          (numbers_count_bytes w (row p) (before_clocks w t ++ blocks (count_bytes w) (take p clocks))
          (blocks (count_bytes w) (drop (suc p) clocks) ++ after_clocks w t) (clocks_place w + p * (8 * w)) 8 (start p l)
          (length-list_of 8 (t.clocks p)) (fit_list_of w 8 (t.clocks p) (z.clocks_fit p)))

  pub Bytes-record_bytes : Bytes (record_bytes w t)
  unfolding record_bytes
  Bytes-record_bytes =
      Bytes-append (front_bytes w t (length t.pending)) (pending_block w t.pending)
      (Bytes-append (before_table w t) (table_block t.table)
      (Bytes-append (before_clocks w t) (clock_bytes w (clock_rows t.clocks))
      (Bytes-append (head_of t) (count_bytes w (list_of 8 t.counts)) Bytes-head
      (Bytes-count_bytes w (list_of 8 t.counts)))
      (rw (clock_bytes-blocks w (clock_rows t.clocks))
      (Bytes-blocks (count_bytes w) (clock_rows t.clocks) (λ c m. Bytes-count_bytes w c))))
      (Bytes-append (table_bytes t.table) (zeros (192 - 3 * length t.table)) z.line_bytes
      (Bytes-zeros (192 - 3 * length t.table))))
      (Bytes-append (events_bytes w t.pending) (zeros ((32 - length t.pending) * event_length w))
      (rw (events_bytes-blocks w t.pending)
      (Bytes-blocks (event_bytes w) t.pending (λ e m. Bytes-event_bytes w e (z.storable e m))))
      (Bytes-zeros ((32 - length t.pending) * event_length w)))
    where
      lines_fit : length t.table < 256
      lines_fit = omega (arith, z.short)

      pending_fit : length t.pending < 256
      pending_fit = omega (arith, z.few)

      Bytes-head : Bytes (head_of t)
      Bytes-head =
          Bytes_cons t.processes
          (length t.table ∷ length t.pending ∷ t.closed ∷ bytes_of 4 t.kept) z.processes_fit
          (Bytes_cons (length t.table) (length t.pending ∷ t.closed ∷ bytes_of 4 t.kept) lines_fit
          (Bytes_cons (length t.pending) (t.closed ∷ bytes_of 4 t.kept) pending_fit
          (Bytes_cons t.closed (bytes_of 4 t.kept) z.closed_fits (Bytes-bytes_of 4 t.kept))))
