-- Records that can be stored: what the calls lead to can be stored again, and different records have different bytes.
use Rattle.std.specs.Prelude.{ℕ, ◌^◌, ◌≤◌, ◌<◌, ◌≡◌, Bool, true, false, cond, ◌⊎◌, length}
use Rattle.std.proofs.Common.{arith, sym, ap, ◌∙◌, inl, inr, lit<, lit≤}
use mathlib.Core.List.Memᴰ
use mathlib.Core.List.{List, Memᴰ}
use Rattle.clocks.specs.declared.Event.{Event}
use Rattle.clocks.specs.Event.{count, involved, apply}
use Rattle.clocks.specs.Counts.{list_of}
use Rattle.pactl.specs.declared.Line.{Line}
use Rattle.codec.specs.Little.{Bytes}
use Rattle.codec.specs.LittleLaws.{pow_256_pos}
use Rattle.pactl.specs.Table.{table_bytes}
use Rattle.demands.specs.bytes.InsertLaws.{length-insert_at, member_insert_at, length-remove_at, member_remove_at}
use Rattle.records.specs.Record.{process_count, closed_mask, kept_count, taken_counts, last_clocks, table_lines, pending_events}
use Rattle.demands.specs.bytes.RecordBlocks.{clock_rows, AllStorable}
use Rattle.demands.specs.bytes.PendingLaws.{pending_events-record_bytes}
use Rattle.demands.specs.bytes.SetterLaws.{record_bytes-same}
use Rattle.demands.specs.Status.{Status, record_bytes, insert_at, remove_at}
use Rattle.demands.specs.bytes.RecordLaws.{process_count-record_bytes, closed_mask-record_bytes, table_lines-record_bytes, kept_count-record_bytes, taken_counts-record_bytes, last_clocks-record_bytes}
use Rattle.demands.specs.bytes.Sized.{Storable, Sized, with_pending, with_taken, first_status}

-- Two records with the same bytes have the same stored fields.
pub record Alike (t u : Status) : Type 0 where
  pub processes_same : t.processes ≡ u.processes
  pub table_same : t.table ≡ u.table
  pub closed_same : t.closed ≡ u.closed
  pub kept_same : t.kept ≡ u.kept
  pub counts_same : list_of 8 t.counts ≡ list_of 8 u.counts
  pub clocks_same : clock_rows t.clocks ≡ clock_rows u.clocks
  pub pending_same : t.pending ≡ u.pending

pub record_bytes-alike : (w : ℕ) (t u : Status) → Alike t u → record_bytes w t ≡ record_bytes w u
record_bytes-alike w t u a =
    record_bytes-same w t u a.processes_same a.table_same a.closed_same a.kept_same a.counts_same
    a.clocks_same a.pending_same

pub record_bytes_injective : (w : ℕ) (t u : Status) → Sized w t → Sized w u → record_bytes w t ≡ record_bytes w u
    → Alike t u
record_bytes_injective w t u y z e = record {
  processes_same = sym (process_count-record_bytes w t) ∙ ap process_count e ∙ process_count-record_bytes w u;
  table_same = sym (table_lines-record_bytes w t) ∙ ap (table_lines w) e ∙ table_lines-record_bytes w u;
  closed_same = sym (closed_mask-record_bytes w t) ∙ ap closed_mask e ∙ closed_mask-record_bytes w u;
  kept_same = sym (kept_count-record_bytes w t y) ∙ ap kept_count e ∙ kept_count-record_bytes w u z;
  counts_same = sym (taken_counts-record_bytes w t y) ∙ ap (taken_counts w) e ∙ taken_counts-record_bytes w u z;
  clocks_same = sym (last_clocks-record_bytes w t y) ∙ ap (last_clocks w) e ∙ last_clocks-record_bytes w u z;
  pending_same = sym (pending_events-record_bytes w t y) ∙ ap (pending_events w) e ∙ pending_events-record_bytes w u z;
}

-- ---- What the calls lead to

-- The counts of an event that can be stored.
pub count_fits : (w : ℕ) (e : Event) → Storable w e → (q : ℕ) → count e q < 256 ^ w
unfolding count
count_fits w e s q = s.counts_fit q

module _ (w : ℕ) (t : Status) (z : Sized w t) where
  -- Other pending events.
  pub sized_with_pending : (es : List Event) → length es ≤ 32 → AllStorable w es → Sized w (with_pending t es)
  sized_with_pending es few h = record {
    processes_fit = z.processes_fit;
    short = z.short;
    line_bytes = z.line_bytes;
    closed_fits = z.closed_fits;
    kept_fits = z.kept_fits;
    counts_fit = z.counts_fit;
    clocks_fit = z.clocks_fit;
    few = few;
    storable = h;
  }

  pub sized_inserted : (i : ℕ) (e : Event) → length t.pending < 32 → Storable w e
      → Sized w (with_pending t (insert_at i e t.pending))
  sized_inserted i e free s =
      sized_with_pending (insert_at i e t.pending) (omega (arith, length-insert_at i e t.pending))
      (λ f m. go f ((member_insert_at i e t.pending f).0 m))
    where
      go : (f : Event) → (f ≡ e) ⊎ Memᴰ f t.pending → Storable w f
      go f (inl q) = rw q s
      go f (inr m) = z.storable f m

  pub sized_removed : (i : ℕ) → i < length t.pending → Sized w (with_pending t (remove_at i t.pending))
  sized_removed i l =
      sized_with_pending (remove_at i t.pending) (omega (arith, length-remove_at i t.pending l, z.few))
      (λ f m. z.storable f ((member_remove_at i t.pending f f l).1 (inr m)))

  pub sized_taken : (e : Event) (kept : ℕ) → Storable w e → kept < 4294967296
      → ((p : ℕ) → apply e t.counts p < 256 ^ w) → Sized w (with_taken t e kept)
  sized_taken e kept s k fit = record {
    processes_fit = z.processes_fit;
    short = z.short;
    line_bytes = z.line_bytes;
    closed_fits = z.closed_fits;
    kept_fits = k;
    counts_fit = fit;
    clocks_fit = λ p q. go p q (involved e p);
    few = z.few;
    storable = z.storable;
  }
    where
      go : (p q : ℕ) (b : Bool) → cond b (count e) (t.clocks p) q < 256 ^ w
      go p q true = count_fits w e s q
      go p q false = z.clocks_fit p q

-- A new watch.
pub sized_first : (w k : ℕ) (ls : List Line) → k < 256 → length ls ≤ 64 → Bytes (table_bytes ls)
    → Sized w (first_status k ls)
sized_first w k ls few short h = record {
  processes_fit = few;
  short = short;
  line_bytes = h;
  closed_fits = lit< tt;
  kept_fits = lit< tt;
  counts_fit = λ p. pow_256_pos w;
  clocks_fit = λ p q. pow_256_pos w;
  few = lit≤ tt;
  storable = λ e m. absurd (Memᴰ.not-nil m);
}
