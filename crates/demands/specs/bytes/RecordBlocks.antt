-- The record's bytes as five blocks of fixed lengths: head, taken counts, last clocks, table, pending events.
use Rattle.std.specs.Prelude.{ℕ, ◌+◌, ◌-◌, ◌*◌, ◌^◌, ◌≤◌, ◌<◌, ◌≡◌, refl}
use Rattle.std.proofs.Common.{arith, add-mul, sym, ◌∙◌, length-append}
use Rattle.std.proofs.Math.Decide.{dec_lt}
use mathlib.Core.List.{List, ◌∷◌, ◌++◌, Memᴰ, [], append_assoc}
use Rattle.std.proofs.Math.ListN.{length}
use Rattle.std.proofs.lemmas.List.{length-replicate}
use Rattle.pactl.specs.declared.Line.{Line}
use Rattle.clocks.specs.declared.Event.{Event}
use Rattle.codec.specs.Little.{bytes_of}
use Rattle.codec.specs.LittleLaws.{pow_256_pos, length-bytes_of}
use Rattle.frontiers.specs.ListLaws.{member_place}
use Rattle.frontiers.specs.Bytes.{count_bytes}
use Rattle.pactl.specs.TableLaws.{length-table_bytes}
use Rattle.pactl.specs.Table.{table_bytes}
use Rattle.clocks.specs.Event.{Cut}
use Rattle.clocks.specs.Counts.{at, list_of}
use Rattle.clocks.specs.stored.CountsLaws.{length-list_of, get_d_list_of, at-list_of, at_beyond}
use Rattle.demands.specs.bytes.PlaceLaws.{zeros}
use Rattle.demands.specs.bytes.BlockLaws.{Even, clock_bytes-blocks, events_bytes-blocks, length-blocks}
use Rattle.records.specs.Record.{event_length, event_bytes, events_bytes}
use Rattle.demands.specs.Status.{Status, clock_bytes, record_bytes}
use Rattle.demands.specs.bytes.StoredLaws.{length-counts, length-event_bytes}
use Rattle.demands.specs.bytes.Sized.{Storable}

-- The first eight bytes.
abbrev pub head_bytes : ℕ → ℕ → ℕ → ℕ → ℕ → List ℕ
head_bytes k lines waiting closed kept = k ∷ lines ∷ waiting ∷ closed ∷ bytes_of 4 kept

-- The eight last clocks, as they are stored.
abbrev pub clock_rows : (ℕ → Cut) → List (List ℕ)
clock_rows g = list_of 8 (λ p. list_of 8 (g p))

abbrev pub table_block : List Line → List ℕ
table_block ls = table_bytes ls ++ zeros (192 - 3 * length ls)

abbrev pub pending_block : ℕ → List Event → List ℕ
pending_block w es = events_bytes w es ++ zeros ((32 - length es) * event_length w)

-- What stands before the pending events, where there are so many of them.
abbrev pub front_bytes : ℕ → Status → ℕ → List ℕ
front_bytes w t waiting =
    head_bytes t.processes (length t.table) waiting t.closed t.kept
    ++ count_bytes w (list_of 8 t.counts) ++ clock_bytes w (clock_rows t.clocks) ++ table_block t.table

pub record_bytes-blocks : (w : ℕ) (t : Status)
    → record_bytes w t ≡ front_bytes w t (length t.pending) ++ pending_block w t.pending
unfolding record_bytes
record_bytes-blocks w t = refl

-- What stands before one of the blocks, and what stands behind it.
abbrev pub head_of : Status → List ℕ
head_of t = head_bytes t.processes (length t.table) (length t.pending) t.closed t.kept

abbrev pub before_clocks : ℕ → Status → List ℕ
before_clocks w t = head_of t ++ count_bytes w (list_of 8 t.counts)

abbrev pub before_table : ℕ → Status → List ℕ
before_table w t = before_clocks w t ++ clock_bytes w (clock_rows t.clocks)

abbrev pub after_clocks : ℕ → Status → List ℕ
after_clocks w t = table_block t.table ++ pending_block w t.pending

abbrev pub after_counts : ℕ → Status → List ℕ
after_counts w t = clock_bytes w (clock_rows t.clocks) ++ after_clocks w t

abbrev pub after_head : ℕ → Status → List ℕ
after_head w t = count_bytes w (list_of 8 t.counts) ++ after_counts w t

-- Lists side by side, the first of them apart.
first_apart : (h c k b p : List ℕ) → h ++ c ++ k ++ b ++ p ≡ h ++ (c ++ (k ++ (b ++ p)))
first_apart h c k b p = simp append_assoc

module _ (w : ℕ) (t : Status) where
  pub kept_split : record_bytes w t ≡ (t.processes ∷ length t.table ∷ length t.pending ∷ t.closed ∷ [])
      ++ (bytes_of 4 t.kept ++ after_head w t)
  unfolding record_bytes
  kept_split = first_apart (head_of t) _ _ _ _

  pub counts_split : record_bytes w t ≡ head_of t ++ (count_bytes w (list_of 8 t.counts) ++ after_counts w t)
  unfolding record_bytes
  counts_split = first_apart (head_of t) _ _ _ _

  pub clocks_split : record_bytes w t ≡ before_clocks w t ++ (clock_bytes w (clock_rows t.clocks) ++ after_clocks w t)
  unfolding record_bytes
  clocks_split =
      apart (before_clocks w t) (clock_bytes w (clock_rows t.clocks)) (table_block t.table)
      (pending_block w t.pending)
    where
      apart : (h k b p : List ℕ) → h ++ k ++ b ++ p ≡ h ++ (k ++ (b ++ p))
      apart h k b p = simp append_assoc

  pub table_split : record_bytes w t ≡ before_table w t
      ++ (table_bytes t.table ++ (zeros (192 - 3 * length t.table) ++ pending_block w t.pending))
  unfolding record_bytes
  table_split =
      apart (before_table w t) (table_bytes t.table) (zeros (192 - 3 * length t.table))
      (pending_block w t.pending)
    where
      apart : (h b z p : List ℕ) → h ++ (b ++ z) ++ p ≡ h ++ (b ++ (z ++ p))
      apart h b z p = simp append_assoc

-- ---- Lengths

pub length-head_bytes : (k lines waiting closed kept : ℕ) → length (head_bytes k lines waiting closed kept) ≡ 8
length-head_bytes k lines waiting closed kept = rw (length-bytes_of 4 kept)

pub length-head_of : (t : Status) → length (head_of t) ≡ 8
length-head_of t = length-head_bytes t.processes (length t.table) (length t.pending) t.closed t.kept

-- A member of the list of a function's values is one of them.
pub member_list_of : {A : Type 0} (n : ℕ) (f : ℕ → A) (x : A) → Memᴰ x (list_of n f) → (p : ℕ) × (p < n) × (x ≡ f p)
member_list_of n f x m =
    let r = member_place (list_of n f) x x m in
    let l : r.0 < n = rw (length-list_of n f) at r.1 in
    (r.0, l, sym r.2 ∙ get_d_list_of n f r.0 x l)

-- Values that fit, fit as a list of counts.
pub fit_list_of : (w n : ℕ) (f : ℕ → ℕ) → ((p : ℕ) → f p < 256 ^ w) → (p : ℕ) → at (list_of n f) p < 256 ^ w
fit_list_of w n f h p = go (dec_lt p n)
  where
    go : Dec (p < n) → at (list_of n f) p < 256 ^ w
    go (yes l) = rw (at-list_of n f p l) (h p)
    go (no l) = rw (at_beyond (list_of n f) p (rw (length-list_of n f) (omega arith))) (pow_256_pos w)

pub length-eight : (w : ℕ) (f : ℕ → ℕ) → length (count_bytes w (list_of 8 f)) ≡ 8 * w
length-eight w f = length-counts w (list_of 8 f) (length-list_of 8 f)

pub even_clocks : (w : ℕ) (g : ℕ → Cut) → Even (count_bytes w) (8 * w) (clock_rows g)
even_clocks w g c m =
    let r = member_list_of 8 (λ p. list_of 8 (g p)) c m in
    rw r.2 (length-eight w (g r.0))

pub length_clocks : (w : ℕ) (g : ℕ → Cut) → length (clock_bytes w (clock_rows g)) ≡ 64 * w
length_clocks w g =
    rw (
      clock_bytes-blocks w (clock_rows g),
      length-blocks (count_bytes w) (8 * w) (clock_rows g) (even_clocks w g),
      length-list_of 8 (λ p. list_of 8 (g p)),
    )
    (omega arith)

pub length-table_block : (ls : List Line) → length ls ≤ 64 → length (table_block ls) ≡ 192
length-table_block ls h = rw (length-append, length-table_bytes ls, length-replicate) (omega arith)

-- Each of some events can be stored.
abbrev pub AllStorable : ℕ → List Event → Type 0
AllStorable w es = (e : Event) → Memᴰ e es → Storable w e

pub even_pending : (w : ℕ) (es : List Event) → AllStorable w es → Even (event_bytes w) (event_length w) es
even_pending w es h e m = length-event_bytes w e (h e m)

pub length-events_bytes : (w : ℕ) (es : List Event) → AllStorable w es
    → length (events_bytes w es) ≡ length es * event_length w
length-events_bytes w es h =
    rw (events_bytes-blocks w es) (length-blocks (event_bytes w) (event_length w) es (even_pending w es h))

pub length-pending_block : (w : ℕ) (es : List Event) → length es ≤ 32 → AllStorable w es
    → length (pending_block w es) ≡ 32 * event_length w
length-pending_block w es few h =
    let whole : length es + (32 - length es) ≡ 32 = omega arith in
    rw (
      length-append,
      length-events_bytes w es h,
      length-replicate,
      ← add-mul (length es) (32 - length es) (event_length w),
      whole,
    )

pub length-front_bytes : (w : ℕ) (t : Status) (waiting : ℕ) → length t.table ≤ 64
    → length (front_bytes w t waiting) ≡ 200 + 72 * w
length-front_bytes w t waiting short =
    length_four (head_bytes t.processes (length t.table) waiting t.closed t.kept)
    (count_bytes w (list_of 8 t.counts)) (clock_bytes w (clock_rows t.clocks)) (table_block t.table)
    ∙ rw (
      length-head_bytes t.processes (length t.table) waiting t.closed t.kept,
      length-eight w t.counts,
      length_clocks w t.clocks,
      length-table_block t.table short,
    )
    (omega arith)
  where
    length_four : (h c k b : List ℕ) → length (h ++ c ++ k ++ b) ≡ length h + length c + length k + length b
    length_four h c k b = simp length-append

pub length-before_clocks : (w : ℕ) (t : Status) → length (before_clocks w t) ≡ 8 + 8 * w
length-before_clocks w t =
    rw (length-append, length-head_of t, length-eight w t.counts)

pub length-before_table : (w : ℕ) (t : Status) → length (before_table w t) ≡ 8 + 72 * w
length-before_table w t = rw (length-append, length-before_clocks w t, length_clocks w t.clocks) (omega arith)
