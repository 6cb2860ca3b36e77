-- What the calls store in a record's bytes is the record that they lead to: kept frontiers, counts and clocks, and a
-- new watch.
use Rattle.std.specs.Prelude.{ℕ, ◌+◌, ◌*◌, ◌≤◌, ◌<◌, zero, suc, ◌-◌, ◌≡◌, List, [], ◌∷◌, ◌++◌, ◌≢◌, Bool, true, false, cond, get_or, set, ltb}
use Rattle.std.proofs.Common.{arith, zero-mul, suc-mul, ◌∙◌, ap, append_assoc, length-set, get_or-set_same, get_or-set_other, lit≤, lt-ltb, le-ltb}
use Rattle.std.proofs.Math.Decide.{ℕ_discrete, dec_lt}
use Rattle.std.proofs.Math.Path.{refl, sym, fun_ext}
use Rattle.std.proofs.Math.ListN.{length}
use Rattle.std.proofs.lemmas.List.Edits.{sets}
use Rattle.codec.specs.Little.{bytes_of, put}
use Rattle.codec.specs.LittleLaws.{length-bytes_of}
use Rattle.frontiers.specs.BytesLaws.{count-within, count_bytes-zeros}
use Rattle.frontiers.specs.Bytes.{count_bytes}
use Rattle.clocks.specs.Event.{Cut, count, involved, apply}
use Rattle.clocks.specs.Counts.{list_of, at}
use Rattle.clocks.specs.stored.CountsLaws.{length-list_of, get_d_list_of, filled, list_of-same, at-list_of, list_of-at}
use Rattle.pactl.specs.declared.Line.{Line}
use Rattle.clocks.specs.declared.Event.{Event}
use Rattle.pactl.specs.TableLaws.{length-table_bytes}
use Rattle.pactl.specs.Table.{table_bytes}
use Rattle.demands.specs.bytes.PlaceLaws.{sets_over, sets_inside, zeros, zeros-add}
use Rattle.demands.specs.bytes.BlockLaws.{clock_bytes-blocks, blocks-set}
use Rattle.records.specs.Record.{taken_place, clocks_place, closed_set, clocks_set, counted, event_length, events_bytes}
use Rattle.demands.specs.bytes.RecordBlocks.{clock_rows, head_of, before_clocks, after_clocks, after_counts, after_head, kept_split, counts_split, clocks_split, length-head_of, length-eight, even_clocks, length_clocks, length-before_clocks, head_bytes}
use Rattle.demands.specs.Status.{Status, clock_bytes, record_bytes}
use Rattle.demands.specs.bytes.StoredLaws.{length-counts}
use Rattle.call_open.specs.Open.{first_record}
use Rattle.demands.specs.bytes.RecordLaws.{taken_counts-record_bytes}
use Rattle.demands.specs.bytes.Sized.{Sized, with_closed, with_taken, first_status}

-- ---- Records with the same stored fields have the same bytes

pub record_bytes-same : (w : ℕ) (t u : Status)
    → t.processes ≡ u.processes → t.table ≡ u.table → t.closed ≡ u.closed → t.kept ≡ u.kept
    → list_of 8 t.counts ≡ list_of 8 u.counts → clock_rows t.clocks ≡ clock_rows u.clocks
    → t.pending ≡ u.pending → record_bytes w t ≡ record_bytes w u
unfolding record_bytes
record_bytes-same w t u k l x f c g p = rw (k, l, x, f, c, g, p)

-- ---- One field stored

abbrev with_kept : Status → ℕ → Status
with_kept t n = record {
  processes = t.processes;
  table = t.table;
  closed = t.closed;
  kept = n;
  counts = t.counts;
  clocks = t.clocks;
  pending = t.pending;
}

abbrev with_counts : Status → Cut → Status
with_counts t f = record {
  processes = t.processes;
  table = t.table;
  closed = t.closed;
  kept = t.kept;
  counts = f;
  clocks = t.clocks;
  pending = t.pending;
}

abbrev with_clocks : Status → (ℕ → Cut) → Status
with_clocks t g = record {
  processes = t.processes;
  table = t.table;
  closed = t.closed;
  kept = t.kept;
  counts = t.counts;
  clocks = g;
  pending = t.pending;
}

module _ (w : ℕ) (t : Status) where
  put_kept : (n : ℕ) → put (record_bytes w t) 4 4 n ≡ record_bytes w (with_kept t n)
  unfolding put
  put_kept n =
      rw (kept_split w t, kept_split w (with_kept t n))
      (sets_over (t.processes ∷ length t.table ∷ length t.pending ∷ t.closed ∷ []) (bytes_of 4 t.kept)
      (after_head w t) 4 refl (bytes_of 4 n) (length-bytes_of 4 n ∙ sym (length-bytes_of 4 t.kept)))

  sets-counts : (f : Cut)
      → sets (record_bytes w t) taken_place (count_bytes w (list_of 8 f)) ≡ record_bytes w (with_counts t f)
  sets-counts f =
      rw (counts_split w t, counts_split w (with_counts t f))
      (sets_over (head_of t) (count_bytes w (list_of 8 t.counts)) (after_counts w t) 8 (length-head_of t)
      (count_bytes w (list_of 8 f)) (length-eight w f ∙ sym (length-eight w t.counts)))

  -- The clock of process p, the others left.
  sets_clock : (p : ℕ) (c : List ℕ) (g : ℕ → Cut) → p < 8 → length c ≡ 8 → c ≡ list_of 8 (g p)
      → ((q : ℕ) → q < 8 → q ≢ p → list_of 8 (t.clocks q) ≡ list_of 8 (g q))
      → sets (record_bytes w t) (clocks_place w + p * (8 * w)) (count_bytes w c) ≡ record_bytes w (with_clocks t g)
  sets_clock p c g l eight here elsewhere =
      rw (clocks_split w t, clocks_split w (with_clocks t g))
      (sets_inside (before_clocks w t) (clock_bytes w old) (after_clocks w t) (8 + 8 * w) (length-before_clocks w t)
      (p * (8 * w)) (count_bytes w c) within
      ∙ ap (λ (l : List ℕ). before_clocks w t ++ (l ++ after_clocks w t)) inside)
    where
      old : List (List ℕ)
      old = clock_rows t.clocks

      eight-old : length old ≡ 8
      eight-old = length-list_of 8 (λ q. list_of 8 (t.clocks q))

      in_old : p < length old
      in_old = omega (arith, eight-old)

      within : p * (8 * w) + length (count_bytes w c) ≤ length (clock_bytes w old)
      within = rw (length-counts w c eight, length_clocks w t.clocks) (omega (arith, count-within p 8 (8 * w) l))

      new : set old p c ≡ clock_rows g
      new =
          filled 8 (λ q. list_of 8 (g q)) [] (set old p c) (length-set old p c ∙ eight-old)
          (λ q m. go q m (ℕ_discrete q p))
        where
          go : (q : ℕ) → q < 8 → Dec (q ≡ p) → get_or (set old p c) q [] ≡ list_of 8 (g q)
          go q m (yes e) = rw e (get_or-set_same old p c [] in_old ∙ here)
          go q m (no n) =
              get_or-set_other old p q c [] n ∙ get_d_list_of 8 (λ r. list_of 8 (t.clocks r)) q [] m ∙ elsewhere q m n

      inside : sets (clock_bytes w old) (p * (8 * w)) (count_bytes w c) ≡ clock_bytes w (clock_rows g)
      inside =
          rw (clock_bytes-blocks w old, clock_bytes-blocks w (clock_rows g), ← new)
          (blocks-set (count_bytes w) (8 * w) old (even_clocks w t.clocks) p c in_old (length-counts w c eight))

-- ---- A process closed

pub closed_set-record_bytes : (w : ℕ) (t : Status) (closed kept : ℕ)
    → closed_set (record_bytes w t) closed kept ≡ record_bytes w (with_closed t closed kept)
unfolding closed_set
closed_set-record_bytes w t closed kept = rw (one, put_kept w (with_closed t closed t.kept) kept)
  where
    one : set (record_bytes w t) 3 closed ≡ record_bytes w (with_closed t closed t.kept)
    one = unfold record_bytes in refl

-- ---- An event taken

-- The last clocks when the event's clock is laid down for its processes below n.
abbrev clocks_below : Status → Event → ℕ → ℕ → Cut
clocks_below t e n q = cond (ltb q n) (cond (involved e q) (count e) (t.clocks q)) (t.clocks q)

clocks_below-within : (t : Status) (e : Event) (n q : ℕ) → q < n
    → clocks_below t e n q ≡ cond (involved e q) (count e) (t.clocks q)
clocks_below-within t e n q l = rw (lt-ltb q n l)

clocks_below_beyond : (t : Status) (e : Event) (n q : ℕ) → n ≤ q → clocks_below t e n q ≡ t.clocks q
clocks_below_beyond t e n q l = rw (le-ltb q n l)

-- One process more changes nothing elsewhere.
clocks_below_elsewhere : (t : Status) (e : Event) (p q : ℕ) → q ≢ p → clocks_below t e p q ≡ clocks_below t e (suc p) q
clocks_below_elsewhere t e p q n = go (dec_lt q p)
  where
    go : Dec (q < p) → clocks_below t e p q ≡ clocks_below t e (suc p) q
    go (yes l) = clocks_below-within t e p q l ∙ sym (clocks_below-within t e (suc p) q (omega arith))
    go (no l) = clocks_below_beyond t e p q (omega arith) ∙ sym (clocks_below_beyond t e (suc p) q (omega arith))

eight-counts-same : (e : Event) → length e.clock ≡ 8 → e.clock ≡ list_of 8 (count e)
unfolding count
eight-counts-same e h = sym (list_of-at 8 e.clock h)

clocks_set-record_bytes : (w : ℕ) (t : Status) (e : Event) → length e.clock ≡ 8 → (n : ℕ) → n ≤ 8
    → clocks_set w n (record_bytes w t) e ≡ record_bytes w (with_clocks t (clocks_below t e n))
unfolding clocks_set
clocks_set-record_bytes w t e eight zero l =
    ap (λ (g : ℕ → Cut). record_bytes w (with_clocks t g)) (fun_ext (λ q. sym (clocks_below_beyond t e 0 q (omega arith))))
clocks_set-record_bytes w t e eight (suc p) l =
    rw (clocks_set-record_bytes w t e eight p (omega arith)) (go (involved e p) refl)
  where
    s : List ℕ
    s = record_bytes w (with_clocks t (clocks_below t e p))

    go : (b : Bool) → involved e p ≡ b
        → cond b (sets s (clocks_place w + p * (8 * w)) (count_bytes w e.clock)) s
        ≡ record_bytes w (with_clocks t (clocks_below t e (suc p)))
    go true h =
        sets_clock w (with_clocks t (clocks_below t e p)) p e.clock (clocks_below t e (suc p)) l eight
        (eight-counts-same e eight ∙ ap (list_of 8) (sym (clocks_below-within t e (suc p) p (omega arith) ∙ rw h)))
        (λ q m n. ap (list_of 8) (clocks_below_elsewhere t e p q n))
    go false h = ap (λ (g : ℕ → Cut). record_bytes w (with_clocks t g)) (fun_ext (λ q. one q (ℕ_discrete q p)))
      where
        one : (q : ℕ) → Dec (q ≡ p) → clocks_below t e p q ≡ clocks_below t e (suc p) q
        one q (yes m) = rw m
            (clocks_below_beyond t e p p (omega arith) ∙ sym (clocks_below-within t e (suc p) p (omega arith) ∙ rw h))
        one q (no m) = clocks_below_elsewhere t e p q m

-- The counts with the event, of the stored counts and of the counts themselves.
applied_list_of : (e : Event) (f : Cut) → list_of 8 (apply e (at (list_of 8 f))) ≡ list_of 8 (apply e f)
unfolding apply
applied_list_of e f = list_of-same 8 (apply e (at (list_of 8 f))) (apply e f) (λ p l. rw (at-list_of 8 f p l))

pub counted-record_bytes : (w : ℕ) (t : Status) → Sized w t → (e : Event) (kept : ℕ) → length e.clock ≡ 8
    → counted w (record_bytes w t) e kept ≡ record_bytes w (with_taken t e kept)
unfolding counted
counted-record_bytes w t z e kept eight =
    rw (
      taken_counts-record_bytes w t z,
      applied_list_of e t.counts,
      put_kept w t kept,
      sets-counts w (with_kept t kept) (apply e t.counts),
      clocks_set-record_bytes w (with_counts (with_kept t kept) (apply e t.counts)) e eight 8 (lit≤ tt),
    )
    (record_bytes-same w (with_clocks (with_counts (with_kept t kept) (apply e t.counts)) (clocks_below t e 8))
    (with_taken t e kept) refl refl refl refl refl
    (list_of-same 8 (λ p. list_of 8 (clocks_below t e 8 p)) (λ p. list_of 8 (cond (involved e p) (count e) (t.clocks p)))
    (λ p l. ap (list_of 8) (clocks_below-within t e 8 p l))) refl)

-- ---- A new watch

clocks_zeros : (w n : ℕ) → clock_bytes w (list_of n (λ p. list_of 8 (λ q. 0))) ≡ zeros (n * (8 * w))
unfolding clock_bytes list_of
clocks_zeros w zero = rw zero-mul
clocks_zeros w (suc n) =
    let far : suc n * (8 * w) ≡ 8 * w + n * (8 * w) = omega (arith, suc-mul n (8 * w)) in
    rw (far, ← zeros-add (8 * w) (n * (8 * w)), clocks_zeros w n, ← count_bytes-zeros w 8)

pub first_record-record_bytes : (w k : ℕ) (ls : List Line) → first_record w k ls ≡ record_bytes w (first_status k ls)
unfolding first_record record_bytes events_bytes
first_record-record_bytes w k ls =
    let sum : 72 * w ≡ 8 * w + 8 * (8 * w) = omega arith in
    let many : zeros (72 * w) ≡ zeros (8 * w) ++ zeros (8 * (8 * w)) = rw sum (sym (zeros-add (8 * w) (8 * (8 * w)))) in
    rw (length-table_bytes ls, many, count_bytes-zeros w 8, clocks_zeros w 8)
    (regroup (head_bytes k (length ls) 0 0 1) (zeros (8 * w)) (zeros (8 * (8 * w))) (table_bytes ls)
    (zeros (192 - 3 * length ls)) (zeros (32 * event_length w)))
  where
    regroup : (h a b l z p : List ℕ) → h ++ (a ++ b) ++ l ++ z ++ p ≡ h ++ a ++ b ++ (l ++ z) ++ p
    regroup h a b l z p = simp append_assoc
