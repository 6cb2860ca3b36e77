-- A record's bytes with one width, moved, are its bytes with the other; and so are a window's.
use Prim.Native.Nat.{ℕ, zero, suc, ◌+◌, ◌-◌, ◌*◌, ◌^◌, ◌≤◌, ◌<◌}
use native.Mathlib.Omega.{arith}
use Rattle.std.proofs.Common.{zero-add, suc-add, ap₂, ◌∙◌, length-append, take_at, lit<}
use Rattle.std.proofs.Math.Nat.{mul_comm, mul-sub}
use Rattle.std.specs.Prelude.{◌≡◌}
use Rattle.std.proofs.Math.Path.{refl, sym, ap}
use mathlib.Core.List.{List, [], ◌∷◌, ◌++◌, append_assoc, Memᴰ}
use Rattle.std.proofs.Math.ListN.{length}
use Rattle.std.proofs.lemmas.List.{length-replicate}
use Rattle.std.proofs.Math.Seq.{drop_at}
use Rattle.clocks.specs.declared.Event.{Event}
use Rattle.clocks.specs.Event.{Cut}
use Rattle.clocks.specs.Counts.{at, list_of}
use Rattle.frontiers.specs.declared.Frontier.{Frontier}
use Rattle.frontiers.specs.Bytes.{count_bytes, frontier_length, frontier_bytes, framed, window_bytes}
use Rattle.frontiers.specs.Shaped.{Shaped, AllShaped}
use Rattle.codec.specs.Little.{bytes_of, Bytes}
use Rattle.frontiers.specs.BytesLaws.{length-count_bytes, count_bytes-append, count_bytes-zeros}
use Rattle.records.specs.Record.{event_length, event_bytes, events_bytes}
use Rattle.call_move.specs.Parts.{Part, plain, counts, many_of, event_parts, record_parts, frontier_parts, window_parts}
use Rattle.call_move.specs.PartLengths.{length_of, part_length}
use Rattle.call_move.specs.PartLaws.{length_of-repeated, length-event_parts, length-window_parts}
use Rattle.call_move.specs.CountLaws.{counts_read}
use Rattle.call_move.specs.Move.{moved}
use Rattle.demands.specs.Status.{Status, clock_bytes, record_bytes}
use Rattle.demands.specs.bytes.PlaceLaws.{zeros, zeros-add, Bytes-append, Bytes-zeros, Bytes-count_bytes}
use Rattle.demands.specs.bytes.RecordBlocks.{fit_list_of, AllStorable, clock_rows, member_list_of, head_of, after_head, after_counts, after_clocks, table_block, pending_block, counts_split, length-head_of, length-table_block}
use Rattle.codec.specs.LittleLaws.{pow_256_pos, length-bytes_of, Bytes-bytes_of}
use Rattle.clocks.specs.stored.CountsLaws.{length-list_of}
use Rattle.demands.specs.bytes.Sized.{Storable, Sized}

-- ---- One part

module _ (v w : ℕ) (ps : List Part) (rest : List ℕ) where
  pub plain_moved : (n : ℕ) (xs : List ℕ) → length xs ≡ n
      → moved v w (plain n ∷ ps) (xs ++ rest) ≡ xs ++ moved v w ps rest
  unfolding moved
  plain_moved n xs long = rw (take_at xs rest n long, drop_at xs rest n long)

  pub counts-moved : (n : ℕ) (cs : List ℕ) → length cs ≡ n → ((p : ℕ) → at cs p < 256 ^ v)
      → moved v w (counts n ∷ ps) (count_bytes v cs ++ rest) ≡ count_bytes w cs ++ moved v w ps rest
  unfolding moved
  counts-moved n cs long fit =
      let far : length (count_bytes v cs) ≡ n * v = length-count_bytes v cs ∙ ap (λ (m : ℕ). m * v) long in
      rw (counts_read v n cs rest long fit, drop_at (count_bytes v cs) rest (n * v) far)

-- Where everything is 0, it stays so.
pub zeros-moved : (v w : ℕ) (ps : List Part) → moved v w ps (zeros (length_of v ps)) ≡ zeros (length_of w ps)
unfolding moved length_of part_length
zeros-moved v w [] = refl
zeros-moved v w (plain n ∷ ps) =
    rw (← zeros-add n (length_of v ps), ← zeros-add n (length_of w ps))
    (plain_moved v w ps (zeros (length_of v ps)) n (zeros n) (length-replicate n 0)
    ∙ ap (λ (l : List ℕ). zeros n ++ l) (zeros-moved v w ps))
zeros-moved v w (counts n ∷ ps) =
    rw (← zeros-add (n * v) (length_of v ps), ← zeros-add (n * w) (length_of w ps), ← count_bytes-zeros v n)
    (counts-moved v w ps (zeros (length_of v ps)) n (list_of n (λ p. 0)) (length-list_of n (λ p. 0))
    (fit_list_of v n (λ p. 0) (λ p. pow_256_pos v))
    ∙ ap₂ (λ (a b : List ℕ). a ++ b) (count_bytes-zeros w n) (zeros-moved v w ps))

-- ---- Pending events

module _ (v w : ℕ) where
  event-moved : (e : Event) → Storable v e → (ps : List Part) (rest : List ℕ)
      → moved v w (event_parts ++ ps) (event_bytes v e ++ rest) ≡ event_bytes w e ++ moved v w ps rest
  unfolding event_bytes
  event-moved e z ps rest =
      rw (apart (e.mask ∷ zeros 7) (count_bytes v e.clock) e.labels rest)
      (plain_moved v w (counts 8 ∷ plain 8 ∷ ps) (count_bytes v e.clock ++ (e.labels ++ rest)) 8 (e.mask ∷ zeros 7)
      refl
      ∙ ap (λ (l : List ℕ). (e.mask ∷ zeros 7) ++ l)
      (counts-moved v w (plain 8 ∷ ps) (e.labels ++ rest) 8 e.clock z.eight_counts z.counts_fit
      ∙ ap (λ (l : List ℕ). count_bytes w e.clock ++ l) (plain_moved v w ps rest 8 e.labels z.eight_labels))
      ∙ sym (apart (e.mask ∷ zeros 7) (count_bytes w e.clock) e.labels (moved v w ps rest)))
    where
      apart : (a b c d : List ℕ) → (a ++ b ++ c) ++ d ≡ a ++ (b ++ (c ++ d))
      apart a b c d = simp append_assoc

  pending_moved : (es : List Event) → AllStorable v es → (m : ℕ)
      → moved v w (many_of (length es + m) event_parts) (events_bytes v es ++ zeros (m * event_length v))
      ≡ events_bytes w es ++ zeros (m * event_length w)
  unfolding events_bytes many_of
  pending_moved [] h m =
      rw (zero-add, ← length_events v, ← length_events w) (zeros-moved v w (many_of m event_parts))
    where
      length_events : (u : ℕ) → length_of u (many_of m event_parts) ≡ m * event_length u
      length_events u =
          length_of-repeated u m event_parts ∙ ap (λ (n : ℕ). m * n) (length-event_parts u)
  pending_moved (e ∷ es) h m =
      rw (suc-add, append_assoc, append_assoc)
      (event-moved e (h e (Memᴰ.head refl)) (many_of (length es + m) event_parts)
      (events_bytes v es ++ zeros (m * event_length v))
      ∙ ap (λ (l : List ℕ). event_bytes w e ++ l) (pending_moved es (λ d i. h d (Memᴰ.tail i)) m))

-- ---- Last clocks

-- The counts of some clocks, one behind the other.
flat : List (List ℕ) → List ℕ
flat [] = []
flat (c ∷ cs) = c ++ flat cs

clock_bytes_flat : (w : ℕ) (cs : List (List ℕ)) → clock_bytes w cs ≡ count_bytes w (flat cs)
unfolding clock_bytes count_bytes flat
clock_bytes_flat w [] = refl
clock_bytes_flat w (c ∷ cs) =
    ap (λ (l : List ℕ). count_bytes w c ++ l) (clock_bytes_flat w cs) ∙ sym (count_bytes-append w c (flat cs))

length_flat : (g : ℕ → Cut) → length (flat (clock_rows g)) ≡ 64
unfolding list_of flat
length_flat g = refl

-- Counts that fit, in front of counts that fit.
fits_joined : (m : ℕ) (cs ds : List ℕ) → ((p : ℕ) → at cs p < m) → ((p : ℕ) → at ds p < m) → (p : ℕ)
    → at (cs ++ ds) p < m
fits_joined m [] ds f g p = g p
fits_joined m (c ∷ cs) ds f g zero = f 0
fits_joined m (c ∷ cs) ds f g (suc p) = fits_joined m cs ds (λ q. f (suc q)) g p

flat_fits : (m : ℕ) → 0 < m → (cs : List (List ℕ)) → ((c : List ℕ) → Memᴰ c cs → (p : ℕ) → at c p < m)
    → (p : ℕ) → at (flat cs) p < m
unfolding flat
flat_fits m pos [] h p = pos
flat_fits m pos (c ∷ cs) h p =
    fits_joined m c (flat cs) (h c (Memᴰ.head refl)) (flat_fits m pos cs (λ d i. h d (Memᴰ.tail i))) p

-- ---- A record

module _ (v w : ℕ) (t : Status) (z : Sized v t) where
  clocks_fit_flat : (p : ℕ) → at (flat (clock_rows t.clocks)) p < 256 ^ v
  clocks_fit_flat = flat_fits (256 ^ v) (pow_256_pos v) (clock_rows t.clocks)
      (λ c m p.
      let r = member_list_of 8 (λ q. list_of 8 (t.clocks q)) c m in
      rw r.2 (fit_list_of v 8 (t.clocks r.0) (z.clocks_fit r.0) p))

  pub record_moved : moved v w record_parts (record_bytes v t) ≡ record_bytes w t
  record_moved =
      let many : 32 ≡ length t.pending + (32 - length t.pending) = omega (arith, z.few) in
      let events = many_of 32 event_parts in
      rw (counts_split v t, counts_split w t)
      (plain_moved v w (counts 8 ∷ counts 64 ∷ plain 192 ∷ events) (after_head v t) 8 (head_of t) (length-head_of t)
      ∙ ap (λ (l : List ℕ). head_of t ++ l)
      (counts-moved v w (counts 64 ∷ plain 192 ∷ events) (after_counts v t) 8 (list_of 8 t.counts)
      (length-list_of 8 t.counts) (fit_list_of v 8 t.counts z.counts_fit)
      ∙ ap (λ (l : List ℕ). count_bytes w (list_of 8 t.counts) ++ l)
      (rw (clock_bytes_flat v (clock_rows t.clocks), clock_bytes_flat w (clock_rows t.clocks))
      (counts-moved v w (plain 192 ∷ events) (after_clocks v t) 64 (flat (clock_rows t.clocks))
      (length_flat t.clocks) clocks_fit_flat
      ∙ ap (λ (l : List ℕ). count_bytes w (flat (clock_rows t.clocks)) ++ l)
      (plain_moved v w events (pending_block v t.pending) 192 (table_block t.table)
      (length-table_block t.table z.short)
      ∙ ap (λ (l : List ℕ). table_block t.table ++ l)
      (ap (λ (n : ℕ). moved v w (many_of n event_parts) (pending_block v t.pending)) many
      ∙ pending_moved v w t.pending z.storable (32 - length t.pending)))))))

-- ---- A window

module _ (v w : ℕ) where
  frontier_moved : (f : Frontier) → Shaped v f → (ps : List Part) (rest : List ℕ)
      → moved v w (frontier_parts ++ ps) (frontier_bytes v f ++ rest) ≡ frontier_bytes w f ++ moved v w ps rest
  unfolding frontier_bytes
  frontier_moved f z ps rest =
      let last = f.labels ++ f.masks ++ bytes_of 8 f.values in
      rw (apart (count_bytes v f.counts) f.labels f.masks (bytes_of 8 f.values) rest)
      (counts-moved v w (plain 24 ∷ ps) (last ++ rest) 8 f.counts z.eight_counts z.counts_fit
      ∙ ap (λ (l : List ℕ). count_bytes w f.counts ++ l) (plain_moved v w ps rest 24 last long)
      ∙ sym (apart (count_bytes w f.counts) f.labels f.masks (bytes_of 8 f.values) (moved v w ps rest)))
    where
      apart : (a b c d e : List ℕ) → (a ++ b ++ c ++ d) ++ e ≡ a ++ ((b ++ c ++ d) ++ e)
      apart a b c d e = simp append_assoc

      long : length (f.labels ++ f.masks ++ bytes_of 8 f.values) ≡ 24
      long = simp (length-append, z.eight_labels, z.eight_masks, length-bytes_of) (omega arith)

  framed-moved : (fs : List Frontier) → AllShaped v fs → (m : ℕ)
      → moved v w (window_parts (length fs + m)) (framed v fs ++ zeros (m * frontier_length v))
      ≡ framed w fs ++ zeros (m * frontier_length w)
  unfolding framed many_of
  framed-moved [] h m =
      rw (zero-add, ← length-window_parts v m, ← length-window_parts w m) (zeros-moved v w (window_parts m))
  framed-moved (f ∷ fs) h m =
      rw (suc-add, append_assoc, append_assoc)
      (frontier_moved f (h f (Memᴰ.head refl)) (window_parts (length fs + m))
      (framed v fs ++ zeros (m * frontier_length v))
      ∙ ap (λ (l : List ℕ). frontier_bytes w f ++ l) (framed-moved fs (λ g i. h g (Memᴰ.tail i)) m))

  -- A window of n places.
  pub window_moved : (n : ℕ) (fs : List Frontier) → AllShaped v fs → length fs ≤ n
      → moved v w (window_parts n) (window_bytes v (n * frontier_length v) fs) ≡ window_bytes w (n * frontier_length w) fs
  unfolding window_bytes
  window_moved n fs h l =
      let m : ℕ = n - length fs in
      let all : n ≡ length fs + m = omega arith in
      rw (left v, left w)
      (ap (λ (k : ℕ). moved v w (window_parts k) (framed v fs ++ zeros (m * frontier_length v))) all
      ∙ framed-moved fs h m)
    where
      left : (u : ℕ) → n * frontier_length u - length fs * frontier_length u ≡ (n - length fs) * frontier_length u
      left u =
          let F = frontier_length u in
          sym (rw (mul_comm (n - length fs) F, mul-sub F n (length fs), mul_comm F n, mul_comm F (length fs)))

-- The bytes of a window are bytes.
Bytes_frontier : (w : ℕ) (f : Frontier) → Shaped w f → Bytes (frontier_bytes w f)
unfolding frontier_bytes
Bytes_frontier w f z =
    Bytes-append (count_bytes w f.counts ++ f.labels ++ f.masks) (bytes_of 8 f.values)
    (Bytes-append (count_bytes w f.counts ++ f.labels) f.masks
    (Bytes-append (count_bytes w f.counts) f.labels (Bytes-count_bytes w f.counts) z.labels_fit)
    z.masks_fit)
    (Bytes-bytes_of 8 f.values)

Bytes-framed : (w : ℕ) (fs : List Frontier) → AllShaped w fs → Bytes (framed w fs)
unfolding framed
Bytes-framed w [] h = λ i. lit< tt
Bytes-framed w (f ∷ fs) h =
    Bytes-append (frontier_bytes w f) (framed w fs) (Bytes_frontier w f (h f (Memᴰ.head refl)))
    (Bytes-framed w fs (λ g m. h g (Memᴰ.tail m)))

pub Bytes-window_bytes : (w total : ℕ) (fs : List Frontier) → AllShaped w fs → Bytes (window_bytes w total fs)
unfolding window_bytes
Bytes-window_bytes w total fs h =
    let left : ℕ = total - length fs * frontier_length w in
    Bytes-append (framed w fs) (zeros left) (Bytes-framed w fs h) (Bytes-zeros left)
