-- An event and its bytes in the record go back and forth.
use Prim.Native.Nat.{ℕ, ◌+◌, ◌*◌}
use Rattle.std.proofs.Common.{arith, sym, ap, ◌∙◌, length-append, take_at}
use Rattle.std.specs.Prelude.{◌≡◌, refl, length}
use mathlib.Core.List.{List, ◌∷◌, ◌++◌, append_assoc}
use Rattle.std.proofs.lemmas.List.{get_or_at}
use Rattle.std.proofs.Math.Seq.{drop_at}
use Rattle.clocks.specs.declared.Event.{Event}
use Rattle.codec.specs.Little.{Bytes}
use Rattle.frontiers.specs.BytesLaws.{length-count_bytes}
use Rattle.frontiers.specs.Bytes.{count_bytes}
use Rattle.demands.specs.bytes.PlaceLaws.{numbers_count_bytes, zeros, Bytes-append, Bytes_cons, Bytes-zeros, Bytes-count_bytes}
use Rattle.records.specs.Record.{event_length, event_from, event_bytes}
use Rattle.demands.specs.bytes.Sized.{Storable}

-- Events with the same parts are the same.
pub event-same : (e f : Event) → e.mask ≡ f.mask → e.clock ≡ f.clock → e.labels ≡ f.labels → e ≡ f
event-same e f m c l =
    let whole : (g : Event) → g ≡ record { mask = g.mask; clock = g.clock; labels = g.labels } = λ g. refl in
    whole e ∙ rw (m, c, l) (sym (whole f))

pub length-counts : (w : ℕ) (cs : List ℕ) → length cs ≡ 8 → length (count_bytes w cs) ≡ 8 * w
length-counts w cs e = length-count_bytes w cs ∙ ap (λ (n : ℕ). n * w) e

module _ (w : ℕ) (e : Event) (z : Storable w e) where
  pub length-event_bytes : length (event_bytes w e) ≡ event_length w
  unfolding event_bytes
  length-event_bytes = simp (length-append, length-counts w e.clock z.eight_counts, z.eight_labels) (omega arith)

  pub Bytes-event_bytes : Bytes (event_bytes w e)
  unfolding event_bytes
  Bytes-event_bytes =
      Bytes-append ((e.mask ∷ zeros 7) ++ count_bytes w e.clock) e.labels
      (Bytes-append (e.mask ∷ zeros 7) (count_bytes w e.clock)
      (Bytes_cons e.mask (zeros 7) z.mask_fits (Bytes-zeros 7))
      (Bytes-count_bytes w e.clock)) z.labels_fit

  -- An event comes back from its bytes, wherever they stand.
  pub event_from_bytes : (a c : List ℕ) (n : ℕ) → length a ≡ n → event_from w (a ++ (event_bytes w e ++ c)) n ≡ e
  unfolding event_bytes
  event_from_bytes a c n long =
      event-same (event_from w s n) e (get_or_at a e.mask _ 0 n long)
      (rw counts_split
      (numbers_count_bytes w e.clock (a ++ first) (e.labels ++ c) (n + 8) 8 counts_start z.eight_counts
      z.counts_fit))
      (rw (labels_split, drop_at (a ++ first ++ count_bytes w e.clock) (e.labels ++ c) (n + 8 + 8 * w) labels_start)
      (take_at e.labels c 8 z.eight_labels))
    where
      first : List ℕ
      first = e.mask ∷ zeros 7

      s : List ℕ
      s = a ++ ((first ++ count_bytes w e.clock ++ e.labels) ++ c)

      counts_split : s ≡ (a ++ first) ++ (count_bytes w e.clock ++ (e.labels ++ c))
      counts_split = simp append_assoc

      labels_split : s ≡ (a ++ first ++ count_bytes w e.clock) ++ (e.labels ++ c)
      labels_split = simp append_assoc

      counts_start : length (a ++ first) ≡ n + 8
      counts_start = simp length-append (omega arith)

      labels_start : length (a ++ first ++ count_bytes w e.clock) ≡ n + 8 + 8 * w
      labels_start = rw (length-append, counts_start, length-counts w e.clock z.eight_counts)
