-- There and back: parts that were moved come back as they were.
use Rattle.std.specs.Prelude.{ℕ, ◌*◌, ◌^◌, ◌≤◌, ◌<◌, ◌≡◌, false, length, take, drop}
use Rattle.std.proofs.Common.{arith, ap, ◌∙◌, length-drop, drop_at, length-take-le}
use Rattle.std.proofs.Math.Path.{refl}
use mathlib.Core.List.{List, [], ◌∷◌, ◌++◌}
use Rattle.std.proofs.Math.Seq.{take_at, take-add}
use Rattle.codec.specs.Little.{number, Bytes}
use Rattle.codec.specs.LittleLaws.{Bytes-drop, pow_256_pos}
use Rattle.codec.specs.PutLaws.{number_lt}
use Rattle.frontiers.specs.Bytes.{count_bytes}
use Rattle.frontiers.specs.BytesLaws.{number-count_bytes, length-count_bytes}
use Rattle.call_move.specs.Parts.{Part, plain, counts}
use Rattle.call_move.specs.PartLengths.{part_length, length_of}
use Rattle.call_move.specs.PartLaws.{length-counts_from}
use Rattle.call_move.specs.CountLaws.{Fit, counts_fit, fit_counts, counts_read, counts-written, counts_below, at-counts_from}
use Rattle.call_move.specs.Move.{counts_from, moved, some_too_large}

module _ (v w : ℕ) where
  -- The counts of a part that was moved, with what stands behind them.
  module _ (n : ℕ) (s rest : List ℕ) (f : Fit v w n s) where
    pub length_part : length (count_bytes w (counts_from v n s)) ≡ n * w
    length_part = length-count_bytes w (counts_from v n s) ∙ ap (λ (m : ℕ). m * w) (length-counts_from v n s)

    pub read_again : counts_from w n (count_bytes w (counts_from v n s) ++ rest) ≡ counts_from v n s
    read_again =
        counts_read w n (counts_from v n s) rest (length-counts_from v n s)
        (counts_below v n (256 ^ w) s (pow_256_pos w) f)

    pub number-again : (i : ℕ) → i < n
        → number (count_bytes w (counts_from v n s) ++ rest) (i * w) w ≡ number s (i * v) v
    number-again i l =
        number-count_bytes w (counts_from v n s) rest (counts_below v n (256 ^ w) s (pow_256_pos w) f) i
        (rw (length-counts_from v n s) l)
        ∙ at-counts_from v n s i l

    pub drop-part : drop (n * w) (count_bytes w (counts_from v n s) ++ rest) ≡ rest
    drop-part = drop_at (count_bytes w (counts_from v n s)) rest (n * w) length_part

  -- What stands behind a part of bytes.
  pub drop-plain : (n : ℕ) (s rest : List ℕ) → n ≤ length s → drop n (take n s ++ rest) ≡ rest
  drop-plain n s rest h = drop_at (take n s) rest n (length-take-le n s h)

  -- Counts of v bytes fit v bytes again,
  pub fit_again : (ps : List Part) (s : List ℕ) → Bytes s → length_of v ps ≤ length s → some_too_large v w ps s ≡ false
      → some_too_large w v ps (moved v w ps s) ≡ false
  unfolding moved some_too_large length_of part_length
  fit_again [] s b h f = refl
  fit_again (plain n ∷ ps) s b h f =
      rw (drop-plain n s (moved v w ps (drop n s)) (omega arith))
      (fit_again ps (drop n s) (Bytes-drop n s b) (rw (length-drop n s) (omega arith)) f)
  fit_again (counts n ∷ ps) s b h f =
      let both = counts_fit v w n ps s f in
      let rest = moved v w ps (drop (n * v) s) in
      fit_counts w v n ps (count_bytes w (counts_from v n s) ++ rest)
      (λ i l. rw (number-again n s rest both.0 i l) (number_lt s (i * v) v b))
      (rw (drop-part n s rest both.0)
      (fit_again ps (drop (n * v) s) (Bytes-drop (n * v) s b) (rw (length-drop (n * v) s) (omega arith)) both.1))

  -- and moved back they are the bytes that they were.
  pub moved_back : (ps : List Part) (s : List ℕ) → Bytes s → length_of v ps ≤ length s → some_too_large v w ps s ≡ false
      → moved w v ps (moved v w ps s) ≡ take (length_of v ps) s
  unfolding moved some_too_large length_of part_length
  moved_back [] s b h f = refl
  moved_back (plain n ∷ ps) s b h f =
      let rest = moved v w ps (drop n s) in
      rw (
        take_at (take n s) rest n (length-take-le n s (omega arith)),
        drop-plain n s rest (omega arith),
        moved_back ps (drop n s) (Bytes-drop n s b) (rw (length-drop n s) (omega arith)) f,
        take-add n (length_of v ps) s,
      )
  moved_back (counts n ∷ ps) s b h f =
      let both = counts_fit v w n ps s f in
      let rest = moved v w ps (drop (n * v) s) in
      rw (
        read_again n s rest both.0,
        counts-written v n s b (omega arith),
        drop-part n s rest both.0,
        moved_back ps (drop (n * v) s) (Bytes-drop (n * v) s b) (rw (length-drop (n * v) s) (omega arith)) both.1,
        take-add (n * v) (length_of v ps) s,
      )
