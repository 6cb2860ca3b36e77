-- The events of a process, and those of the day, one more with each turn.
use Prim.Native.Nat.{ℕ, zero, suc, ◌+◌, ◌*◌, ◌≤◌, ◌<◌}
use native.Mathlib.Nat.{add-mul, zero-add, mul-le-mul_right}
use native.Mathlib.Numerals.{add-one}
use native.Mathlib.Omega.{arith}
use mathlib.Core.Path.{◌≡◌, refl, sym, ap, ◌∙◌}
use mathlib.Core.List.{List, [], ◌∷◌, ◌++◌, append-nil}
use lib.ListN.{length, get_or, replicate}
use lib.Seq.{sets}
use Rattle.codec.specs.SetsLaws.{sets-append, get_d_sets-after}
use Rattle.clocks.specs.Counts.{list_of}
use Rattle.frontiers.specs.ListLaws.{list_of_more}
use Rattle.records.specs.Record.{event_length, event_bytes, events_bytes}
use Rattle.call_busiest.specs.Sharing.{total}
use Rattle.call_busiest.specs.SharingLaws.{total_next, share-within}
use Rattle.call_busiest.specs.Busiest.{single, singles, day}
use Rattle.call_busiest.specs.BusiestCode.{Blank}
use Rattle.call_busiest.specs.DayBytes.{events_append, length-singles, length-day}

-- Behind what was stored all is as it was.
blank_behind : (s : List ℕ) (place : ℕ) (bs : List ℕ) (n : ℕ) → length bs ≡ n → Blank s place
    → Blank (sets s place bs) (place + n)
blank_behind s place bs n long b i l =
    get_d_sets-after s place bs i 0 (omega arith) ∙ b i (omega arith)

-- ---- Of one process

module _ (w p : ℕ) where
  singles_next : (s : List ℕ) (place n : ℕ)
      → sets (sets s place (events_bytes w (singles p n))) (place + n * event_length w) (event_bytes w (single p (suc n)))
      ≡ sets s place (events_bytes w (singles p (suc n)))
  unfolding singles events_bytes
  singles_next s place n =
      rw (← length-singles w p n, sets-append s place (events_bytes w (singles p n)) (event_bytes w (single p (suc n))))
      (ap (sets s place)
      (sym (ap (events_bytes w) (list_of_more n (λ i. single p (suc i)))
      ∙ events_append w (singles p n) (single p (suc n) ∷ [])
      ∙ ap (λ (l : List ℕ). events_bytes w (singles p n) ++ l) (append-nil (event_bytes w (single p (suc n)))))))

  pub singles_step : (s : List ℕ) (place n : ℕ) (t : List ℕ) (at : ℕ) (u : List ℕ)
      → t ≡ sets s place (events_bytes w (singles p n)) → at ≡ place + n * event_length w
      → u ≡ sets t at (event_bytes w (single p (n + 1)))
      → u ≡ sets s place (events_bytes w (singles p (n + 1)))
  singles_step s place n t at u a b e = e ∙ rw (a, b, add-one n) (singles_next s place n)

  pub singles_blank : (s : List ℕ) (place n : ℕ) → Blank s place
      → Blank (sets s place (events_bytes w (singles p n))) (place + n * event_length w)
  singles_blank s place n b =
      blank_behind s place (events_bytes w (singles p n)) (n * event_length w) (length-singles w p n) b

-- ---- Of all processes

module _ (w : ℕ) (f : ℕ → ℕ) where
  day_next : (s : List ℕ) (p : ℕ)
      → sets (sets s 0 (events_bytes w (day f p))) (total (list_of p f) * event_length w) (events_bytes w (singles p (f p)))
      ≡ sets s 0 (events_bytes w (day f (suc p)))
  unfolding day
  day_next s p =
      rw (← length-day w f p, events_append w (day f p) (singles p (f p)))
      (ap (λ (a : ℕ). sets (sets s 0 (events_bytes w (day f p))) a (events_bytes w (singles p (f p))))
      (sym (zero-add (length (events_bytes w (day f p)))))
      ∙ sets-append s 0 (events_bytes w (day f p)) (events_bytes w (singles p (f p))))

  pub day_step : (s : List ℕ) (p : ℕ) (t : List ℕ) (at c : ℕ) (u : List ℕ)
      → t ≡ sets s 0 (events_bytes w (day f p)) → at ≡ total (list_of p f) * event_length w → c ≡ f p
      → u ≡ sets t at (events_bytes w (singles p c))
      → u ≡ sets s 0 (events_bytes w (day f (p + 1)))
  day_step s p t at c u a b d e = e ∙ rw (a, b, d, add-one p) (day_next s p)

  pub day_blank : (s : List ℕ) (p : ℕ) → Blank s 0
      → Blank (sets s 0 (events_bytes w (day f p))) (total (list_of p f) * event_length w)
  day_blank s p b =
      let from : 0 + total (list_of p f) * event_length w ≡ total (list_of p f) * event_length w = zero-add _ in
      rw from at (blank_behind s 0 (events_bytes w (day f p)) (total (list_of p f) * event_length w) (length-day w f p) b)

  -- The events of the next process are within the list.
  pub place-within : (p k c : ℕ) → p < k → c ≡ f p
      → total (list_of p f) * event_length w + c * event_length w ≤ total (list_of k f) * event_length w
  place-within p k c l e =
      rw (← add-mul (total (list_of p f)) c (event_length w))
      (mul-le-mul_right (event_length w) (rw e (share-within f p k l)))

  pub place_next : (p c : ℕ) → c ≡ f p
      → total (list_of p f) * event_length w + c * event_length w ≡ total (list_of (p + 1) f) * event_length w
  place_next p c e =
      sym (rw (add-one p, total_next f p, e) (add-mul (total (list_of p f)) (f p) (event_length w)))

pub blank_zeros : (n i : ℕ) → get_or {A = ℕ} (replicate n 0) i 0 ≡ 0
blank_zeros zero i = refl
blank_zeros (suc n) zero = refl
blank_zeros (suc n) (suc i) = blank_zeros n i
