-- An element put into a list at a place, and the element at a place left out: lengths, members and places.
use Prim.Native.Nat.{ℕ, zero, suc, ◌+◌, ◌-◌, ◌≤◌, ◌<◌}
use Rattle.std.proofs.Common.{arith, subst, take-append-drop}
use Rattle.std.specs.Prelude.{◌≡◌, ◌⊎◌, ◌↔◌, get_or}
use Rattle.std.proofs.Math.Path.{refl, ap, subst⁻¹}
use mathlib.Core.List.Memᴰ
use mathlib.Core.List.{List, [], ◌∷◌, ◌++◌, Memᴰ}
use Rattle.std.proofs.Math.Logic.{inl, inr, ⊎_elim}
use Rattle.std.proofs.Math.ListN.{length, take, drop, length-append, length-drop}
use Rattle.std.proofs.Math.Seq.{split_at, get_or_at, length-take-le}
use Rattle.demands.specs.Status.{insert_at, remove_at}

-- ---- Parts of a list have members of the list
module _ {A : Type 0} where
  pub member_take : (i : ℕ) (xs : List A) (z : A) → Memᴰ z (take i xs) → Memᴰ z xs
  member_take i xs z m = rw (take-append-drop i xs) at (Memᴰ.append_left (drop i xs) m)

  pub member_drop : (i : ℕ) (xs : List A) (z : A) → Memᴰ z (drop i xs) → Memᴰ z xs
  member_drop i xs z m = rw (take-append-drop i xs) at (Memᴰ.append_right (take i xs) m)

  -- ---- Put in
  pub length-insert_at : (i : ℕ) (x : A) (xs : List A) → length (insert_at i x xs) ≡ length xs + 1
  unfolding insert_at
  length-insert_at i x xs =
      rw (length-append (take i xs) (x ∷ drop i xs))
      (omega (arith, length-append (take i xs) (drop i xs), ap length (take-append-drop i xs)))

  pub member_insert_at : (i : ℕ) (x : A) (xs : List A) (z : A)
      → Memᴰ z (insert_at i x xs) ↔ ((z ≡ x) ⊎ Memᴰ z xs)
  unfolding insert_at
  member_insert_at i x xs z = (out, into)
    where
      out : Memᴰ z (take i xs ++ (x ∷ drop i xs)) → (z ≡ x) ⊎ Memᴰ z xs
      out m =
          ⊎_elim (λ k. inr (member_take i xs z k))
          (λ k. ⊎_elim (λ e. inl e) (λ j. inr (member_drop i xs z j)) (Memᴰ.cases_cons k))
          (Memᴰ.append_cases (take i xs) m)

      split : Memᴰ z xs → Memᴰ z (take i xs) ⊎ Memᴰ z (drop i xs)
      split m = Memᴰ.append_cases (take i xs) (rw (take-append-drop i xs) m)

      into : (z ≡ x) ⊎ Memᴰ z xs → Memᴰ z (take i xs ++ (x ∷ drop i xs))
      into (inl e) = Memᴰ.append_right (take i xs) (Memᴰ.head e)
      into (inr m) =
          ⊎_elim (λ k. Memᴰ.append_left (x ∷ drop i xs) k) (λ k. Memᴰ.append_right (take i xs) (Memᴰ.tail k))
          (split m)

  pub get_d_insert_at-before : (i : ℕ) (x : A) (xs : List A) (j : ℕ) (d : A) → i ≤ length xs → j < i
      → get_or (insert_at i x xs) j d ≡ get_or xs j d
  unfolding insert_at
  get_d_insert_at-before zero x xs j d h l = absurd (omega arith)
  get_d_insert_at-before (suc i) x [] j d h l = absurd (omega arith)
  get_d_insert_at-before (suc i) x (y ∷ ys) zero d h l = refl
  get_d_insert_at-before (suc i) x (y ∷ ys) (suc j) d h l = get_d_insert_at-before i x ys j d (omega arith) (omega arith)

  pub get_d_insert_at-same : (i : ℕ) (x : A) (xs : List A) (d : A) → i ≤ length xs → get_or (insert_at i x xs) i d ≡ x
  unfolding insert_at
  get_d_insert_at-same i x xs d h = get_or_at (take i xs) x (drop i xs) d i (length-take-le i xs h)

  pub get_d_insert_at-after : (i : ℕ) (x : A) (xs : List A) (j : ℕ) (d : A) → i ≤ length xs → i ≤ j
      → get_or (insert_at i x xs) (suc j) d ≡ get_or xs j d
  unfolding insert_at
  get_d_insert_at-after zero x xs j d h l = refl
  get_d_insert_at-after (suc i) x [] j d h l = absurd (omega arith)
  get_d_insert_at-after (suc i) x (y ∷ ys) zero d h l = absurd (omega arith)
  get_d_insert_at-after (suc i) x (y ∷ ys) (suc j) d h l = get_d_insert_at-after i x ys j d (omega arith) (omega arith)

  -- ---- Left out
  pub length-remove_at : (i : ℕ) (xs : List A) → i < length xs → length (remove_at i xs) ≡ length xs - 1
  unfolding remove_at
  length-remove_at i xs h =
      rw (length-append (take i xs) (drop (suc i) xs), length-take-le i xs (omega arith), length-drop (suc i) xs)
      (omega arith)

  pub member_remove_at : (i : ℕ) (xs : List A) (d z : A) → i < length xs
      → Memᴰ z xs ↔ ((z ≡ get_or xs i d) ⊎ Memᴰ z (remove_at i xs))
  unfolding remove_at
  member_remove_at i xs d z h = (out, into)
    where
      whole : xs ≡ take i xs ++ (get_or xs i d ∷ drop (suc i) xs)
      whole = split_at xs i d h

      sort : Memᴰ z (take i xs ++ (get_or xs i d ∷ drop (suc i) xs))
          → (z ≡ get_or xs i d) ⊎ Memᴰ z (take i xs ++ drop (suc i) xs)
      sort m =
          ⊎_elim (λ k. inr (Memᴰ.append_left (drop (suc i) xs) k))
          (λ k. ⊎_elim (λ e. inl e) (λ j. inr (Memᴰ.append_right (take i xs) j)) (Memᴰ.cases_cons k))
          (Memᴰ.append_cases (take i xs) m)

      out : Memᴰ z xs → (z ≡ get_or xs i d) ⊎ Memᴰ z (take i xs ++ drop (suc i) xs)
      out m = sort (subst (λ (l : List A). Memᴰ z l) whole m)

      mix : (z ≡ get_or xs i d) ⊎ Memᴰ z (take i xs ++ drop (suc i) xs)
          → Memᴰ z (take i xs ++ (get_or xs i d ∷ drop (suc i) xs))
      mix (inl e) = Memᴰ.append_right (take i xs) (Memᴰ.head e)
      mix (inr m) =
          ⊎_elim (λ k. Memᴰ.append_left (get_or xs i d ∷ drop (suc i) xs) k)
          (λ k. Memᴰ.append_right (take i xs) (Memᴰ.tail k))
          (Memᴰ.append_cases (take i xs) m)

      into : (z ≡ get_or xs i d) ⊎ Memᴰ z (take i xs ++ drop (suc i) xs) → Memᴰ z xs
      into s = subst⁻¹ (λ (l : List A). Memᴰ z l) whole (mix s)

  pub get_d_remove_at-before : (i : ℕ) (xs : List A) (j : ℕ) (d : A) → i < length xs → j < i
      → get_or (remove_at i xs) j d ≡ get_or xs j d
  unfolding remove_at
  get_d_remove_at-before zero xs j d h l = absurd (omega arith)
  get_d_remove_at-before (suc i) [] j d h l = absurd (omega arith)
  get_d_remove_at-before (suc i) (y ∷ ys) zero d h l = refl
  get_d_remove_at-before (suc i) (y ∷ ys) (suc j) d h l = get_d_remove_at-before i ys j d (omega arith) (omega arith)

  pub get_d_remove_at-after : (i : ℕ) (xs : List A) (j : ℕ) (d : A) → i < length xs → i ≤ j
      → get_or (remove_at i xs) j d ≡ get_or xs (suc j) d
  unfolding remove_at
  get_d_remove_at-after zero [] j d h l = absurd (omega arith)
  get_d_remove_at-after zero (y ∷ ys) j d h l = refl
  get_d_remove_at-after (suc i) [] j d h l = absurd (omega arith)
  get_d_remove_at-after (suc i) (y ∷ ys) zero d h l = absurd (omega arith)
  get_d_remove_at-after (suc i) (y ∷ ys) (suc j) d h l = get_d_remove_at-after i ys j d (omega arith) (omega arith)

  -- ---- Both

  -- What was put in is left out again.
  pub remove_at-insert_at : (i : ℕ) (x : A) (xs : List A) → i ≤ length xs → remove_at i (insert_at i x xs) ≡ xs
  unfolding insert_at remove_at
  remove_at-insert_at zero x xs h = refl
  remove_at-insert_at (suc i) x [] h = absurd (omega arith)
  remove_at-insert_at (suc i) x (y ∷ ys) h = ap (λ (l : List A). y ∷ l) (remove_at-insert_at i x ys (omega arith))

  -- What was left out is put in again.
  pub insert_at-remove_at : (i : ℕ) (xs : List A) (d : A) → i < length xs → insert_at i (get_or xs i d) (remove_at i xs) ≡ xs
  unfolding insert_at remove_at
  insert_at-remove_at zero [] d h = absurd (omega arith)
  insert_at-remove_at zero (y ∷ ys) d h = refl
  insert_at-remove_at (suc i) [] d h = absurd (omega arith)
  insert_at-remove_at (suc i) (y ∷ ys) d h = ap (λ (l : List A). y ∷ l) (insert_at-remove_at i ys d (omega arith))
