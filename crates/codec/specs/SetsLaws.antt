-- Laws of `sets`, a run of stores into a list: what it leaves, what it writes, and how runs compose.
use Rattle.std.specs.Prelude.{ℕ, zero, suc, ◌+◌, ◌≤◌, ◌<◌, ◌≡◌, refl, List, [], ◌∷◌, ◌++◌, length, take, drop, get_or, set}
use Rattle.std.proofs.Common.{add-zero, add-suc, suc-add, zero-add, arith, sym, ap, ◌∙◌, drop-drop, append_assoc, append-nil, take-append-drop, drop_of_length-le, set-set, length-take-le, take_at, drop_at, drop-set-lt, get_or-set_other}
use Rattle.std.proofs.lemmas.List.Edits.{sets, sets-eq}
use Rattle.std.proofs.Math.Seq.{take-nil, take-set-lt}
use Rattle.std.proofs.lemmas.List.{set_comm, take-set-le, drop-set-add}

module _ {ℓ} {A : Type ℓ} where
  sets_nil : (at : ℕ) (vs : List A) → sets [] at vs ≡ []
  sets_nil at [] = refl
  sets_nil at (v ∷ vs) = sets_nil (suc at) vs

  sets_cons : (x : A) (xs : List A) (at : ℕ) (vs : List A) → sets (x ∷ xs) (suc at) vs ≡ x ∷ sets xs at vs
  sets_cons x xs at [] = refl
  sets_cons x xs at (v ∷ vs) = sets_cons x (set xs at v) (suc at) vs

  -- Two adjacent runs are one.
  pub sets-append : (s : List A) (at : ℕ) (xs ys : List A) → sets (sets s at xs) (at + length xs) ys ≡ sets s at (xs ++ ys)
  sets-append s at [] ys = rw add-zero
  sets-append s at (x ∷ xs) ys = rw (add-suc, ← suc-add) (sets-append (set s at x) (suc at) xs ys)

  -- What stands there already, stored again, changes nothing.
  pub sets_same : (s : List A) (at n : ℕ) → sets s at (take n (drop at s)) ≡ s
  sets_same [] at n = sets_nil at (take n (drop at []))
  sets_same (x ∷ xs) zero zero = refl
  sets_same (x ∷ xs) zero (suc n) = sets_cons x xs 0 (take n xs) ∙ ap (λ (l : List A). x ∷ l) (sets_same xs zero n)
  sets_same (x ∷ xs) (suc at) n = sets_cons x xs at (take n (drop at xs)) ∙ ap (λ (l : List A). x ∷ l) (sets_same xs at n)

  -- Stores into the part from a on are stores into the whole.
  pub sets-tail : (xs : List A) (a i : ℕ) (bs : List A) → take a xs ++ sets (drop a xs) i bs ≡ sets xs (a + i) bs
  sets-tail xs a i [] = take-append-drop a xs
  sets-tail xs a i (b ∷ bs) =
      rw (← drop-set-add a xs i b, ← take-set-le a xs (a + i) b (omega arith), ← add-suc) (sets-tail (set xs (a + i) b) a (suc i) bs)

  -- Stores into the first k are stores into the whole.
  pub sets_front : (l : List A) (k i : ℕ) (bs : List A) → i + length bs ≤ k → sets (take k l) i bs ++ drop k l ≡ sets l i bs
  sets_front l k i [] h = take-append-drop k l
  sets_front l k i (b ∷ bs) h =
      rw (← take-set-lt k l i b (omega arith), ← drop-set-lt k l i b (omega arith)) (sets_front (set l i b) k (suc i) bs (omega arith))

  -- Stores into a part that was lent, the k elements from a on, are stores into the whole.
  pub sets_middle : (xs : List A) (a k i : ℕ) (bs : List A) → i + length bs ≤ k
      → take a xs ++ (sets (take k (drop a xs)) i bs ++ drop k (drop a xs)) ≡ sets xs (a + i) bs
  sets_middle xs a k i bs h = rw (sets_front (drop a xs) k i bs h) (sets-tail xs a i bs)

  -- What stands before and after the run is as it was.
  pub take-sets : (a : ℕ) (s : List A) (at : ℕ) (bs : List A) → a ≤ at → take a (sets s at bs) ≡ take a s
  take-sets a s at [] h = refl
  take-sets a s at (b ∷ bs) h = take-sets a (set s at b) (suc at) bs (omega arith) ∙ take-set-le a s at b h

  pub drop-sets : (a : ℕ) (s : List A) (at : ℕ) (bs : List A) → at + length bs ≤ a → drop a (sets s at bs) ≡ drop a s
  drop-sets a s at [] h = refl
  drop-sets a s at (b ∷ bs) h = drop-sets a (set s at b) (suc at) bs (omega arith) ∙ drop-set-lt a s at b (omega arith)

  pub get_d_sets_before : (s : List A) (at : ℕ) (bs : List A) (i : ℕ) (d : A) → i < at → get_or (sets s at bs) i d ≡ get_or s i d
  get_d_sets_before s at [] i d h = refl
  get_d_sets_before s at (b ∷ bs) i d h =
      get_d_sets_before (set s at b) (suc at) bs i d (omega arith) ∙ get_or-set_other s at i b d (omega arith)

  pub get_d_sets-after : (s : List A) (at : ℕ) (bs : List A) (i : ℕ) (d : A) → at + length bs ≤ i → get_or (sets s at bs) i d ≡ get_or s i d
  get_d_sets-after s at [] i d h = refl
  get_d_sets-after s at (b ∷ bs) i d h =
      get_d_sets-after (set s at b) (suc at) bs i d (omega arith) ∙ get_or-set_other s at i b d (omega arith)

  -- The run itself stands where it was stored.
  pub part-sets : (s : List A) (at : ℕ) (bs : List A) → at + length bs ≤ length s → take (length bs) (drop at (sets s at bs)) ≡ bs
  part-sets s at bs h =
      rw (sets-eq bs s at h, append_assoc, drop_at (take at s) _ at (length-take-le at s (omega arith))) (take_at bs _ (length bs) refl)

  -- A part of the list, taken either way.
  pub take-drop : (n a : ℕ) (l : List A) → take n (drop a l) ≡ drop a (take (a + n) l)
  take-drop n zero l = rw zero-add
  take-drop n (suc a) [] = rw (take-nil n, take-nil (suc a + n))
  take-drop n (suc a) (x ∷ xs) = rw suc-add (take-drop n a xs)

  -- A part that ends before the run, and one that begins after it, are as they were.
  pub part-sets-before : (s : List A) (at : ℕ) (bs : List A) (a n : ℕ) → a + n ≤ at → take n (drop a (sets s at bs)) ≡ take n (drop a s)
  part-sets-before s at bs a n h = rw (take-drop n a s, take-drop n a (sets s at bs), take-sets (a + n) s at bs h)

  pub part-sets-after : (s : List A) (at : ℕ) (bs : List A) (a n : ℕ) → at + length bs ≤ a → take n (drop a (sets s at bs)) ≡ take n (drop a s)
  part-sets-after s at bs a n h = rw (drop-sets a s at bs h)

  -- Runs in places apart may be stored in either order; of two runs in one place the later stays.
  set-sets : (s : List A) (i : ℕ) (y : A) (at : ℕ) (xs : List A) → i < at → set (sets s at xs) i y ≡ sets (set s i y) at xs
  set-sets s i y at [] h = refl
  set-sets s i y at (x ∷ xs) h =
      set-sets (set s at x) i y (suc at) xs (omega arith)
      ∙ ap (λ (l : List A). sets l (suc at) xs) (set_comm s at i x y (omega arith))

  pub sets_comm : (s : List A) (at : ℕ) (xs : List A) (at' : ℕ) (ys : List A) → at + length xs ≤ at'
      → sets (sets s at xs) at' ys ≡ sets (sets s at' ys) at xs
  sets_comm s at [] at' ys h = refl
  sets_comm s at (x ∷ xs) at' ys h =
      rw (set-sets s at x at' ys (omega arith)) (sets_comm (set s at x) (suc at) xs at' ys (omega arith))

  pub sets-sets : (s : List A) (at : ℕ) (xs ys : List A) → length xs ≡ length ys → sets (sets s at xs) at ys ≡ sets s at ys
  sets-sets s at [] ys h = refl
  sets-sets s at (x ∷ xs) [] h = absurd (omega arith)
  sets-sets s at (x ∷ xs) (y ∷ ys) h =
      rw (set-sets (set s at x) at y (suc at) xs (omega arith), set-set) (sets-sets (set s at y) (suc at) xs ys (omega arith))

  -- One element of a run stored anew.
  pub set-within : (s : List A) (at : ℕ) (xs : List A) (y : A) (zs : List A) (b : ℕ) (z : A) → b ≡ at + length xs
      → set (sets s at (xs ++ y ∷ zs)) b z ≡ sets s at (xs ++ z ∷ zs)
  set-within s at xs y zs b z e =
      rw (e, ← sets-append s at xs (y ∷ zs), ← sets-append s at xs (z ∷ zs))
      (set-sets (set (sets s at xs) (at + length xs) y) (at + length xs) z (suc (at + length xs)) zs (omega arith)
      ∙ rw set-set)

  -- Others in the place of n elements.
  pub sets_part : (s : List A) (a n : ℕ) (bs : List A) → length bs ≡ n → a + n ≤ length s → take a s ++ (bs ++ drop n (drop a s)) ≡ sets s a bs
  sets_part s a n bs e h =
      rw (drop-drop n a s, ← append_assoc (take a s) bs (drop (a + n) s)) (sym (rw e at (sets-eq bs s a (omega arith))))

  -- A whole list stored over another.
  pub sets_whole : (s bs : List A) → length bs ≡ length s → sets s 0 bs ≡ bs
  sets_whole s bs e =
      sets-eq bs s 0 (omega arith)
      ∙ rw (zero-add (length bs), drop_of_length-le s {i = length bs} (omega arith)) (append-nil bs)
