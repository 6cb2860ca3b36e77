-- Blocks of one length, one behind the other: the form that the record's clocks and pending events have.
use Rattle.std.specs.Prelude.{ℕ, suc, ◌*◌, ◌≤◌, ◌<◌, ◌+◌, ◌≡◌, length, get_or, take, set}
use Rattle.std.proofs.Common.{arith, zero-mul, suc-mul, ap, ◌∙◌, length-append, take-append-drop, take_at, drop_at, length-take-le, drop-cons}
use Rattle.std.proofs.Math.Path.{refl, sym}
use mathlib.Core.List.{List, [], ◌∷◌, ◌++◌, Memᴰ, append_assoc}
use Rattle.std.proofs.Math.Dec.{lit<}
use Rattle.std.proofs.Math.ListN.{drop}
use Rattle.std.proofs.lemmas.List.Edits.{sets}
use Rattle.std.proofs.Math.Seq.{set_split}
use Rattle.clocks.specs.declared.Event.{Event}
use Rattle.codec.specs.Little.{Bytes}
use Rattle.frontiers.specs.ListLaws.{place_member}
use Rattle.frontiers.specs.Bytes.{count_bytes}
use Rattle.demands.specs.bytes.InsertLaws.{member_take}
use Rattle.demands.specs.bytes.PlaceLaws.{sets_over, Bytes-append}
use Rattle.records.specs.Record.{event_bytes, events_bytes}
use Rattle.demands.specs.Status.{clock_bytes}

-- The bytes of some things, one behind the other.
unfoldable pub blocks : {A : Type 0} → (A → List ℕ) → List A → List ℕ
blocks f [] = []
blocks f (x ∷ xs) = f x ++ blocks f xs

-- The bytes of each have the same length.
abbrev pub Even : {A : Type 0} → (A → List ℕ) → ℕ → List A → Type 0
Even {A} f n xs = (x : A) → Memᴰ x xs → length (f x) ≡ n

pub clock_bytes-blocks : (w : ℕ) (cs : List (List ℕ)) → clock_bytes w cs ≡ blocks (count_bytes w) cs
unfolding clock_bytes blocks
clock_bytes-blocks w [] = refl
clock_bytes-blocks w (c ∷ cs) = rw (clock_bytes-blocks w cs)

pub events_bytes-blocks : (w : ℕ) (es : List Event) → events_bytes w es ≡ blocks (event_bytes w) es
unfolding events_bytes blocks
events_bytes-blocks w [] = refl
events_bytes-blocks w (e ∷ es) = rw (events_bytes-blocks w es)

module _ {A : Type 0} (f : A → List ℕ) where
  pub blocks-append : (xs ys : List A) → blocks f (xs ++ ys) ≡ blocks f xs ++ blocks f ys
  unfolding blocks
  blocks-append [] ys = refl
  blocks-append (x ∷ xs) ys = rw (blocks-append xs ys, append_assoc)

  pub Bytes-blocks : (xs : List A) → ((x : A) → Memᴰ x xs → Bytes (f x)) → Bytes (blocks f xs)
  unfolding blocks
  Bytes-blocks [] h i = lit< tt
  Bytes-blocks (x ∷ xs) h i =
      Bytes-append (f x) (blocks f xs) (h x (Memᴰ.head refl)) (Bytes-blocks xs (λ y m. h y (Memᴰ.tail m))) i

  pub blocks_split : (xs : List A) (i : ℕ) → blocks f xs ≡ blocks f (take i xs) ++ blocks f (drop i xs)
  blocks_split xs i = ap (blocks f) (sym (take-append-drop i xs)) ∙ blocks-append (take i xs) (drop i xs)

  -- One block, between those before it and those behind it.
  pub block_between : (xs : List A) (i : ℕ) (d : A) → i < length xs
      → blocks f xs ≡ blocks f (take i xs) ++ (f (get_or xs i d) ++ blocks f (drop (suc i) xs))
  unfolding blocks
  block_between xs i d l =
      rw (blocks_split xs i) (ap (λ (ys : List A). blocks f (take i xs) ++ blocks f ys) (drop-cons xs i d l))

  -- The same with a list before and one behind.
  pub block_apart : (xs : List A) (i : ℕ) (d : A) → i < length xs → (a c : List ℕ)
      → a ++ (blocks f xs ++ c) ≡ (a ++ blocks f (take i xs)) ++ (f (get_or xs i d) ++ (blocks f (drop (suc i) xs) ++ c))
  block_apart xs i d l a c =
      rw (block_between xs i d l) (regroup a (blocks f (take i xs)) (f (get_or xs i d)) (blocks f (drop (suc i) xs)) c)
    where
      regroup : (a b x y c : List ℕ) → a ++ ((b ++ (x ++ y)) ++ c) ≡ a ++ b ++ (x ++ (y ++ c))
      regroup a b x y c = simp append_assoc

  module _ (n : ℕ) where
    pub length-blocks : (xs : List A) → Even f n xs → length (blocks f xs) ≡ length xs * n
    unfolding blocks
    length-blocks [] h = sym (zero-mul n)
    length-blocks (x ∷ xs) h =
        rw (length-append, h x (Memᴰ.head refl), length-blocks xs (λ y m. h y (Memᴰ.tail m)), suc-mul)
        (omega arith)

    -- The first i are the first i blocks, whatever stands behind; what is left are the others.
    pub length-first : (xs : List A) → Even f n xs → (i : ℕ) → i ≤ length xs → length (blocks f (take i xs)) ≡ i * n
    length-first xs h i l =
        length-blocks (take i xs) (λ y m. h y (member_take i xs y m)) ∙ ap (λ (k : ℕ). k * n) (length-take-le i xs l)

    pub length_before : (xs : List A) → Even f n xs → (i : ℕ) → i ≤ length xs → (a : List ℕ) (m : ℕ) → length a ≡ m
        → length (a ++ blocks f (take i xs)) ≡ m + i * n
    length_before xs h i l a m long = rw (length-append, long, length-first xs h i l)

    pub take-blocks : (xs : List A) → Even f n xs → (rest : List ℕ) (i : ℕ) → i ≤ length xs
        → take (i * n) (blocks f xs ++ rest) ≡ blocks f (take i xs)
    take-blocks xs h rest i l =
        rw (blocks_split xs i, append_assoc)
        (take_at (blocks f (take i xs)) (blocks f (drop i xs) ++ rest) (i * n) (length-first xs h i l))

    pub drop-blocks : (xs : List A) → Even f n xs → (rest : List ℕ) (i : ℕ) → i ≤ length xs
        → drop (i * n) (blocks f xs ++ rest) ≡ blocks f (drop i xs) ++ rest
    drop-blocks xs h rest i l =
        rw (blocks_split xs i, append_assoc)
        (drop_at (blocks f (take i xs)) (blocks f (drop i xs) ++ rest) (i * n) (length-first xs h i l))

    -- One block stored anew.
    pub blocks-set : (xs : List A) → Even f n xs → (i : ℕ) (x : A) → i < length xs → length (f x) ≡ n
        → sets (blocks f xs) (i * n) (f x) ≡ blocks f (set xs i x)
    unfolding blocks
    blocks-set xs h i x l e =
        rw (block_between xs i x l, set_split xs i x l, blocks-append (take i xs) (x ∷ drop (suc i) xs))
        (sets_over (blocks f (take i xs)) (f (get_or xs i x)) (blocks f (drop (suc i) xs)) (i * n)
        (length-first xs h i (omega arith)) (f x) (e ∙ sym (h (get_or xs i x) (place_member xs i x l))))
