-- Blocks in a room of so many places, zeros in the unused ones: one block is put in or left out as in the list.
use Rattle.std.specs.Prelude.{ℕ, suc, ◌+◌, ◌-◌, ◌*◌, ◌≤◌, ◌<◌, ◌≡◌, List, ◌∷◌, ◌++◌, take, get_or}
use Rattle.std.proofs.Common.{arith, suc-mul, ap, ◌∙◌, append_assoc, length-drop, length-append, take_at}
use Rattle.std.proofs.Math.Path.{sym}
use Rattle.std.proofs.Math.ListN.{length, drop}
use Rattle.std.proofs.lemmas.List.{length-replicate}
use Rattle.std.proofs.lemmas.List.Edits.{sets}
use Rattle.window.specs.Step.{fits}
use Rattle.frontiers.specs.ListLaws.{place_member}
use Rattle.demands.specs.bytes.InsertLaws.{member_drop, length-insert_at, length-remove_at}
use Rattle.demands.specs.bytes.PlaceLaws.{zeros, zeros-add, sets_over}
use Rattle.demands.specs.bytes.BlockLaws.{blocks, Even, blocks-append, blocks_split, length-blocks, drop-blocks, block_between, length-first}
use Rattle.demands.specs.Status.{insert_at, remove_at}

-- Blocks of n bytes, and the unused places of a room.
abbrev pub in_room : {A : Type 0} → (A → List ℕ) → ℕ → ℕ → List A → List ℕ
in_room f n room xs = blocks f xs ++ zeros ((room - length xs) * n)

-- One place more or less to fill.
zeros_next : (n a b : ℕ) → a ≡ suc b → zeros (a * n) ≡ zeros n ++ zeros (b * n)
zeros_next n a b e =
    let whole : a * n ≡ n + b * n = rw e (omega (arith, suc-mul b n)) in
    rw whole (sym (zeros-add n (b * n)))

-- A list x put in before b, over zeros behind b; and left out again.
module _ (a b x y r : List ℕ) (n : ℕ) (long : length a ≡ n) (same : length x ≡ length y) where
  shift_in : sets (a ++ b ++ (y ++ r)) n (x ++ b) ≡ a ++ (x ++ b) ++ r
  shift_in =
      let split : a ++ b ++ (y ++ r) ≡ a ++ ((b ++ y) ++ r) = simp append_assoc in
      rw (split, append_assoc a (x ++ b) r) (sets_over a (b ++ y) r n long (x ++ b) (simp length-append (omega arith)))

  shift_out : sets (a ++ (x ++ b) ++ r) n (b ++ y) ≡ a ++ b ++ (y ++ r)
  shift_out =
      let split : a ++ b ++ (y ++ r) ≡ a ++ ((b ++ y) ++ r) = simp append_assoc in
      rw (split, append_assoc a (x ++ b) r) (sets_over a (x ++ b) r n long (b ++ y) (simp length-append (omega arith)))

module _ {A : Type 0} (f : A → List ℕ) (n room : ℕ) (xs : List A) (h : Even f n xs) where
  -- The blocks from number i on are what is moved.
  pub part-in_room : (i : ℕ) → i ≤ length xs
      → take ((length xs - i) * n) (drop (i * n) (in_room f n room xs)) ≡ blocks f (drop i xs)
  part-in_room i l =
      rw (drop-blocks f n xs h (zeros ((room - length xs) * n)) i l)
      (take_at (blocks f (drop i xs)) (zeros ((room - length xs) * n)) ((length xs - i) * n) long)
    where
      long : length (blocks f (drop i xs)) ≡ (length xs - i) * n
      long =
          length-blocks f n (drop i xs) (λ y m. h y (member_drop i xs y m)) ∙ ap (λ (k : ℕ). k * n) (length-drop i xs)

  pub inserted-in_room : (i : ℕ) (x : A) → i ≤ length xs → length xs < room → length (f x) ≡ n
      → sets (in_room f n room xs) (i * n) (f x ++ blocks f (drop i xs)) ≡ in_room f n room (insert_at i x xs)
  unfolding insert_at blocks
  inserted-in_room i x l free e =
      rw (
        length-insert_at i x xs,
        blocks_split f xs i,
        blocks-append f (take i xs) (x ∷ drop i xs),
        zeros_next n (room - length xs) (room - (length xs + 1)) (omega arith),
      )
      (shift_in (blocks f (take i xs)) (blocks f (drop i xs)) (f x) (zeros n) (zeros ((room - (length xs + 1)) * n))
      (i * n) (length-first f n xs h i l) (e ∙ sym (length-replicate n 0)))

  pub removed-in_room : (i : ℕ) (d : A) → i < length xs → length xs ≤ room
      → sets (in_room f n room xs) (i * n) (blocks f (drop (suc i) xs) ++ zeros n) ≡ in_room f n room (remove_at i xs)
  unfolding remove_at
  removed-in_room i d l fits =
      rw (
        length-remove_at i xs l,
        block_between f xs i d l,
        blocks-append f (take i xs) (drop (suc i) xs),
        zeros_next n (room - (length xs - 1)) (room - length xs) (omega arith),
      )
      (shift_out (blocks f (take i xs)) (blocks f (drop (suc i) xs)) (f (get_or xs i d)) (zeros n)
      (zeros ((room - length xs) * n)) (i * n) (length-first f n xs h i (omega arith))
      (h (get_or xs i d) (place_member xs i d l) ∙ sym (length-replicate n 0)))
