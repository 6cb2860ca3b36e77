-- Splitting at the first line feed.
use Prim.Native.Nat.compare
use Prim.Native.Nat.{ℕ, suc, ◌+◌, ◌-◌, ◌≤◌, min}
use native.Mathlib.Omega.{arith}
use native.Mathlib.Numerals.{one-add}
use mathlib.Core.Path.{◌≡◌, refl, sym, ap, ◌∙◌}
use mathlib.Core.Bool.{Bool, true, false, cond}
use mathlib.Core.List.{List, [], ◌∷◌, ◌++◌}
use lib.Dec.{eqb, ltb, leb}
use lib.ListN.{length, take, length-append}
use lib.Seq.{take_all, take-append-add, length-take-le}
use mir.Val.{bool_byte}
use borrow.Author.Tests.{lt-ltb, ltb-false, leb-true, leb-false}
use Rattle.std.specs.Prelude.{Option, Some, None, is_some}
use Rattle.std.specs.List.{position, position_or_len}
use Rattle.answers.specs.Answer.{flag}
use Rattle.program.specs.Split.{up_to_feed, has_feed}

abbrev pub is_feed : ℕ → Bool
is_feed b = eqb b 10

-- The line's bytes, where the line feed stands at this place or nowhere.
abbrev pub before_feed : Option ℕ → List ℕ → List ℕ
before_feed (Some i) bytes = take i bytes
before_feed None bytes = bytes

-- The place of the first line feed, or the length.
feed_place : (bytes : List ℕ) → (take (position_or_len is_feed bytes) bytes ≡ up_to_feed bytes) × (ltb (position_or_len is_feed bytes) (length bytes) ≡ has_feed bytes)
unfolding up_to_feed has_feed
feed_place [] = (refl, refl)
feed_place (b ∷ bytes) = go (eqb b 10) refl (feed_place bytes)
  where
    go : (t : Bool) → eqb b 10 ≡ t → (take (position_or_len is_feed bytes) bytes ≡ up_to_feed bytes) × (ltb (position_or_len is_feed bytes) (length bytes) ≡ has_feed bytes)
        → (take (position_or_len is_feed (b ∷ bytes)) (b ∷ bytes) ≡ up_to_feed (b ∷ bytes)) × (ltb (position_or_len is_feed (b ∷ bytes)) (length (b ∷ bytes)) ≡ has_feed (b ∷ bytes))
    go true e h = rw e (refl, lt-ltb 0 (length (b ∷ bytes)) (omega arith))
    go false e h = rw (e, one-add (position_or_len is_feed bytes), compare.suc-suc (suc (position_or_len is_feed bytes)) (length bytes)) (ap (λ (s : List ℕ). b ∷ s) h.0, h.1)

pub feed_found : (bytes : List ℕ) (feed : Option ℕ) → feed ≡ position is_feed bytes → (before_feed feed bytes ≡ up_to_feed bytes) × (is_some feed ≡ has_feed bytes)
feed_found bytes feed e = rw e (go (ltb (position_or_len is_feed bytes) (length bytes)) refl)
  where
    at : ℕ
    at = position_or_len is_feed bytes

    go : (t : Bool) → ltb at (length bytes) ≡ t → (before_feed (cond t (Some at) None) bytes ≡ up_to_feed bytes) × (is_some (cond t (Some at) None) ≡ has_feed bytes)
    go true t = ((feed_place bytes).0, sym t ∙ (feed_place bytes).1)
    go false t = (sym (take_all at bytes (ltb-false at (length bytes) t)) ∙ (feed_place bytes).0, sym t ∙ (feed_place bytes).1)

-- All of them are within the bytes.
pub feed_within : (bytes : List ℕ) → length (up_to_feed bytes) + flag (has_feed bytes) ≤ length bytes
unfolding up_to_feed has_feed
feed_within [] = omega arith
feed_within (b ∷ bytes) = go (eqb b 10) (feed_within bytes)
  where
    go : (t : Bool) → length (up_to_feed bytes) + flag (has_feed bytes) ≤ length bytes
        → length (cond t [] (b ∷ up_to_feed bytes)) + flag (cond t true (has_feed bytes)) ≤ length (b ∷ bytes)
    go true h = omega arith
    go false h = omega arith

-- One for a line feed, as the code has it.
pub byte_flag : (b : Bool) → bool_byte b ≡ flag b
byte_flag true = refl
byte_flag false = refl

-- As many of the bytes as there is room for.
pub as_many : (line text : List ℕ) (start n : ℕ) → start ≤ length line → n ≡ min (length text) (length line - start)
    → take start line ++ take n text ≡ take (length line) (take start line ++ text)
as_many line text start n h e = go (leb (length text) (length line - start)) refl
  where
    m : ℕ
    m = length line - start

    go : (b : Bool) → leb (length text) m ≡ b → take start line ++ take n text ≡ take (length line) (take start line ++ text)
    go true f =
        let few = leb-true (length text) m f in
        let all : take n text ≡ text = take_all n text (omega (arith, few)) in
        all' (take start line ++ text) all (omega (arith, length-append (take start line) text, length-take-le start line h, few))
      where
        all' : (whole : List ℕ) → take n text ≡ text → length (take start line ++ text) ≤ length line → take start line ++ take n text ≡ take (length line) (take start line ++ text)
        all' whole a l = ap (λ (s : List ℕ). take start line ++ s) a ∙ sym (take_all (length line) (take start line ++ text) l)
    go false f =
        let many = leb-false (length text) m f in
        let same : n ≡ m = omega (arith, many) in
        let long : length (take start line) + m ≡ length line = omega (arith, length-take-le start line h) in
        ap (λ (i : ℕ). take start line ++ take i text) same ∙ sym (take-append-add (take start line) text m) ∙ ap (λ (i : ℕ). take i (take start line ++ text)) long
