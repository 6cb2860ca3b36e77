-- The parts of a word are the numbers that it is made of.
use Rattle.std.specs.Prelude.{ℕ, zero, suc, ◌+◌, ◌*◌, ◌/◌, ◌%◌, ◌^◌, ◌<◌, ◌≡◌, refl, List, [], ◌∷◌, eqb}
use Rattle.std.proofs.Common.{div-one, mod-eq_of_lt, mod-lt, zero-add, mul-zero, mul-suc, mul_comm, arith, sym, ap, ◌∙◌, lit<, pow-add}
use Rattle.std.proofs.Math.Nat.{zero-div, mod-mod, div-div-eq-div-mul, pow-succ', add-mul-mod_self_left, add-mul-div_left, div-eq_of_lt, pow-zero}
use Rattle.codec.specs.Bit.{bit}
use Rattle.clocks.specs.Counts.{at, list_of}
use Rattle.clocks.specs.stored.CountsLaws.{list_of-same}
use Rattle.call_words.specs.Words.{part, unpack_counts, unpack_labels}
use Rattle.line_pieces.specs.NumberList.{eight_values}
use Rattle.lines.specs.Words.{packed_word}
use Rattle.lines.specs.Lines.{count_limit, clock_word}

-- Part i of a word is number i, below the base.
word-part : (base : ℕ) → 0 < base → (vs : List ℕ) (i : ℕ) → packed_word base vs / base ^ i % base ≡ at vs i % base
unfolding packed_word
word-part base h [] i = rw (zero-div (base ^ i))
word-part base h (v ∷ vs) zero =
    rw (pow-zero base) (ap (λ (x : ℕ). x % base) (div-one (v % base + base * packed_word base vs))
    ∙ add-mul-mod_self_left (v % base) base (packed_word base vs) ∙ mod-mod v base)
word-part base h (v ∷ vs) (suc i) =
    let low : (v % base + base * packed_word base vs) / base ≡ packed_word base vs =
    add-mul-div_left (v % base) (packed_word base vs) h ∙ rw (div-eq_of_lt (mod-lt v h)) (zero-add (packed_word base vs))
    in
    rw (
      pow-succ',
      ← div-div-eq-div-mul (v % base + base * packed_word base vs) base (base ^ i),
      low,
    ) (word-part base h vs i)

-- ---- Bits

pub word-bit : (vs : List ℕ) (p : ℕ) → bit (packed_word 2 vs) p ≡ eqb (at vs p % 2) 1
unfolding bit
word-bit vs p = rw (word-part 2 (lit< tt) vs p)

-- ---- Words of counts and of labels

-- Two to the power of a product.
two_to : (bits i : ℕ) → 2 ^ (bits * i) ≡ (2 ^ bits) ^ i
two_to bits zero = rw (mul-zero bits, pow-zero (2 ^ bits))
two_to bits (suc i) =
    rw (mul-suc bits i, pow-add 2 (bits * i) bits, two_to bits i)
    (mul_comm ((2 ^ bits) ^ i) (2 ^ bits) ∙ sym (pow-succ' (2 ^ bits) i))

part_is : (bits base : ℕ) → 2 ^ bits ≡ base → (vs : List ℕ) (i : ℕ) → at vs i < base
    → part bits (packed_word base vs) i ≡ at vs i
unfolding part
part_is bits base e vs i h = rw (two_to bits i, e) (word-part base (omega (arith, h)) vs i ∙ mod-eq_of_lt h)

pub labels_unpacked : (vs : List ℕ) → ((p : ℕ) → at vs p < 256) → unpack_labels (packed_word 256 vs) ≡ eight_values vs
unfolding unpack_labels
labels_unpacked vs h = list_of-same 8 (part 8 (packed_word 256 vs)) (at vs) (λ p _. part_is 8 256 refl vs p (h p))

-- Two counts in a word.
two_parts : (a b : ℕ) → a < count_limit + 1 → b < count_limit + 1
    → (part 32 (packed_word (count_limit + 1) (a ∷ b ∷ [])) 0 ≡ a) × (part 32 (packed_word (count_limit + 1) (a ∷ b ∷ [])) 1
    ≡ b)
two_parts a b h l = (
  part_is 32 (count_limit + 1) refl (a ∷ b ∷ []) 0 h,
  part_is 32 (count_limit + 1) refl (a ∷ b ∷ []) 1 l,
)

pub counts_unpacked : (cs : List ℕ) → ((p : ℕ) → at cs p < count_limit + 1)
    → unpack_counts 4 (clock_word cs 0 ∷ clock_word cs 1 ∷ clock_word cs 2 ∷ clock_word cs 3 ∷ []) ≡ eight_values cs
unfolding unpack_counts list_of
counts_unpacked cs h =
    let w₀ = two_parts (at cs 0) (at cs 1) (h 0) (h 1) in
    let w₁ = two_parts (at cs 2) (at cs 3) (h 2) (h 3) in
    let w₂ = two_parts (at cs 4) (at cs 5) (h 4) (h 5) in
    let w₃ = two_parts (at cs 6) (at cs 7) (h 6) (h 7) in
    rw (w₀.0, w₀.1, w₁.0, w₁.1, w₂.0, w₂.1, w₃.0, w₃.1)
