-- An event laid down where all is 0: its mask and one count are stored, the rest of its bytes stands there already.
use Prim.Native.Nat.{ℕ, zero, suc, ◌+◌, ◌-◌, ◌*◌, ◌^◌, ◌≤◌, ◌<◌}
use native.Mathlib.Nat.{zero-mul, suc-mul, le_of_suc-le-suc}
use native.Mathlib.Omega.{arith}
use mathlib.Core.Path.{◌≡◌, refl, sym, ap, ◌∙◌}
use mathlib.Core.Bool.{cond}
use mathlib.Core.List.{List, ◌∷◌, ◌++◌, append_assoc}
use lib.Dec.{eqb, eqb-zero-suc, eqb-suc-zero, eqb-suc-suc}
use lib.ListN.{length, get_or, set, replicate, length-replicate, replicate-append-replicate}
use Rattle.std.proofs.lemmas.List.{set-get_or}
use lib.Seq.{sets, get_or-set_other}
use Rattle.codec.specs.Little.{bytes_of, put}
use Rattle.codec.specs.SetsLaws.{sets-append, get_d_sets-after}
use Rattle.clocks.specs.Counts.{list_of}
use Rattle.clocks.specs.stored.CountsLaws.{list_of-same}
use Rattle.frontiers.specs.Bytes.{count_bytes}
use Rattle.frontiers.specs.BytesLaws.{count-within, bytes_of_zero, count_bytes-zeros}
use Rattle.records.specs.Record.{event_length, event_bytes}
use Rattle.call_busiest.specs.Busiest.{single}
use Rattle.call_busiest.specs.BusiestCode.{Blank}

-- ---- Zeros that stand there

set-zero : (s : List ℕ) (i : ℕ) → get_or s i 0 ≡ 0 → set s i 0 ≡ s
set-zero s i h = rw h at (set-get_or s i 0)

zeros_stay : (s : List ℕ) (at n : ℕ) → Blank s at → sets s at (replicate n 0) ≡ s
zeros_stay s at zero b = refl
zeros_stay s at (suc n) b =
    ap (λ (t : List ℕ). sets t (suc at) (replicate n 0)) (set-zero s at (b at (omega arith)))
    ∙ zeros_stay s (suc at) n (λ i l. b i (omega arith))

zeros_join : (a b : ℕ) (xs : List ℕ) → replicate a 0 ++ (replicate b 0 ++ xs) ≡ replicate (a + b) 0 ++ xs
zeros_join a b xs =
    let nought : ℕ = 0 in
    sym (append_assoc (replicate a nought) (replicate b nought) xs)
    ∙ ap (λ (l : List ℕ). l ++ xs) (replicate-append-replicate a b nought)

-- ---- The bytes of an event of process p alone

one-count : (w m p n : ℕ) → p < m
    → count_bytes w (list_of m (λ q. cond (eqb q p) n 0))
    ≡ replicate (p * w) 0 ++ (bytes_of w n ++ replicate ((m - suc p) * w) 0)
unfolding count_bytes list_of
one-count w zero p n l = absurd (omega arith)
one-count w (suc m) zero n l =
    let rest : list_of m (λ q. cond (eqb (suc q) 0) n 0) ≡ list_of m (λ q. 0) =
    list_of-same m _ _ (λ q k. rw (eqb-suc-zero q)) in
    let less : suc m - 1 ≡ m = omega arith in
    rw (rest, count_bytes-zeros w m, less, zero-mul)
one-count w (suc m) (suc p) n l =
    let rest : list_of m (λ q. cond (eqb (suc q) (suc p)) n 0) ≡ list_of m (λ q. cond (eqb q p) n 0) =
    list_of-same m _ _ (λ q k. rw (eqb-suc-suc q p)) in
    let less : suc m - suc (suc p) ≡ m - suc p = omega arith in
    let far : suc p * w ≡ w + p * w = omega (arith, suc-mul p w) in
    rw (eqb-zero-suc p, rest, less, far, bytes_of_zero w, one-count w m p n (le_of_suc-le-suc l))
    (zeros_join w (p * w) (bytes_of w n ++ replicate ((m - suc p) * w) 0))

single_bytes : (w p n : ℕ) → p < 8
    → event_bytes w (single p n)
    ≡ (2 ^ p ∷ replicate (7 + p * w) 0) ++ (bytes_of w n ++ replicate ((8 - suc p) * w + 8) 0)
unfolding event_bytes single
single_bytes w p n l =
    let nought : ℕ = 0 in
    rw (
      one-count w 8 p n l,
      ← replicate-append-replicate 7 (p * w) nought,
      ← replicate-append-replicate ((8 - suc p) * w) 8 nought,
    ) (simp append_assoc)

-- ---- Two stores

pub single_laid : (w p n : ℕ) (s : List ℕ) (place : ℕ) → p < 8 → Blank s place
    → put (set s place (2 ^ p)) (place + 8 + p * w) w n ≡ sets s place (event_bytes w (single p n))
unfolding put
single_laid w p n s place l b =
    sym (ap (sets s place) (single_bytes w p n l)
    ∙ sym (sets-append s place first (bytes_of w n ++ rest))
    ∙ ap (λ (t : List ℕ). sets t (place + length first) (bytes_of w n ++ rest)) front
    ∙ ap (λ (a : ℕ). sets marked a (bytes_of w n ++ rest)) at
    ∙ sym (sets-append marked (place + 8 + p * w) (bytes_of w n) rest)
    ∙ zeros_stay counted (place + 8 + p * w + length (bytes_of w n)) ((8 - suc p) * w + 8) behind)
  where
    first : List ℕ
    first = 2 ^ p ∷ replicate (7 + p * w) 0

    rest : List ℕ
    rest = replicate ((8 - suc p) * w + 8) 0

    marked : List ℕ
    marked = set s place (2 ^ p)

    counted : List ℕ
    counted = sets marked (place + 8 + p * w) (bytes_of w n)

    clear : Blank marked (suc place)
    clear i k = get_or-set_other s place i (2 ^ p) 0 (omega arith) ∙ b i (omega arith)

    front : sets s place first ≡ marked
    front = zeros_stay marked (suc place) (7 + p * w) clear

    at : place + length first ≡ place + 8 + p * w
    at = let nought : ℕ = 0 in omega (arith, length-replicate (7 + p * w) nought)

    behind : Blank counted (place + 8 + p * w + length (bytes_of w n))
    behind i k = get_d_sets-after marked (place + 8 + p * w) (bytes_of w n) i 0 k ∙ clear i (omega arith)

-- ---- Within the list

-- The count that is stored ends within the event.
pub count-there : (w p : ℕ) → p < 8 → 8 + p * w + w ≤ event_length w
count-there w p l = omega (arith, count-within p 8 w l)
