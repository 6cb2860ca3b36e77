-- The merge of a step, turn by turn: laws of `rest_of`, `lay` and `Laying`.
use Prim.Native.Nat.{ℕ, suc, ◌+◌, ◌≤◌, ◌<◌}
use native.Mathlib.Omega.{arith}
use native.Mathlib.Decide.{dec_lt}
use native.Mathlib.Numerals.{add-one}
use mathlib.Core.Path.{◌≡◌, refl, sym, ap, ◌∙◌}
use mathlib.Core.Bool.{Bool, true, false, cond, true≢false}
use mathlib.Core.List.{List, [], ◌∷◌, ◌++◌}
use lib.ListN.{length, drop, replicate, drop_of_length-le}
use lib.Seq.{drop-cons}
use borrow.Author.Tests.{lt-ltb, le-ltb}
use Rattle.clocks.specs.declared.Event.{Event}
use Rattle.frontiers.specs.declared.Frontier.{Frontier}
use Rattle.frontiers.specs.Bytes.{frontier_at, frontiers}
use Rattle.frontiers.specs.WindowLaws.{length-frontiers, get_d_frontiers}
use Rattle.window.specs.Step.{Setting, slot_counts, merge, merge_into, slots, advanced, stays, enabled_at, filtered, lay, stepped, kept_after}
use Rattle.window_step.specs.Laying.{rest_of, slots_of, fresh_first, fresh_at, Laying}
use Rattle.window_step.specs.Gathering.{hints_from, fresh_from}

-- ---- What is left from a place on

module _ (t : Frontier → Bool) (w : ℕ) (window : List ℕ) (n i : ℕ) where
  next : i < n → drop i (frontiers w window n) ≡ frontier_at w window i ∷ drop (i + 1) (frontiers w window n)
  next l =
      rw (add-one, drop-cons (frontiers w window n) i none (rw (length-frontiers w window n) l), get_d_frontiers w window n i none l)
    where
      none : Frontier
      none = record { counts = []; labels = []; masks = []; values = 0 }

  pub rest_pass : i < n → t (frontier_at w window i) ≡ false → rest_of t w window n i ≡ rest_of t w window n (i + 1)
  unfolding filtered
  rest_pass l e = ap (filtered t) (next l) ∙ ap (λ (b : Bool). cond b (frontier_at w window i ∷ rest_of t w window n (i + 1)) (rest_of t w window n (i + 1))) e

  pub rest-take : i < n → t (frontier_at w window i) ≡ true → rest_of t w window n i ≡ frontier_at w window i ∷ rest_of t w window n (i + 1)
  unfolding filtered
  rest-take l e = ap (filtered t) (next l) ∙ ap (λ (b : Bool). cond b (frontier_at w window i ∷ rest_of t w window n (i + 1)) (rest_of t w window n (i + 1))) e

  pub rest_end : n ≤ i → rest_of t w window n i ≡ []
  unfolding filtered
  rest_end l = ap (filtered t) (drop_of_length-le (frontiers w window n) {i = i} (rw (length-frontiers w window n) l))

-- ---- One more slot is laid down

module _ (s : Setting) (laid : List Frontier) (hints : List ℕ) where
  pub lay-one-staying : (f : Frontier) (xs ys : List Frontier) → fresh_first s (f ∷ xs) ys ≡ false
      → lay s laid hints (slots_of s (f ∷ xs) ys) ≡ lay s (laid ++ (f ∷ [])) hints (slots_of s xs ys)
  unfolding fresh_first lay merge merge_into slot_counts
  lay-one-staying f xs [] e = refl
  lay-one-staying f xs (y ∷ ys) e = rw e

  pub lay-one-fresh : (f : Frontier) (xs ys : List Frontier) → fresh_first s xs (f ∷ ys) ≡ true
      → lay s laid hints (slots_of s xs (f ∷ ys)) ≡ lay s (laid ++ (fresh_from s laid hints f ∷ [])) (hints_from s laid hints f) (slots_of s xs ys)
  unfolding fresh_first lay merge merge_into slot_counts
  lay-one-fresh f [] ys e = refl
  lay-one-fresh f (x ∷ xs) ys e = rw e

  pub lay-none : (xs ys : List Frontier) → length xs + length ys ≡ 0 → lay s laid hints (slots_of s xs ys) ≡ laid
  unfolding lay merge
  lay-none [] [] e = refl
  lay-none [] (y ∷ ys) e = absurd (omega arith)
  lay-none (x ∷ xs) ys e = absurd (omega arith)

some-staying : (s : Setting) (xs ys : List Frontier) → fresh_first s xs ys ≡ false → 0 < length xs + length ys → 0 < length xs
unfolding fresh_first
some-staying s [] [] e l = absurd (omega arith)
some-staying s [] (y ∷ ys) e l = absurd (true≢false e)
some-staying s (x ∷ xs) ys e l = omega arith

some_leading : (s : Setting) (xs ys : List Frontier) → fresh_first s xs ys ≡ true → 0 < length ys
unfolding fresh_first
some_leading s xs [] e = absurd (true≢false (sym e))
some_leading s xs (y ∷ ys) e = omega arith

-- ---- The test by places

module _ (s : Setting) (e : Event) (h : s.stored ≡ 8) (v : s.event ≡ e) (w : ℕ) (window : List ℕ) (n kept : ℕ) (laid : List Frontier) (hints : List ℕ) (i j m : ℕ) (L : Laying s w window n kept laid hints i j m) where
  fresh-at_is : fresh_at e w window n i j ≡ fresh_first s (rest_of (stays s) w window n i) (rest_of (enabled_at s) w window n j)
  unfolding fresh_first advanced
  fresh-at_is = go (dec_lt j n) (dec_lt i n)
    where
      go : Dec (j < n) → Dec (i < n) → fresh_at e w window n i j ≡ fresh_first s (rest_of (stays s) w window n i) (rest_of (enabled_at s) w window n j)
      go (no a) d = rw (le-ltb j n (omega arith), rest_end (enabled_at s) w window n j (omega arith))
      go (yes a) (no b) = rw (lt-ltb j n a, le-ltb i n (omega arith), rest-take (enabled_at s) w window n j a (L.leading_here a), rest_end (stays s) w window n i (omega arith))
      go (yes a) (yes b) = rw (lt-ltb j n a, lt-ltb i n b, rest-take (enabled_at s) w window n j a (L.leading_here a), rest-take (stays s) w window n i b (L.staying_here b), h, v)

  module _ (l : m < kept) where
    pub staying_left : fresh_at e w window n i j ≡ false → i < n
    staying_left q = go (dec_lt i n)
      where
        go : Dec (i < n) → i < n
        go (yes a) = a
        go (no a) =
            let none : length (rest_of (stays s) w window n i) ≡ 0 = ap length (rest_end (stays s) w window n i (omega arith)) in
            let some : 0 < length (rest_of (stays s) w window n i) =
            some-staying s _ _ (sym fresh-at_is ∙ q) (omega (arith, L.counted)) in
            absurd (omega arith)

    pub leading_left : fresh_at e w window n i j ≡ true → j < n
    leading_left q = go (dec_lt j n)
      where
        go : Dec (j < n) → j < n
        go (yes a) = a
        go (no a) =
            let none : length (rest_of (enabled_at s) w window n j) ≡ 0 = ap length (rest_end (enabled_at s) w window n j (omega arith)) in
            let some : 0 < length (rest_of (enabled_at s) w window n j) = some_leading s _ _ (sym fresh-at_is ∙ q) in
            absurd (omega arith)

    -- Frontier i was laid down; i' is the next that stays.
    pub laid_staying : fresh_at e w window n i j ≡ false → (laid' : List Frontier) → laid' ≡ laid ++ (frontier_at w window i ∷ [])
        → (i' : ℕ) → i' ≤ n → rest_of (stays s) w window n (i + 1) ≡ rest_of (stays s) w window n i' → (i' < n → stays s (frontier_at w window i') ≡ true)
        → Laying s w window n kept laid' hints i' j (m + 1)
    laid_staying q laid' d i' b r t =
        let a : i < n = staying_left q in
        let x : rest_of (stays s) w window n i ≡ frontier_at w window i ∷ rest_of (stays s) w window n i' =
        rest-take (stays s) w window n i a (L.staying_here a) ∙ ap (λ (fs : List Frontier). frontier_at w window i ∷ fs) r in
        let f : fresh_first s (frontier_at w window i ∷ rest_of (stays s) w window n i') (rest_of (enabled_at s) w window n j) ≡ false =
        rw x at (sym fresh-at_is ∙ q) in
        let y : length (rest_of (stays s) w window n i) ≡ suc (length (rest_of (stays s) w window n i')) = ap length x in
        record {
          staying_within = b;
          staying_here = t;
          leading_within = L.leading_within;
          leading_here = L.leading_here;
          counted = omega (arith, L.counted);
          going = ap (λ (ls : List Frontier). lay s ls hints (slots_of s (rest_of (stays s) w window n i') (rest_of (enabled_at s) w window n j))) d
              ∙ sym (lay-one-staying s laid hints (frontier_at w window i) (rest_of (stays s) w window n i') (rest_of (enabled_at s) w window n j) f)
              ∙ ap (λ (fs : List Frontier). lay s laid hints (slots_of s fs (rest_of (enabled_at s) w window n j))) (sym x)
              ∙ L.going;
        }

    -- What the event leads to from frontier j was laid down; j' is the next that it leads on from.
    pub laid_fresh : fresh_at e w window n i j ≡ true → (laid' : List Frontier) → laid' ≡ laid ++ (fresh_from s laid hints (frontier_at w window j) ∷ [])
        → (hints' : List ℕ) → hints' ≡ hints_from s laid hints (frontier_at w window j)
        → (j' : ℕ) → j' ≤ n → rest_of (enabled_at s) w window n (j + 1) ≡ rest_of (enabled_at s) w window n j' → (j' < n → enabled_at s (frontier_at w window j') ≡ true)
        → Laying s w window n kept laid' hints' i j' (m + 1)
    laid_fresh q laid' d hints' z j' b r t =
        let a : j < n = leading_left q in
        let x : rest_of (enabled_at s) w window n j ≡ frontier_at w window j ∷ rest_of (enabled_at s) w window n j' =
        rest-take (enabled_at s) w window n j a (L.leading_here a) ∙ ap (λ (fs : List Frontier). frontier_at w window j ∷ fs) r in
        let f : fresh_first s (rest_of (stays s) w window n i) (frontier_at w window j ∷ rest_of (enabled_at s) w window n j') ≡ true =
        rw x at (sym fresh-at_is ∙ q) in
        let y : length (rest_of (enabled_at s) w window n j) ≡ suc (length (rest_of (enabled_at s) w window n j')) = ap length x in
        record {
          staying_within = L.staying_within;
          staying_here = L.staying_here;
          leading_within = b;
          leading_here = t;
          counted = omega (arith, L.counted);
          going = ap (λ (ls : List Frontier). lay s ls hints' (slots_of s (rest_of (stays s) w window n i) (rest_of (enabled_at s) w window n j'))) d
              ∙ ap (λ (hs : List ℕ). lay s (laid ++ (fresh_from s laid hints (frontier_at w window j) ∷ [])) hs (slots_of s (rest_of (stays s) w window n i) (rest_of (enabled_at s) w window n j'))) z
              ∙ sym (lay-one-fresh s laid hints (frontier_at w window j) (rest_of (stays s) w window n i) (rest_of (enabled_at s) w window n j') f)
              ∙ ap (λ (fs : List Frontier). lay s laid hints (slots_of s (rest_of (stays s) w window n i) fs)) (sym x)
              ∙ L.going;
        }

  -- All are laid down.
  pub laid_all : kept ≤ m → laid ≡ stepped s (frontiers w window n)
  laid_all l = sym (lay-none s laid hints (rest_of (stays s) w window n i) (rest_of (enabled_at s) w window n j) (omega (arith, L.counted))) ∙ L.going

-- Nothing is laid down yet; i and j are the first places.
pub laying_start : (s : Setting) → s.stored ≡ 8 → (w : ℕ) (window : List ℕ) (n kept : ℕ) → kept ≡ kept_after s (frontiers w window n)
    → (i : ℕ) → i ≤ n → rest_of (stays s) w window n 0 ≡ rest_of (stays s) w window n i → (i < n → stays s (frontier_at w window i) ≡ true)
    → (j : ℕ) → j ≤ n → rest_of (enabled_at s) w window n 0 ≡ rest_of (enabled_at s) w window n j → (j < n → enabled_at s (frontier_at w window j) ≡ true)
    → Laying s w window n kept [] (replicate 8 0) i j 0
unfolding kept_after stepped slots
laying_start s h w window n kept k i a x t j b y u = record {
  staying_within = a;
  staying_here = t;
  leading_within = b;
  leading_here = u;
  counted = rw (← x, ← y, k) (omega arith);
  going = rw (← x, ← y, h);
}
