-- What was moved is read at its own place: bytes as they were, counts as the numbers that they were.
use Rattle.std.specs.Prelude.{ℕ, zero, suc, ◌+◌, ◌-◌, ◌*◌, ◌^◌, ◌≤◌, ◌<◌, ◌≡◌, refl, false, List, [], ◌∷◌, ◌++◌, length, get_or, take, drop}
use Rattle.std.proofs.Common.{arith, zero-add, suc-add, sym, ap, ◌∙◌, subst, append_assoc, length-drop, take_at, drop_at, drop-drop, length-take-le}
use Rattle.codec.specs.Little.{number}
use Rattle.codec.specs.PutLaws.{number-drop}
use Rattle.frontiers.specs.ListLaws.{part-alike}
use Rattle.clocks.specs.stored.BoundedLaws.{or-false_e}
use Rattle.call_move.specs.Parts.{Part, plain, counts, many_of}
use Rattle.call_move.specs.PartLengths.{part_length, length_of}
use Rattle.call_move.specs.PartLaws.{length_of-append, moved-append, some_too_large-append, length_moved}
use Rattle.call_move.specs.CountLaws.{counts_fit}
use Rattle.call_move.specs.BackLaws.{number-again}
use Rattle.call_move.specs.Move.{moved, some_too_large}

-- Things of one kind: some, one, and the others.
pub repeated_apart : (i j : ℕ) (ps : List Part) → many_of (i + suc j) ps ≡ many_of i ps ++ (ps ++ many_of j ps)
unfolding many_of
repeated_apart zero j ps = rw zero-add
repeated_apart (suc i) j ps = rw (suc-add, repeated_apart i j ps, append_assoc)

-- ---- Behind some parts

module _ (v w : ℕ) (ps qs : List Part) (s : List ℕ) where
  pub behind : length_of v ps ≤ length s
      → drop (length_of w ps) (moved v w (ps ++ qs) s) ≡ moved v w qs (drop (length_of v ps) s)
  behind h =
      rw (moved-append v w ps qs s)
      (drop_at (moved v w ps s) (moved v w qs (drop (length_of v ps) s)) (length_of w ps) (length_moved v w ps s h))

  pub fit_behind : some_too_large v w (ps ++ qs) s ≡ false → some_too_large v w qs (drop (length_of v ps) s) ≡ false
  fit_behind f =
      (or-false_e (some_too_large v w ps s) (some_too_large v w qs (drop (length_of v ps) s))
      (sym (some_too_large-append v w ps qs s) ∙ f)).1

-- Where no count is too large, none is in number i of the things of one kind.
pub none_in_each : (v w : ℕ) (ps qs : List Part) (s : List ℕ) (n i : ℕ) → i < n
    → some_too_large v w (ps ++ many_of n qs) s ≡ false
    → some_too_large v w qs (drop (length_of v (ps ++ many_of i qs)) s) ≡ false
none_in_each v w ps qs s n i l h =
    let front = ps ++ many_of i qs in
    let rest = many_of (n - suc i) qs in
    let tail = drop (length_of v front) s in
    let all : n ≡ i + suc (n - suc i) = omega arith in
    let apart : ps ++ many_of n qs ≡ front ++ (qs ++ rest) =
    ap (λ (m : ℕ). ps ++ many_of m qs) all ∙ ap (λ (l : List Part). ps ++ l) (repeated_apart i (n - suc i) qs)
    ∙ sym (append_assoc ps (many_of i qs) (qs ++ rest)) in
    (or-false_e (some_too_large v w qs tail) (some_too_large v w rest (drop (length_of v qs) tail))
    (sym (some_too_large-append v w qs rest tail)
    ∙ fit_behind v w front (qs ++ rest) s (subst (λ (l : List Part). some_too_large v w l s ≡ false) apart h))
    ).0

-- Bytes behind some parts.
module _ (v w : ℕ) (ps : List Part) (n : ℕ) (qs : List Part) (s : List ℕ)
    (h : length_of v (ps ++ (plain n ∷ qs)) ≤ length s) where
  enough : length_of v ps + n ≤ length s
  unfolding length_of part_length
  enough = omega (arith, length_of-append v ps (plain n ∷ qs))

  there : drop (length_of w ps) (moved v w (ps ++ (plain n ∷ qs)) s)
      ≡ take n (drop (length_of v ps) s) ++ moved v w qs (drop n (drop (length_of v ps) s))
  unfolding moved
  there = behind v w ps (plain n ∷ qs) s (omega (arith, enough))

  pub part_moved : (i m : ℕ) → i + m ≤ n
      → take m (drop (length_of w ps + i) (moved v w (ps ++ (plain n ∷ qs)) s)) ≡ take m (drop (length_of v ps + i) s)
  part_moved i m l =
      let tail = drop (length_of v ps) s in
      let long : length (take n tail) ≡ n =
      length-take-le n tail (rw (length-drop (length_of v ps) s) (omega (arith, enough))) in
      let front : take n (take n tail ++ moved v w qs (drop n tail)) ≡ take n tail =
      take_at (take n tail) (moved v w qs (drop n tail)) n long in
      rw (
        ← drop-drop i (length_of w ps) (moved v w (ps ++ (plain n ∷ qs)) s),
        there,
        ← drop-drop i (length_of v ps) s,
      )
      (part-alike (take n tail ++ moved v w qs (drop n tail)) tail n i m l front)

  pub byte_moved : (i : ℕ) → i < n
      → get_or (moved v w (ps ++ (plain n ∷ qs)) s) (length_of w ps + i) 0 ≡ get_or s (length_of v ps + i) 0
  byte_moved i l =
      let whole = moved v w (ps ++ (plain n ∷ qs)) s in
      first whole (length_of w ps + i)
      ∙ ap (λ (x : List ℕ). get_or x 0 0) (part_moved i 1 (omega arith))
      ∙ sym (first s (length_of v ps + i))
    where
      one : (x : List ℕ) → get_or x 0 0 ≡ get_or (take 1 x) 0 0
      one [] = refl
      one (y ∷ ys) = refl

      first : (x : List ℕ) (j : ℕ) → get_or x j 0 ≡ get_or (take 1 (drop j x)) 0 0
      first x zero = one x
      first [] (suc j) = refl
      first (y ∷ ys) (suc j) = first ys j

-- A count behind some parts.
pub number-moved : (v w : ℕ) (ps : List Part) (n : ℕ) (qs : List Part) (s : List ℕ)
    → length_of v (ps ++ (counts n ∷ qs)) ≤ length s → some_too_large v w (ps ++ (counts n ∷ qs)) s ≡ false
    → (i : ℕ) → i < n
    → number (moved v w (ps ++ (counts n ∷ qs)) s) (length_of w ps + i * w) w ≡ number s (length_of v ps + i * v) v
unfolding moved
number-moved v w ps n qs s h f i l =
    let fit = (counts_fit v w n qs (drop (length_of v ps) s) (fit_behind v w ps (counts n ∷ qs) s f)).0 in
    let enough : length_of v ps ≤ length s = omega (arith, length_of-append v ps (counts n ∷ qs)) in
    sym (number-drop (moved v w (ps ++ (counts n ∷ qs)) s) (length_of w ps) (i * w) w)
    ∙ ap (λ (x : List ℕ). number x (i * w) w) (behind v w ps (counts n ∷ qs) s enough)
    ∙ number-again v w n (drop (length_of v ps) s) (moved v w qs (drop (n * v) (drop (length_of v ps) s))) fit i l
    ∙ number-drop s (length_of v ps) (i * v) v

-- ---- By places

-- A part of `whole` that begins at place a in the form of v, and at b in the form of w.
pub record Stands (v w : ℕ) (whole : List Part) (p : Part) (a b : ℕ) : Type 0 where
  pub before : List Part
  pub after : List Part
  pub parts : whole ≡ before ++ (p ∷ after)
  pub from : length_of v before ≡ a
  pub to : length_of w before ≡ b

pub stands_at : (v w : ℕ) (whole : List Part) (p : Part) (a b a' b' : ℕ) → Stands v w whole p a b → a ≡ a' → b ≡ b'
    → Stands v w whole p a' b'
stands_at v w whole p a b a' b' z e g =
    record { before = z.before; after = z.after; parts = z.parts; from = z.from ∙ e; to = z.to ∙ g }

module _ (v w : ℕ) (whole : List Part) (n a b : ℕ) (s : List ℕ) (h : length_of v whole ≤ length s) where
  pub part_at : Stands v w whole (plain n) a b → (i m : ℕ) → i + m ≤ n
      → take m (drop (b + i) (moved v w whole s)) ≡ take m (drop (a + i) s)
  part_at z i m l =
      rw (← z.from, ← z.to, z.parts) (part_moved v w z.before n z.after s (rw z.parts at h) i m l)

  pub byte_at : Stands v w whole (plain n) a b → (i : ℕ) → i < n → get_or (moved v w whole s) (b + i) 0 ≡ get_or s (a + i) 0
  byte_at z i l =
      rw (← z.from, ← z.to, z.parts) (byte_moved v w z.before n z.after s (rw z.parts at h) i l)

  pub number_at : Stands v w whole (counts n) a b → some_too_large v w whole s ≡ false → (i : ℕ) → i < n
      → number (moved v w whole s) (b + i * w) w ≡ number s (a + i * v) v
  number_at z f i l =
      rw (← z.from, ← z.to, z.parts)
      (number-moved v w z.before n z.after s (rw z.parts at h) (rw z.parts at f) i l)

  pub fit_at : Stands v w whole (counts n) a b → some_too_large v w whole s ≡ false → (i : ℕ) → i < n
      → number s (a + i * v) v < 256 ^ w
  fit_at z f i l =
      rw (← z.from, ← number-drop s (length_of v z.before) (i * v) v)
      ((counts_fit v w n z.after (drop (length_of v z.before) s)
      (fit_behind v w z.before (counts n ∷ z.after) s (rw z.parts at f))).0 i l)
