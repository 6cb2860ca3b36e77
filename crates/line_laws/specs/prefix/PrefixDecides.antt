-- Of a long line eleven bytes behind the limit are enough: the line has the same answer as its first 4,107 bytes.
use Prim.Native.Nat.{ℕ, zero, suc, ◌+◌, ◌-◌, ◌≤◌, ◌<◌}
use Rattle.std.proofs.Common.{arith, sym, ap, ◌∙◌, length-take-le, get_or-take, take_all}
use Rattle.std.specs.Prelude.{◌≡◌, Bool, ◌⊎◌, leb, eqb, take, drop}
use Rattle.std.proofs.Math.Path.{refl}
use Rattle.std.proofs.Math.Bool.{true, false, cond}
use Rattle.std.proofs.Math.Logic.{inl, inr}
use mathlib.Core.List.{List, [], ◌∷◌, ◌++◌}
use Rattle.std.proofs.Math.Dec.{ltb}
use Rattle.std.proofs.Math.ListN.{length}
use borrow.Author.Tests.{ltb-true, ltb-false, leb-true, leb-false, lt-ltb}
use Rattle.rules.specs.Text.{byte_at}
use Rattle.line_pieces.specs.Read.{Read, At, Refused}
use Rattle.codec.specs.Decimal.{is_digit, digits}
use Rattle.line_pieces.specs.Number.{number_at}
use Rattle.line_pieces.specs.NumberLaws.{digits_next, digits-end, number-after}
use Rattle.line_pieces.specs.Reading.{then_byte, then_number, then_end, line_limit, limited}
use Rattle.line_laws.specs.faults.GrammarTheorem.{line_read}
use Rattle.line_pieces.specs.NumberList.{list_read, after_number, numbers_at, all_numbers_at, then_list, then_spaced_list, then_close}
use Rattle.line_laws.specs.pieces.ReadPieces.{read_piece, read_pieces, place_in, if_test, numbers_from, byte_from, close_from, piece_from, piece_stays}
use Rattle.line_laws.specs.Grammar.{Piece, a_byte, a_number, list, spaced_list}
use Rattle.line_laws.specs.faults.TenIsFault.{not_at, Judged, number_judged}
use Rattle.line_laws.specs.prefix.LongNumbers.{most_digits, Short, long_at}

-- The bytes that are enough: behind the limit, one more than a number within its limit has digits.
abbrev pub enough : ℕ
enough = line_limit + (most_digits + 1)

-- A line, and another one that has its first bytes.
pub record Front (s front : List ℕ) : Type 0 where
  pub long : enough ≤ length s
  pub size : length front ≡ enough
  pub bytes : (i : ℕ) → i < enough → byte_at front i ≡ byte_at s i

-- No number of a piece has more digits.
abbrev pub Modest : Piece → Type 0
Modest (a_byte b) = Unit {0}
Modest (a_number least most b) = Short most
Modest (list ascending most fewest fullest) = Short most
Modest (spaced_list most fewest fullest) = Short most

unfoldable pub AllModest : List Piece → Type 0
AllModest [] = Unit {0}
AllModest (p ∷ ps) = Modest p × AllModest ps

-- Both readings are the same, or both are behind the limit.
abbrev pub Far : Read → Type 0
Far r = line_limit < place_in r

abbrev pub Same : Read → Read → Type 0
Same r q = (r ≡ q) ⊎ (Far r × Far q)

module _ {s front : List ℕ} (f : Front s front) where
  -- Digits that end within the first bytes are the same; else there are digits up to their end.
  digits_front : (k i : ℕ) → i + k ≡ enough
      → (digits (drop i front) ≡ digits (drop i s))
      ⊎ ((k ≤ length (digits (drop i front))) × (k ≤ length (digits (drop i s))))
  digits_front zero i h = inr (omega arith, omega arith)
  digits_front (suc k) i h = go (is_digit (byte_at s i)) refl (digits_front k (i + 1) (omega arith))
    where
      same : byte_at front i ≡ byte_at s i
      same = f.bytes i (omega arith)

      go : (t : Bool) → is_digit (byte_at s i) ≡ t
          → (digits (drop (i + 1) front) ≡ digits (drop (i + 1) s))
          ⊎ ((k ≤ length (digits (drop (i + 1) front))) × (k ≤ length (digits (drop (i + 1) s))))
          → (digits (drop i front) ≡ digits (drop i s))
          ⊎ ((suc k ≤ length (digits (drop i front))) × (suc k ≤ length (digits (drop i s))))
      go false e q = inl (digits-end front i (rw same e) ∙ sym (digits-end s i e))
      go true e (inl q) = inl (digits_next front i (rw same e) ∙ rw (same, q) (sym (digits_next s i e)))
      go true e (inr q) =
          let a = ap length (digits_next front i (rw same e)) in
          let b = ap length (digits_next s i e) in
          inr (omega (arith, a, q.0), omega (arith, b, q.1))

  number_front : (i least most : ℕ) → i ≤ line_limit → Short most
      → number_at front i least most ≡ number_at s i least most
  unfolding number_at
  number_front i least most h m = go (digits_front (enough - i) i (omega arith))
    where
      go : (digits (drop i front) ≡ digits (drop i s))
          ⊎ ((enough - i ≤ length (digits (drop i front))) × (enough - i ≤ length (digits (drop i s))))
          → number_at front i least most ≡ number_at s i least most
      go (inl e) = rw e
      go (inr e) =
          long_at front i least most m (omega (arith, e.0))
          ∙ rw (f.bytes i (omega arith)) (sym (long_at s i least most m (omega (arith, e.1))))

  -- A number that is read ends within the first bytes.
  number_short : (i least most j v : ℕ) → i ≤ line_limit → Short most → number_at s i least most ≡ At j v → j < enough
  unfolding Judged
  number_short i least most j v h m e = go (ltb j enough) refl (rw e at (number_judged s i least most))
    where
      never : (b : Bool) → cond b (Refused 1 (i + 1)) (Refused 10 i) ≡ At j v → ⊥
      never true k = not_at j v 1 (i + 1) (sym k)
      never false k = not_at j v 10 i (sym k)

      go : (t : Bool) → ltb j enough ≡ t → Judged s i least most (At j v) → j < enough
      go true q u = ltb-true j enough q
      go false q u =
          absurd (never (eqb (byte_at s i) 48)
          (sym (long_at s i least most m (omega (arith, u.1.0.ends, ltb-false j enough q))) ∙ e))

  numbers_front : (left left' : ℕ) (ascending : Bool) (most least : ℕ) (ns : List ℕ) (i : ℕ) → i ≤ line_limit
      → Short most
      → length s < i + left → enough < i + left'
      → Same (numbers_at left s ascending most least ns i).read (numbers_at left' front ascending most least ns i).read
  unfolding numbers_at after_number
  numbers_front zero left' ascending most least ns i h m a b = absurd (omega (arith, f.long))
  numbers_front (suc left) zero ascending most least ns i h m a b = absurd (omega arith)
  numbers_front (suc left) (suc left') ascending most least ns i h m a b =
      rw (number_front i least most h m)
      (go (number_at s i least most) refl
      (λ (x : ℕ) (l : List ℕ) (j : ℕ) p q r. numbers_front left left' ascending most x l j p m q r))
    where
      next : (j v : ℕ) → i < j → (t : Bool)
          → ((x : ℕ) (l : List ℕ) (j : ℕ) → j ≤ line_limit → length s < j + left → enough < j + left'
          → Same (numbers_at left s ascending most x l j).read (numbers_at left' front ascending most x l j).read)
          → Same (cond t (numbers_at left s ascending most (cond ascending (v + 1) 0) (ns ++ v ∷ []) (j + 1))
          (list_read (ns ++ v ∷ []) (At j (length ns + 1)))).read
          (cond t (numbers_at left' front ascending most (cond ascending (v + 1) 0) (ns ++ v ∷ []) (j + 1))
          (list_read (ns ++ v ∷ []) (At j (length ns + 1)))).read
      next j v p false further = inl refl
      next j v p true further = near (ltb line_limit (j + 1)) refl
        where
          near : (t : Bool) → ltb line_limit (j + 1) ≡ t
              → Same (numbers_at left s ascending most (cond ascending (v + 1) 0) (ns ++ v ∷ []) (j + 1)).read
              (numbers_at left' front ascending most (cond ascending (v + 1) 0) (ns ++ v ∷ []) (j + 1)).read
          near true q =
              let k = ltb-true line_limit (j + 1) q in
              let x = numbers_from left s ascending most (cond ascending (v + 1) 0) (ns ++ v ∷ []) (j + 1) in
              let y = numbers_from left' front ascending most (cond ascending (v + 1) 0) (ns ++ v ∷ []) (j + 1) in
              inr (omega (arith, x, k), omega (arith, y, k))
          near false q = further (cond ascending (v + 1) 0) (ns ++ v ∷ []) (j + 1) (ltb-false line_limit (j + 1) q)
              (omega arith) (omega arith)

      go : (r : Read) → number_at s i least most ≡ r
          → ((x : ℕ) (l : List ℕ) (j : ℕ) → j ≤ line_limit → length s < j + left → enough < j + left'
          → Same (numbers_at left s ascending most x l j).read (numbers_at left' front ascending most x l j).read)
          → Same (after_number s ascending (numbers_at left s ascending most) ns r).read
          (after_number front ascending (numbers_at left' front ascending most) ns r).read
      go (Refused n j) e further = inl refl
      go (At j v) e further =
          let p = number-after s i least most j v e in
          let short = number_short i least most j v h m e in
          rw (f.bytes j short) (next j v p.behind (eqb (byte_at s j) 32) further)

  -- A byte, and a list's closing bracket.
  byte_same : (b : ℕ) (r q : Read) → Same r q → Same (then_byte s b r) (then_byte front b q)
  unfolding then_byte place_in
  byte_same b r q (inr (x, y)) = let a = byte_from s b r in let c = byte_from front b q in
      inr (omega (arith, a, x), omega (arith, c, y))
  byte_same b (Refused n i) q (inl e) = rw (← e) (inl refl)
  byte_same b (At i v) q (inl e) = rw (← e) (go (ltb line_limit i) refl)
    where
      go : (t : Bool) → ltb line_limit i ≡ t → Same (then_byte s b (At i v)) (then_byte front b (At i v))
      go true k =
          let l = ltb-true line_limit i k in
          let a = byte_from s b (At i v) in
          let c = byte_from front b (At i v) in
          inr (omega (arith, a, l), omega (arith, c, l))
      go false k = let l = ltb-false line_limit i k in rw (f.bytes i (omega arith)) (inl refl)

  close_same : (x y : ℕ) (r q : Read) → Same r q → Same (then_close s x y r) (then_close front x y q)
  unfolding then_close place_in
  close_same x y r q (inr (z, w)) = let a = close_from s x y r in let c = close_from front x y q in
      inr (omega (arith, a, z), omega (arith, c, w))
  close_same x y (Refused n i) q (inl e) = rw (← e) (inl refl)
  close_same x y (At i v) q (inl e) = rw (← e) (go (ltb line_limit i) refl)
    where
      go : (t : Bool) → ltb line_limit i ≡ t → Same (then_close s x y (At i v)) (then_close front x y (At i v))
      go true k =
          let l = ltb-true line_limit i k in
          let a = close_from s x y (At i v) in
          let c = close_from front x y (At i v) in
          inr (omega (arith, a, l), omega (arith, c, l))
      go false k = let l = ltb-false line_limit i k in rw (f.bytes i (omega arith)) (inl refl)

  -- A piece that begins within the limit.
  list_same : (ascending : Bool) (most i v : ℕ) → i ≤ line_limit → Short most
      → Same (then_list s ascending most (At i v)).read (then_list front ascending most (At i v)).read
  unfolding then_list
  list_same ascending most i v h m = rw (f.bytes i (omega arith)) (go (eqb (byte_at s i) 41))
    where
      go : (t : Bool) → Same (cond t (list_read [] (At i 0)) (all_numbers_at s ascending most i)).read
          (cond t (list_read [] (At i 0)) (all_numbers_at front ascending most i)).read
      go true = inl refl
      go false = numbers_front (length s + 1) (length front + 1) ascending most 0 [] i h m (omega arith)
          (omega (arith, f.size))

  spaced-same : (most i v : ℕ) → i ≤ line_limit → Short most
      → Same (then_spaced_list s most (At i v)).read (then_spaced_list front most (At i v)).read
  unfolding then_spaced_list
  spaced-same most i v h m = rw (f.bytes i (omega arith)) (go (eqb (byte_at s i) 32))
    where
      near : (t : Bool) → ltb line_limit (i + 1) ≡ t
          → Same (all_numbers_at s false most (i + 1)).read (all_numbers_at front false most (i + 1)).read
      near true q =
          let k = ltb-true line_limit (i + 1) q in
          let x = numbers_from (length s + 1) s false most 0 [] (i + 1) in
          let y = numbers_from (length front + 1) front false most 0 [] (i + 1) in
          inr (omega (arith, x, k), omega (arith, y, k))
      near false q =
          numbers_front (length s + 1) (length front + 1) false most 0 [] (i + 1) (ltb-false line_limit (i + 1) q) m
          (omega arith) (omega (arith, f.size))

      go : (t : Bool) → Same (cond t (all_numbers_at s false most (i + 1)) (list_read [] (At i 0))).read
          (cond t (all_numbers_at front false most (i + 1)) (list_read [] (At i 0))).read
      go true = near (ltb line_limit (i + 1)) refl
      go false = inl refl

  piece_near : (p : Piece) (i v : ℕ) → Modest p → i ≤ line_limit
      → Same (read_piece s p (At i v)) (read_piece front p (At i v))
  unfolding read_piece then_number
  piece_near (a_byte b) i v m h = byte_same b (At i v) (At i v) (inl refl)
  piece_near (a_number least most b) i v m h =
      byte_same b (number_at s i least most) (number_at front i least most) (inl (sym (number_front i least most h m)))
  piece_near (list ascending most fewest fullest) i v m h =
      close_same fewest fullest (then_list s ascending most (At i v)).read
      (then_list front ascending most (At i v)).read (list_same ascending most i v h m)
  piece_near (spaced_list most fewest fullest) i v m h =
      close_same fewest fullest (then_spaced_list s most (At i v)).read (then_spaced_list front most (At i v)).read
      (spaced-same most i v h m)

  piece_same : (p : Piece) (r q : Read) → Modest p → Same r q → Same (read_piece s p r) (read_piece front p q)
  unfolding place_in
  piece_same p r q m (inr (x, y)) = let a = piece_from s p r in let c = piece_from front p q in
      inr (omega (arith, a, x), omega (arith, c, y))
  piece_same p (Refused n i) q m (inl e) = rw (← e, piece_stays s p n i, piece_stays front p n i) (inl refl)
  piece_same p (At i v) q m (inl e) = rw (← e) (go (ltb line_limit i) refl)
    where
      go : (t : Bool) → ltb line_limit i ≡ t → Same (read_piece s p (At i v)) (read_piece front p (At i v))
      go true k =
          let l = ltb-true line_limit i k in
          let a = piece_from s p (At i v) in
          let c = piece_from front p (At i v) in
          inr (omega (arith, a, l), omega (arith, c, l))
      go false k = piece_near p i v m (ltb-false line_limit i k)

  pub pieces_same : (ps : List Piece) (r q : Read) → AllModest ps → Same r q
      → Same (read_pieces s ps r) (read_pieces front ps q)
  unfolding read_pieces AllModest
  pieces_same [] r q m h = h
  pieces_same (p ∷ ps) r q m h =
      pieces_same ps (read_piece s p r) (read_piece front p q) m.1 (piece_same p r q m.0 h)

  -- The line's end and its length.
  pub end_same : (r q : Read) → Same r q → Same (then_end s r) (then_end front q)
  unfolding then_end place_in
  end_same r q (inr (x, y)) = inr (far s r x, far front q y)
    where
      far : (l : List ℕ) (z : Read) → Far z → Far (then_end l z)
      far l (At i v) h = if_test Far (ltb i (length l)) (Refused 1 i) (At i v) h h
      far l (Refused n i) h = h
  end_same (Refused n i) q (inl e) = rw (← e) (inl refl)
  end_same (At i v) q (inl e) = rw (← e) (go (ltb line_limit i) refl)
    where
      go : (t : Bool) → ltb line_limit i ≡ t → Same (then_end s (At i v)) (then_end front (At i v))
      go true k =
          let l = ltb-true line_limit i k in
          inr (
            if_test Far (ltb i (length s)) (Refused 1 i) (At i v) l l,
            if_test Far (ltb i (length front))
                (Refused 1 i) (At i v) l l,
          )
      go false k =
          let l = ltb-false line_limit i k in
          let a : ltb i (length s) ≡ true = lt-ltb i (length s) (omega (arith, f.long)) in
          let c : ltb i (length front) ≡ true = lt-ltb i (length front) (omega (arith, f.size)) in
          rw (a, c) (inl refl)

  pub limited-same : (r q : Read) → Same r q → limited s r ≡ limited front q
  unfolding limited place_in
  limited-same r q (inl e) = rw (← e) (go r)
    where
      a : ltb line_limit (length s) ≡ true
      a = lt-ltb line_limit (length s) (omega (arith, f.long))

      c : ltb line_limit (length front) ≡ true
      c = lt-ltb line_limit (length front) (omega (arith, f.size))

      go : (r : Read) → limited s r ≡ limited front r
      go (At i v) = rw (a, c)
      go (Refused n i) = rw (a, c)
  limited-same r q (inr (x, y)) = over s (omega (arith, f.long)) r x ∙ sym (over front (omega (arith, f.size)) q y)
    where
      over : (l : List ℕ) → line_limit < length l → (z : Read) → Far z → limited l z ≡ Refused 10 line_limit
      over l k (At i v) h = rw (lt-ltb line_limit (length l) k)
      over l k (Refused n i) h = rw (lt-ltb line_limit (length l) k, lt-ltb line_limit i h)

  line_same : (ps : List Piece) → AllModest ps → limited s (line_read s ps) ≡ limited front (line_read front ps)
  unfolding line_read
  line_same ps m =
      limited-same _ _ (end_same (read_pieces s ps (At 0 0)) (read_pieces front ps (At 0 0))
      (pieces_same ps (At 0 0) (At 0 0) m (inl refl)))

-- ---- The theorem

-- A line's answer is that of its first 4,107 bytes.
pub line-enough : (s : List ℕ) (ps : List Piece) → AllModest ps
    → limited (take enough s) (line_read (take enough s) ps) ≡ limited s (line_read s ps)
line-enough s ps m = go (leb enough (length s)) refl
  where
    go : (t : Bool) → leb enough (length s) ≡ t
        → limited (take enough s) (line_read (take enough s) ps) ≡ limited s (line_read s ps)
    go true e =
        let long = leb-true enough (length s) e in
        sym (line_same (record
        { long = long; size = length-take-le enough s long; bytes = λ i h. get_or-take enough s i 256 h }) ps m)
    go false e = let short = leb-false enough (length s) e in rw (take_all enough s (omega (arith, short)))
