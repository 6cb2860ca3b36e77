-- Laws of the lines laid down for a form: how many they are, that each is good in its place, and that laying them down
-- further on raises them.
use Rattle.std.specs.Prelude.{ℕ, ◌+◌, ◌<◌, ◌≤◌, ◌≡◌, Bool, true, ◌&&◌, List, [], ◌∷◌, ◌++◌, map}
use Rattle.std.proofs.Common.{add_assoc, add-zero, add-suc, suc-add, add-one, arith, sym, ap, ◌∙◌, length-append, lt-ltb, le-leb}
use Rattle.std.proofs.Math.Path.{refl}
use Rattle.std.proofs.Math.Bool.{and_assoc}
use Rattle.std.proofs.lemmas.List.{map-append, length-map}
use Rattle.std.proofs.Math.ListN.{length}
use Rattle.pactl.specs.declared.Line.{Line}
use Rattle.rules.specs.declared.Constant.{Constant}
use Rattle.rules.specs.declared.Constant.TheVariants.{True, False}
use Rattle.rules.specs.declared.Unary.{Unary}
use Rattle.rules.specs.declared.Unary.TheVariants.{Not, Ey, Ep, Ap, Ay, Eh, Ah}
use Rattle.rules.specs.declared.Binary.{Binary}
use Rattle.rules.specs.declared.Binary.TheVariants.{And, Es, As, Or}
use Rattle.rules.specs.Formula.{Formula, atom, constant, unary, binary, Atoms, AtomsBelow}
use Rattle.rules.specs.Line.{true_lines, constant_lines, lines_before, lines_after, lines_between, lines_after_both, constant_weight, unary_weight, binary_weight, line_count, last_line, lines_at}
use Rattle.rules.specs.lines.Raised.{raised}
use Rattle.pactl.specs.Table.{good_line, good_from}
use Rattle.pactl.specs.Line.{proposition_line, not_line, and_line, ey_line, es_line, as_line}

-- How many lines

pub length-constant : (w : Constant) (n : ℕ) → length (constant_lines w n) ≡ constant_weight w
unfolding constant_lines constant_weight true_lines
length-constant True n = refl
length-constant False n = refl

pub length-unary : (w : Unary) (n t a : ℕ) → length (lines_before w n) + length (lines_after w t a) ≡ unary_weight w
unfolding lines_before lines_after unary_weight true_lines
length-unary Not n t a = refl
length-unary Ey n t a = refl
length-unary Ep n t a = refl
length-unary Ap n t a = refl
length-unary Ay n t a = refl
length-unary Eh n t a = refl
length-unary Ah n t a = refl

pub length-binary : (w : Binary) (a c b : ℕ) → length (lines_between w a) + length (lines_after_both w c b) ≡ binary_weight w
unfolding lines_between lines_after_both binary_weight
length-binary And a c b = refl
length-binary Es a c b = refl
length-binary As a c b = refl
length-binary Or a c b = refl

-- A form's lines are as many as it counts.
pub length-lines_at : (n : ℕ) (f : Formula) → length (lines_at n f) ≡ line_count f
unfolding lines_at line_count
length-lines_at n (atom p b) = refl
length-lines_at n (constant w) = length-constant w n
length-lines_at n (unary w f) =
    let m = n + length (lines_before w n) in
    simp (length-append, length-lines_at m f)
    (omega (arith, length-unary w n (n + 3) (last_line m f)))
length-lines_at n (binary w f g) =
    let a = last_line n f in
    let m = n + line_count f + length (lines_between w a) in
    simp (length-append, length-lines_at n f, length-lines_at m g)
    (omega (arith, length-binary w a a (last_line m g)))

-- A form has at least one line.
pub line_count_pos : (f : Formula) → 1 ≤ line_count f
unfolding line_count
line_count_pos (atom p b) = omega arith
line_count_pos (constant w) = pos w
  where
    pos : (w : Constant) → 1 ≤ constant_weight w
    pos True = unfold constant_weight in (omega arith)
    pos False = unfold constant_weight in (omega arith)
line_count_pos (unary w f) = omega (arith, line_count_pos f)
line_count_pos (binary w f g) = omega (arith, line_count_pos f)

-- Every line laid down is good

and_i : {a b : Bool} → a ≡ true → b ≡ true → (a && b) ≡ true
and_i p q = rw (p, q)

good_from-append : (k i : ℕ) (xs ys : List Line) → good_from k i (xs ++ ys) ≡ (good_from k i xs && good_from k (i + length xs) ys)
unfolding good_from
good_from-append k i [] ys = rw (add-zero i)
good_from-append k i (x ∷ xs) ys =
    rw (good_from-append k (i + 1) xs ys, add-suc i (length xs), ← suc-add i (length xs), ← add-one i, and_assoc)

good_append : (k i j : ℕ) (xs ys : List Line) → good_from k i xs ≡ true → j ≡ i + length xs → good_from k j ys ≡ true → good_from k i (xs ++ ys) ≡ true
good_append k i j xs ys p e q = good_from-append k i xs ys ∙ and_i p (rw (← e) q)

module _ (k i : ℕ) where
  good_proposition : (p b : ℕ) → p < k → b ≤ 7 → good_line k i (proposition_line p b) ≡ true
  unfolding good_line
  good_proposition p b hp hb = and_i (lt-ltb p k hp) (le-leb b 7 hb)

  good_not : (a : ℕ) → a < i → good_line k i (not_line a) ≡ true
  unfolding good_line
  good_not a h = and_i (lt-ltb a i h) refl

  good_ey : (a : ℕ) → a < i → good_line k i (ey_line a) ≡ true
  unfolding good_line
  good_ey a h = and_i (lt-ltb a i h) refl

  good_and : (a b : ℕ) → a < i → b < i → good_line k i (and_line a b) ≡ true
  unfolding good_line
  good_and a b h g = and_i (lt-ltb a i h) (lt-ltb b i g)

  good_es : (a b : ℕ) → a < i → b < i → good_line k i (es_line a b) ≡ true
  unfolding good_line
  good_es a b h g = and_i (lt-ltb a i h) (lt-ltb b i g)

  good_as : (a b : ℕ) → a < i → b < i → good_line k i (as_line a b) ≡ true
  unfolding good_line
  good_as a b h g = and_i (lt-ltb a i h) (lt-ltb b i g)

module _ (k : ℕ) (hk : 0 < k) where
  good_true : (n : ℕ) → good_from k n (true_lines n) ≡ true
  unfolding good_from true_lines
  good_true n =
      and_i (good_proposition k n 0 0 hk (omega arith))
      (and_i (good_not k (n + 1) n (omega arith))
      (and_i (good_and k (n + 1 + 1) n (n + 1) (omega arith) (omega arith))
      (and_i (good_not k (n + 1 + 1 + 1) (n + 2) (omega arith)) refl)))

  good_constant : (w : Constant) (n : ℕ) → good_from k n (constant_lines w n) ≡ true
  unfolding constant_lines
  good_constant True n = good_true n
  good_constant False n =
      good_from-append k n (true_lines n) (not_line (n + 3) ∷ [])
      ∙ and_i (good_true n) (unfold good_from true_lines in (and_i (good_not k (n + 4) (n + 3) (omega arith)) refl))

  good_before : (w : Unary) (n : ℕ) → good_from k n (lines_before w n) ≡ true
  unfolding lines_before good_from
  good_before Not n = refl
  good_before Ey n = refl
  good_before Ep n = good_true n
  good_before Ap n = good_true n
  good_before Ay n = refl
  good_before Eh n = good_true n
  good_before Ah n = good_true n

  good_after : (w : Unary) (n a : ℕ) → n + length (lines_before w n) ≤ a → good_from k (a + 1) (lines_after w (n + 3) a) ≡ true
  unfolding lines_before lines_after good_from true_lines
  good_after Not n a h = and_i (good_not k (a + 1) a (omega arith)) refl
  good_after Ey n a h = and_i (good_ey k (a + 1) a (omega arith)) refl
  good_after Ep n a h = and_i (good_es k (a + 1) (n + 3) a (omega arith) (omega arith)) refl
  good_after Ap n a h = and_i (good_as k (a + 1) (n + 3) a (omega arith) (omega arith)) refl
  good_after Ay n a h =
      and_i (good_not k (a + 1) a (omega arith))
      (and_i (good_ey k (a + 1 + 1) (a + 1) (omega arith))
      (and_i (good_not k (a + 1 + 1 + 1) (a + 2) (omega arith)) refl))
  good_after Eh n a h =
      and_i (good_not k (a + 1) a (omega arith))
      (and_i (good_as k (a + 1 + 1) (n + 3) (a + 1) (omega arith) (omega arith))
      (and_i (good_not k (a + 1 + 1 + 1) (a + 2) (omega arith)) refl))
  good_after Ah n a h =
      and_i (good_not k (a + 1) a (omega arith))
      (and_i (good_es k (a + 1 + 1) (n + 3) (a + 1) (omega arith) (omega arith))
      (and_i (good_not k (a + 1 + 1 + 1) (a + 2) (omega arith)) refl))

  good_between : (w : Binary) (a : ℕ) → good_from k (a + 1) (lines_between w a) ≡ true
  unfolding lines_between good_from
  good_between And a = refl
  good_between Es a = refl
  good_between As a = refl
  good_between Or a = and_i (good_not k (a + 1) a (omega arith)) refl

  good_after-both : (w : Binary) (a b : ℕ) → a + 1 + length (lines_between w a) ≤ b → good_from k (b + 1) (lines_after_both w a b) ≡ true
  unfolding lines_between lines_after_both good_from
  good_after-both And a b h = and_i (good_and k (b + 1) a b (omega arith) (omega arith)) refl
  good_after-both Es a b h = and_i (good_es k (b + 1) a b (omega arith) (omega arith)) refl
  good_after-both As a b h = and_i (good_as k (b + 1) a b (omega arith) (omega arith)) refl
  good_after-both Or a b h =
      and_i (good_not k (b + 1) b (omega arith))
      (and_i (good_and k (b + 1 + 1) (a + 1) (b + 1) (omega arith) (omega arith))
      (and_i (good_not k (b + 1 + 1 + 1) (b + 2) (omega arith)) refl))

  -- The lines laid down for a form whose atoms are within k and 7 are never turned back by 34.
  pub good_lines_at : (n : ℕ) (f : Formula) → AtomsBelow k f → good_from k n (lines_at n f) ≡ true
  unfolding lines_at Atoms
  good_lines_at n (atom p b) h = unfold good_from in (and_i (good_proposition k n p b h.0 h.1) refl)
  good_lines_at n (constant w) h = good_constant w n
  good_lines_at n (unary w f) h =
      let xs = lines_before w n in
      let m = n + length xs in
      let ys = lines_at m f in
      let long : length (xs ++ ys) ≡ length xs + line_count f = simp (length-append, length-lines_at m f) in
      good_append k n (last_line m f + 1) (xs ++ ys) (lines_after w (n + 3) (last_line m f))
      (good_append k n m xs ys (good_before w n) refl (good_lines_at m f h))
      (omega (arith, long, line_count_pos f))
      (good_after w n (last_line m f) (omega (arith, line_count_pos f)))
  good_lines_at n (binary w f g) h =
      let xs = lines_at n f in
      let a = last_line n f in
      let ys = lines_between w a in
      let m = n + line_count f + length ys in
      let zs = lines_at m g in
      let long₁ : length xs ≡ line_count f = length-lines_at n f in
      let long₂ : length (xs ++ ys) ≡ line_count f + length ys = simp (length-append, length-lines_at n f) in
      let long₃ : length (xs ++ ys ++ zs) ≡ line_count f + length ys + line_count g = simp (length-append, length-lines_at n f, length-lines_at m g) in
      good_append k n (last_line m g + 1) (xs ++ ys ++ zs) (lines_after_both w a (last_line m g))
      (good_append k n m (xs ++ ys) zs
      (good_append k n (a + 1) xs ys (good_lines_at n f h.0) (omega (arith, line_count_pos f)) (good_between w a))
      (omega arith)
      (good_lines_at m g h.1))
      (omega (arith, line_count_pos g))
      (good_after-both w a (last_line m g) (omega (arith, line_count_pos f, line_count_pos g)))

-- Lines laid down further on

raised-true : (n m : ℕ) → true_lines (n + m) ≡ map (raised n) (true_lines m)
unfolding true_lines raised
raised-true n m = simp add_assoc

raised-constant : (w : Constant) (n m : ℕ) → constant_lines w (n + m) ≡ map (raised n) (constant_lines w m)
unfolding constant_lines true_lines raised
raised-constant True n m = simp add_assoc
raised-constant False n m = simp add_assoc

raised-before : (w : Unary) (n m : ℕ) → lines_before w (n + m) ≡ map (raised n) (lines_before w m)
unfolding lines_before
raised-before Not n m = refl
raised-before Ey n m = refl
raised-before Ep n m = raised-true n m
raised-before Ap n m = raised-true n m
raised-before Ay n m = refl
raised-before Eh n m = raised-true n m
raised-before Ah n m = raised-true n m

raised-after : (w : Unary) (n t a : ℕ) → lines_after w (n + t) (n + a) ≡ map (raised n) (lines_after w t a)
unfolding lines_after raised
raised-after Not n t a = refl
raised-after Ey n t a = refl
raised-after Ep n t a = refl
raised-after Ap n t a = refl
raised-after Ay n t a = simp add_assoc
raised-after Eh n t a = simp add_assoc
raised-after Ah n t a = simp add_assoc

raised-between : (w : Binary) (n a : ℕ) → lines_between w (n + a) ≡ map (raised n) (lines_between w a)
unfolding lines_between raised
raised-between And n a = refl
raised-between Es n a = refl
raised-between As n a = refl
raised-between Or n a = refl

raised-after-both : (w : Binary) (n a b : ℕ) → lines_after_both w (n + a) (n + b) ≡ map (raised n) (lines_after_both w a b)
unfolding lines_after_both raised
raised-after-both And n a b = refl
raised-after-both Es n a b = refl
raised-after-both As n a b = refl
raised-after-both Or n a b = simp add_assoc

-- The lines of a form laid down n further on name every line n further on.
pub lines_at-raised : (n m : ℕ) (f : Formula) → lines_at (n + m) f ≡ map (raised n) (lines_at m f)
unfolding lines_at
lines_at-raised n m (atom p b) = unfold raised in refl
lines_at-raised n m (constant w) = raised-constant w n m
lines_at-raised n m (unary w f) =
    let l = m + length (lines_before w m) in
    let e₁ : n + m + length (lines_before w (n + m)) ≡ n + l =
    omega (arith, ap length (raised-before w n m) ∙ length-map (lines_before w m) (raised n))
    in
    let e₂ : last_line (n + l) f ≡ n + last_line l f = omega (arith, line_count_pos f) in
    rw (e₁, e₂, add_assoc n m 3, raised-before w n m, lines_at-raised n l f, raised-after w n (m + 3) (last_line l f))
    (sym (simp map-append))
lines_at-raised n m (binary w f g) =
    let a = last_line m f in
    let l = m + line_count f + length (lines_between w a) in
    let e₁ : last_line (n + m) f ≡ n + a = omega (arith, line_count_pos f) in
    let e₂ : n + m + line_count f + length (lines_between w (n + a)) ≡ n + l =
    omega (arith, ap length (raised-between w n a) ∙ length-map (lines_between w a) (raised n))
    in
    let e₃ : last_line (n + l) g ≡ n + last_line l g = omega (arith, line_count_pos g) in
    rw (e₁, e₂, e₃, lines_at-raised n m f, raised-between w n a, lines_at-raised n l g, raised-after-both w n a (last_line l g))
    (sym (simp map-append))
