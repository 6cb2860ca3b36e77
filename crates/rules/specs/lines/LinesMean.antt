-- The lines laid down for a form mean the form: at its last line the table's truth is, at every cut, the truth by
-- source 000 of the formula that the form stands for (01, The rule: defined as in source 000).
use Prim.Native.Nat.{ℕ, ◌+◌, ◌<◌, ◌-◌, ◌≤◌}
use native.Mathlib.Omega.{arith}
use Rattle.std.specs.Prelude.{◌≡◌, refl, Bool, true, false, not, ◌&&◌, get_or}
use Rattle.std.proofs.Common.{ap, ap₂, ◌∙◌, get_or-append-add}
use Rattle.std.proofs.Math.Path.{fun_ext, sym}
use mathlib.Core.List.{List, ◌++◌, [], ◌∷◌}
use Rattle.std.proofs.Math.ListN.{length, length-append, get_or-append}
use Rattle.pactl.specs.declared.Line.{Line}
use Rattle.rules.specs.Line.{true_lines, constant_lines, lines_before, lines_after, constant_weight, lines_between, lines_after_both, line_count, last_line, lines_at}
use Rattle.pactl.specs.Truth.{Model, Property, proposition_holds, not_holds, and_holds, holds, line_truth, ey_holds, es_holds, as_holds}
use Rattle.pactl.specs.Table.{LineIs}
use Rattle.pactl.specs.LineTruthLaws.{proposition-line, not_line_lem, and-line, ey_line_lem, es_line_lem, as_line_lem}
use Rattle.rules.specs.Formula.{constant_meaning, unary_meaning, Formula, binary_meaning, meaning, atom, constant, unary, binary}
use Rattle.rules.specs.declared.Constant.{Constant}
use Rattle.rules.specs.declared.Constant.TheVariants.{True, False}
use Rattle.rules.specs.declared.Unary.{Unary}
use Rattle.rules.specs.declared.Unary.TheVariants.{Not, Ey, Ep, Ap, Ay, Eh, Ah}
use Rattle.rules.specs.declared.Binary.{Binary}
use Rattle.rules.specs.declared.Binary.TheVariants.{And, Es, As, Or}
use Rattle.rules.specs.lines.LineLaws.{length-unary, length-lines_at, line_count_pos, length-binary}
use Rattle.pactl.specs.Pactl.{disjunction, truth, Pactl, exists_previously, all_previously, proposition}
use Rattle.pactl.specs.Line.{line, proposition_line, not_line, and_line, ey_line, es_line, as_line}

-- ---- Where a form's lines stand in a table
abbrev pub LaidAt : List Line → ℕ → List Line → Type 0
LaidAt ls n xs = (j : ℕ) → j < length xs → LineIs ls (n + j) (get_or xs j (line 0 0 0))

laid_left : (ls : List Line) (n : ℕ) (xs ys : List Line) → LaidAt ls n (xs ++ ys) → LaidAt ls n xs
laid_left ls n xs ys h j l = let w = h j (simp length-append (omega arith)) in (w.0, w.1 ∙ get_or-append xs ys (line 0 0 0) j l)

laid_right : (ls : List Line) (n : ℕ) (xs ys : List Line) → LaidAt ls n (xs ++ ys) → LaidAt ls (n + length xs) ys
laid_right ls n xs ys h j l =
    let w = h (length xs + j) (simp length-append (omega arith)) in
    let e : n + length xs + j ≡ n + (length xs + j) = omega arith in
    (omega (arith, w.0), rw e (w.1 ∙ get_or-append-add xs ys j (line 0 0 0)))

-- line j of what stands from n on is line i of the table
laid_line : (ls : List Line) (n : ℕ) (xs : List Line) → LaidAt ls n xs → (j i : ℕ) → i ≡ n + j → j < length xs → (l : Line) → get_or xs j (line 0 0 0) ≡ l → LineIs ls i l
laid_line ls n xs h j i e k l g = let w = h j k in (omega (arith, w.0), rw e (w.1 ∙ g))

-- ---- true
always : Property
always S = true

excluded : (b : Bool) → not (b && not b) ≡ true
excluded true = refl
excluded false = refl

excluded_twice : (b : Bool) → not (not b && not (not b)) ≡ true
excluded_twice true = refl
excluded_twice false = refl

truth_always : (M : Model) → holds M truth ≡ always
unfolding holds truth disjunction not_holds and_holds always
truth_always M = fun_ext (λ S. excluded_twice (proposition_holds M 0 0 S))

module _ (M : Model) (ls : List Line) where
  -- each kind's law where the line stands, by what the named lines mean
  not_at : (i a : ℕ) (x : Property) → a < i → LineIs ls i (not_line a) → line_truth M ls a ≡ x → line_truth M ls i ≡ not_holds x
  not_at i a x j h e = not_line_lem M ls i a j h ∙ ap not_holds e

  and_at : (i a b : ℕ) (x y : Property) → a < i → b < i → LineIs ls i (and_line a b) → line_truth M ls a ≡ x → line_truth M ls b ≡ y → line_truth M ls i ≡ and_holds x y
  and_at i a b x y j k h d e = and-line M ls i a b j k h ∙ ap₂ and_holds d e

  ey_at : (i a : ℕ) (x : Property) → a < i → LineIs ls i (ey_line a) → line_truth M ls a ≡ x → line_truth M ls i ≡ ey_holds M x
  ey_at i a x j h e = ey_line_lem M ls i a j h ∙ ap (ey_holds M) e

  es_at : (i a b : ℕ) (x y : Property) → a < i → b < i → LineIs ls i (es_line a b) → line_truth M ls a ≡ x → line_truth M ls b ≡ y → line_truth M ls i ≡ es_holds M x y
  es_at i a b x y j k h d e = es_line_lem M ls i a b j k h ∙ ap₂ (es_holds M) d e

  as_at : (i a b : ℕ) (x y : Property) → a < i → b < i → LineIs ls i (as_line a b) → line_truth M ls a ≡ x → line_truth M ls b ≡ y → line_truth M ls i ≡ as_holds M x y
  as_at i a b x y j k h d e = as_line_lem M ls i a b j k h ∙ ap₂ (as_holds M) d e

  true_lines_lem : (n : ℕ) → LaidAt ls n (true_lines n) → line_truth M ls (n + 3) ≡ holds M truth
  unfolding true_lines not_holds and_holds always
  true_lines_lem n h =
      let q : Property = proposition_holds M 0 0 in
      let h0 : line_truth M ls n ≡ q = proposition-line M ls n 0 0 (laid_line ls n (true_lines n) h 0 n (omega arith) (omega arith) (proposition_line 0 0) refl) in
      let h1 : line_truth M ls (n + 1) ≡ not_holds q = not_at (n + 1) n q (omega arith) (h 1 (omega arith)) h0 in
      let h2 : line_truth M ls (n + 2) ≡ and_holds q (not_holds q) = and_at (n + 2) n (n + 1) q (not_holds q) (omega arith) (omega arith) (h 2 (omega arith)) h0 h1 in
      not_at (n + 3) (n + 2) (and_holds q (not_holds q)) (omega arith) (h 3 (omega arith)) h2 ∙ fun_ext (λ S. excluded (q S)) ∙ sym (truth_always M)

  constant_lines_lem : (w : Constant) (n : ℕ) → LaidAt ls n (constant_lines w n) → line_truth M ls (n + constant_weight w - 1) ≡ holds M (constant_meaning w)
  unfolding constant_lines constant_weight constant_meaning holds
  constant_lines_lem True n h = let e : n + 4 - 1 ≡ n + 3 = omega arith in rw e (true_lines_lem n h)
  constant_lines_lem False n h =
      let e : n + 5 - 1 ≡ n + 4 = omega arith in
      rw e (not_at (n + 4) (n + 3) (holds M truth) (omega arith)
      (laid_line ls (n + length (true_lines n)) (not_line (n + 3) ∷ []) (laid_right ls n (true_lines n) (not_line (n + 3) ∷ []) h) 0 (n + 4) (unfold true_lines in (omega arith)) (omega arith) (not_line (n + 3)) refl)
      (true_lines_lem n (laid_left ls n (true_lines n) (not_line (n + 3) ∷ []) h)))

  -- a word with one form: n is its first line, a the last line of the form, whose meaning is g
  unary_lines : (w : Unary) (n a : ℕ) (g : Pactl) → n + length (lines_before w n) ≤ a → LaidAt ls n (lines_before w n) → LaidAt ls (a + 1) (lines_after w (n + 3) a)
      → line_truth M ls a ≡ holds M g → line_truth M ls (a + length (lines_after w (n + 3) a)) ≡ holds M (unary_meaning w g)
  unfolding lines_before lines_after unary_meaning holds exists_previously all_previously true_lines
  unary_lines Not n a g m b h e = not_at (a + 1) a (holds M g) (omega arith) (laid_line ls (a + 1) (not_line a ∷ []) h 0 (a + 1) (omega arith) (omega arith) (not_line a) refl) e
  unary_lines Ey n a g m b h e = ey_at (a + 1) a (holds M g) (omega arith) (laid_line ls (a + 1) (ey_line a ∷ []) h 0 (a + 1) (omega arith) (omega arith) (ey_line a) refl) e
  unary_lines Ep n a g m b h e = es_at (a + 1) (n + 3) a (holds M truth) (holds M g) (omega arith) (omega arith) (laid_line ls (a + 1) (es_line (n + 3) a ∷ []) h 0 (a + 1) (omega arith) (omega arith) (es_line (n + 3) a) refl) (true_lines_lem n b) e
  unary_lines Ap n a g m b h e = as_at (a + 1) (n + 3) a (holds M truth) (holds M g) (omega arith) (omega arith) (laid_line ls (a + 1) (as_line (n + 3) a ∷ []) h 0 (a + 1) (omega arith) (omega arith) (as_line (n + 3) a) refl) (true_lines_lem n b) e
  unary_lines Ay n a g m b h e =
      let l : List Line = not_line a ∷ ey_line (a + 1) ∷ not_line (a + 2) ∷ [] in
      not_at (a + 3) (a + 2) (ey_holds M (not_holds (holds M g))) (omega arith) (laid_line ls (a + 1) l h 2 (a + 3) (omega arith) (omega arith) (not_line (a + 2)) refl)
      (ey_at (a + 2) (a + 1) (not_holds (holds M g)) (omega arith) (laid_line ls (a + 1) l h 1 (a + 2) (omega arith) (omega arith) (ey_line (a + 1)) refl)
      (not_at (a + 1) a (holds M g) (omega arith) (laid_line ls (a + 1) l h 0 (a + 1) (omega arith) (omega arith) (not_line a) refl) e))
  unary_lines Eh n a g m b h e =
      let l : List Line = not_line a ∷ as_line (n + 3) (a + 1) ∷ not_line (a + 2) ∷ [] in
      not_at (a + 3) (a + 2) (as_holds M (holds M truth) (not_holds (holds M g))) (omega arith) (laid_line ls (a + 1) l h 2 (a + 3) (omega arith) (omega arith) (not_line (a + 2)) refl)
      (as_at (a + 2) (n + 3) (a + 1) (holds M truth) (not_holds (holds M g)) (omega arith) (omega arith) (laid_line ls (a + 1) l h 1 (a + 2) (omega arith) (omega arith) (as_line (n + 3) (a + 1)) refl) (true_lines_lem n b)
      (not_at (a + 1) a (holds M g) (omega arith) (laid_line ls (a + 1) l h 0 (a + 1) (omega arith) (omega arith) (not_line a) refl) e))
  unary_lines Ah n a g m b h e =
      let l : List Line = not_line a ∷ es_line (n + 3) (a + 1) ∷ not_line (a + 2) ∷ [] in
      not_at (a + 3) (a + 2) (es_holds M (holds M truth) (not_holds (holds M g))) (omega arith) (laid_line ls (a + 1) l h 2 (a + 3) (omega arith) (omega arith) (not_line (a + 2)) refl)
      (es_at (a + 2) (n + 3) (a + 1) (holds M truth) (not_holds (holds M g)) (omega arith) (omega arith) (laid_line ls (a + 1) l h 1 (a + 2) (omega arith) (omega arith) (es_line (n + 3) (a + 1)) refl) (true_lines_lem n b)
      (not_at (a + 1) a (holds M g) (omega arith) (laid_line ls (a + 1) l h 0 (a + 1) (omega arith) (omega arith) (not_line a) refl) e))

  -- a word with two forms: a and b are their last lines, x and y what they mean
  binary_lines : (w : Binary) (a b : ℕ) (x y : Pactl) → a + length (lines_between w a) < b → LaidAt ls (a + 1) (lines_between w a) → LaidAt ls (b + 1) (lines_after_both w a b)
      → line_truth M ls a ≡ holds M x → line_truth M ls b ≡ holds M y → line_truth M ls (b + length (lines_after_both w a b)) ≡ holds M (binary_meaning w x y)
  unfolding lines_between lines_after_both binary_meaning holds disjunction
  binary_lines And a b x y m c h d e = and_at (b + 1) a b (holds M x) (holds M y) (omega arith) (omega arith) (laid_line ls (b + 1) (and_line a b ∷ []) h 0 (b + 1) (omega arith) (omega arith) (and_line a b) refl) d e
  binary_lines Es a b x y m c h d e = es_at (b + 1) a b (holds M x) (holds M y) (omega arith) (omega arith) (laid_line ls (b + 1) (es_line a b ∷ []) h 0 (b + 1) (omega arith) (omega arith) (es_line a b) refl) d e
  binary_lines As a b x y m c h d e = as_at (b + 1) a b (holds M x) (holds M y) (omega arith) (omega arith) (laid_line ls (b + 1) (as_line a b ∷ []) h 0 (b + 1) (omega arith) (omega arith) (as_line a b) refl) d e
  binary_lines Or a b x y m c h d e =
      let l : List Line = not_line b ∷ and_line (a + 1) (b + 1) ∷ not_line (b + 2) ∷ [] in
      not_at (b + 3) (b + 2) (and_holds (not_holds (holds M x)) (not_holds (holds M y))) (omega arith) (laid_line ls (b + 1) l h 2 (b + 3) (omega arith) (omega arith) (not_line (b + 2)) refl)
      (and_at (b + 2) (a + 1) (b + 1) (not_holds (holds M x)) (not_holds (holds M y)) (omega arith) (omega arith) (laid_line ls (b + 1) l h 1 (b + 2) (omega arith) (omega arith) (and_line (a + 1) (b + 1)) refl)
      (not_at (a + 1) a (holds M x) (omega arith) (laid_line ls (a + 1) (not_line a ∷ []) c 0 (a + 1) (omega arith) (omega arith) (not_line a) refl) d)
      (not_at (b + 1) b (holds M y) (omega arith) (laid_line ls (b + 1) l h 0 (b + 1) (omega arith) (omega arith) (not_line b) refl) e))

  atom-line : (p b n : ℕ) → LaidAt ls n (proposition_line p b ∷ []) → line_truth M ls (n + 1 - 1) ≡ holds M (proposition p b)
  unfolding holds
  atom-line p b n h =
      let e : n + 1 - 1 ≡ n = omega arith in
      rw e (proposition-line M ls n p b (laid_line ls n (proposition_line p b ∷ []) h 0 n (omega arith) (omega arith) (proposition_line p b) refl))

  -- ---- Theorem: a form's lines, wherever they stand in a table
  pub lines_mean : (f : Formula) (n : ℕ) → LaidAt ls n (lines_at n f) → line_truth M ls (last_line n f) ≡ holds M (meaning f)
  unfolding lines_at meaning line_count
  lines_mean (atom p b) n h = atom-line p b n h
  lines_mean (constant w) n h = constant_lines_lem w n h
  lines_mean (unary w f) n h =
      let m : ℕ = n + length (lines_before w n) in
      let a : ℕ = last_line m f in
      let B : List Line = lines_before w n in
      let L : List Line = lines_at m f in
      let A : List Line = lines_after w (n + 3) a in
      let s : n + length (B ++ L) ≡ a + 1 = simp length-append (omega (arith, length-lines_at m f, line_count_pos f)) in
      let inner : LaidAt ls n (B ++ L) = laid_left ls n (B ++ L) A h in
      let last : a + length A ≡ last_line n (unary w f) = omega (arith, length-unary w n (n + 3) a, line_count_pos f) in
      rw last at (unary_lines w n a (meaning f) (omega (arith, line_count_pos f)) (laid_left ls n B L inner) (rw s at (laid_right ls n (B ++ L) A h)) (lines_mean f m (laid_right ls n B L inner)))
  lines_mean (binary w f g) n h =
      let a : ℕ = last_line n f in
      let m : ℕ = n + line_count f + length (lines_between w a) in
      let b : ℕ = last_line m g in
      let F : List Line = lines_at n f in
      let B : List Line = lines_between w a in
      let G : List Line = lines_at m g in
      let A : List Line = lines_after_both w a b in
      let first : LaidAt ls n (F ++ B ++ G) = laid_left ls n (F ++ B ++ G) A h in
      let both : LaidAt ls n (F ++ B) = laid_left ls n (F ++ B) G first in
      let between : n + length F ≡ a + 1 = omega (arith, length-lines_at n f, line_count_pos f) in
      let second : n + length (F ++ B) ≡ m = simp length-append (omega (arith, length-lines_at n f)) in
      let after : n + length (F ++ B ++ G) ≡ b + 1 = simp length-append (omega (arith, length-lines_at n f, length-lines_at m g, line_count_pos g)) in
      let last : b + length A ≡ last_line n (binary w f g) = omega (arith, length-binary w a a b, line_count_pos f, line_count_pos g) in
      rw last at
      (binary_lines w a b (meaning f) (meaning g) (omega (arith, line_count_pos f, line_count_pos g))
      (rw between at (laid_right ls n F B both))
      (rw after at (laid_right ls n (F ++ B ++ G) A h))
      (lines_mean f n (laid_left ls n F B both))
      (lines_mean g m (rw second at (laid_right ls n (F ++ B) G first))))

-- the table of a rule is its form's lines from line 0 on, and its last line is the rule
pub rule_means : (M : Model) (f : Formula) → line_truth M (lines_at 0 f) (line_count f - 1) ≡ holds M (meaning f)
rule_means M f =
    let e : 0 + line_count f - 1 ≡ line_count f - 1 = omega arith in
    rw e at (lines_mean M (lines_at 0 f) f 0 (λ j l. let z : 0 + j ≡ j = omega arith in rw z (l, refl)))
