-- The open forms around a place of a text, their text up to that place, and the forms that can still come of it.
use Rattle.std.specs.Prelude.{ℕ, ◌+◌, ◌≡◌, refl, List, [], ◌∷◌, ◌++◌, map, length}
use Rattle.std.proofs.Common.{arith, zero-add, ◌∙◌, sym, ap, append_assoc, append-nil}
use Rattle.rules.specs.declared.Constant.TheVariants.{True}
use Rattle.rules.specs.declared.Unary.{Unary}
use Rattle.rules.specs.declared.Binary.{Binary}
use Rattle.rules.specs.Line.{unary_weight, binary_weight, line_count}
use Rattle.codec.specs.Ascii.{ascii}
use Rattle.rules.specs.Text.{unary_letters, binary_letters, text_of, Grammatical, constant_letters}
use Rattle.rules.specs.grammar.ScanLaws.{count-append, balanced_append, balanced_plain, text_balanced, unary_weight_lem, binary_weight_lem, closed_word, closed_space, closed_form}
use Rattle.rules.specs.Fault.{occurring, lines_closed}
use Rattle.rules.specs.Formula.{Formula, constant, Atoms, unary, binary, atom}
use Rattle.rules.specs.grammar.PlainBytes.{unary-plain, binary-plain}
use Rattle.rules.specs.declared.Constant.{Constant}

-- Definition

-- An open form at the place of an inner form: of a word with one, the first of a word with two, the second behind the
-- first.
pub data Frame : Type 0 where
  in_one : Unary → Frame
  in_first : Binary → Frame
  in_second : Binary → Formula → Frame

-- The text of an open form up to its inner form's place.
unfoldable pub opening : Frame → List ℕ
opening (in_one w) = 40 ∷ (unary_letters w ++ 32 ∷ [])
opening (in_first w) = 40 ∷ (binary_letters w ++ 32 ∷ [])
opening (in_second w f) = 40 ∷ (binary_letters w ++ 32 ∷ (text_of f ++ 32 ∷ []))

-- The text of all open forms, the innermost first in the list, up to the place inside them.
unfoldable pub before : List Frame → List ℕ
before [] = []
before (c ∷ cs) = before cs ++ opening c

-- The lines that were closed inside an open form.
unfoldable pub frame_lines : Frame → ℕ
frame_lines (in_one w) = 0
frame_lines (in_first w) = 0
frame_lines (in_second w f) = line_count f

unfoldable pub closed_lines : List Frame → ℕ
closed_lines [] = 0
closed_lines (c ∷ cs) = closed_lines cs + frame_lines c

-- The weight of an open form.
frame_weight : Frame → ℕ
frame_weight (in_one w) = unary_weight w
frame_weight (in_first w) = binary_weight w
frame_weight (in_second w f) = binary_weight w

-- What was closed inside the open forms is of the grammar.
unfoldable pub FrameGrammatical : Frame → Type 0
FrameGrammatical (in_one w) = Unit {0}
FrameGrammatical (in_first w) = Unit {0}
FrameGrammatical (in_second w f) = Grammatical f

unfoldable pub FramesGrammatical : List Frame → Type 0
FramesGrammatical [] = Unit {0}
FramesGrammatical (c ∷ cs) = FrameGrammatical c × FramesGrammatical cs

-- Some text of the grammar begins with these bytes.
pub record Viable (bs : List ℕ) : Type 0 where
  pub form : Formula
  pub rest : List ℕ
  pub digits : Grammatical form
  pub whole : bs ++ rest ≡ text_of form

-- Brackets

opening-count : (c : Frame) → occurring 40 (opening c) ≡ occurring 41 (opening c) + 1
unfolding opening occurring
opening-count (in_one w) =
    let c = unary_letters w in
    omega (arith, balanced_append c (32 ∷ []) (balanced_plain c (unary-plain w)) refl)
opening-count (in_first w) =
    let c = binary_letters w in
    omega (arith, balanced_append c (32 ∷ []) (balanced_plain c (binary-plain w)) refl)
opening-count (in_second w f) =
    let c = binary_letters w in
    let inner = balanced_append (text_of f) (32 ∷ []) (text_balanced f) refl in
    omega (arith, balanced_append c (32 ∷ (text_of f ++ 32 ∷ [])) (balanced_plain c (binary-plain w)) (omega arith))

-- As many brackets are open as there are open forms.
pub before-count : (cs : List Frame) → occurring 40 (before cs) ≡ occurring 41 (before cs) + length cs
unfolding before occurring
before-count [] = refl
before-count (c ∷ cs) =
    omega (arith, before-count cs, opening-count c, count-append 40 (before cs) (opening c), count-append 41 (before cs) (opening c))

-- Lines

opening_closed : (c : Frame) (opened s : List ℕ) → lines_closed opened (opening c ++ s) ≡ frame_lines c + lines_closed (frame_weight c ∷ opened) s
unfolding opening frame_lines frame_weight
opening_closed (in_one w) opened s =
    rw append_assoc (closed_word opened (unary_letters w) (32 ∷ s) (unary_weight w) (unary_weight_lem w _) (unary-plain w)
    ∙ closed_space _ _ ∙ sym (zero-add _))
opening_closed (in_first w) opened s =
    rw append_assoc (closed_word opened (binary_letters w) (32 ∷ s) (binary_weight w) (binary_weight_lem w _) (binary-plain w)
    ∙ closed_space _ _ ∙ sym (zero-add _))
opening_closed (in_second w f) opened s =
    let n = binary_weight w in
    simp append_assoc (closed_word opened (binary_letters w) (32 ∷ (text_of f ++ 32 ∷ s)) n (binary_weight_lem w _) (binary-plain w)
    ∙ closed_space _ _ ∙ closed_form (n ∷ opened) f (32 ∷ s) ∙ ap (λ (x : ℕ). line_count f + x) (closed_space (n ∷ opened) s))

-- Inside the open forms the lines closed before are added.
before_closed : (cs : List Frame) (s : List ℕ) → lines_closed [] (before cs ++ s) ≡ closed_lines cs + lines_closed (map frame_weight cs) s
unfolding before closed_lines
before_closed [] s = sym (zero-add _)
before_closed (c ∷ cs) s =
    rw append_assoc (before_closed cs (opening c ++ s) ∙ omega (arith, opening_closed c (map frame_weight cs) s))

-- Behind a form inside the open forms its own lines are added too.
pub form_closed : (cs : List Frame) (f : Formula) → lines_closed [] (before cs ++ text_of f) ≡ closed_lines cs + line_count f
unfolding lines_closed
form_closed cs f =
    rw (← append-nil (text_of f)) (before_closed cs (text_of f ++ []) ∙ omega (arith, closed_form (map frame_weight cs) f []))

-- Texts that can go on

pub viable_text : (f : Formula) → Grammatical f → Viable (text_of f)
viable_text f h = record { form = f; rest = []; digits = h; whole = append-nil (text_of f) }

pub viable_part : (xs ys : List ℕ) → Viable (xs ++ ys) → Viable xs
viable_part xs ys v = record { form = v.form; rest = ys ++ v.rest; digits = v.digits; whole = sym (append_assoc xs ys v.rest) ∙ v.whole }

-- A bracket and a word.
pub viable_at : Viable (40 ∷ ascii "at")
unfolding text_of Atoms
viable_at = record { form = atom 0 0; rest = ascii " 0 0)"; digits = omega arith; whole = refl }

pub viable_constant : (w : Constant) → Viable (40 ∷ constant_letters w)
unfolding text_of Atoms
viable_constant w = record { form = constant w; rest = 41 ∷ []; digits = tt; whole = refl }

pub viable_unary : (w : Unary) → Viable (40 ∷ unary_letters w)
unfolding text_of Atoms
viable_unary w = record { form = unary w (constant True); rest = 32 ∷ (text_of (constant True) ++ 41 ∷ []); digits = tt; whole = refl }

pub viable_binary : (w : Binary) → Viable (40 ∷ binary_letters w)
unfolding text_of Atoms
viable_binary w = record {
  form = binary w (constant True) (constant True);
  rest = 32 ∷ (text_of (constant True) ++ 32 ∷ (text_of (constant True) ++ 41 ∷ []));
  digits = (tt, tt);
  whole = refl;
}

-- A word with two forms behind the first.
pub viable_first : (w : Binary) (f : Formula) → Grammatical f → Viable (40 ∷ (binary_letters w ++ 32 ∷ text_of f))
unfolding text_of Atoms
viable_first w f h = record {
  form = binary w f (constant True);
  rest = 32 ∷ (text_of (constant True) ++ 41 ∷ []);
  digits = (h, tt);
  whole = simp append_assoc;
}

viable_frame : (c : Frame) → FrameGrammatical c → (bs : List ℕ) → Viable bs → Viable (opening c ++ bs)
unfolding opening FrameGrammatical text_of Atoms constant_letters
viable_frame (in_one w) h bs v = record {
  form = unary w v.form;
  rest = v.rest ++ 41 ∷ [];
  digits = v.digits;
  whole = rw (← v.whole) (simp append_assoc);
}
viable_frame (in_first w) h bs v = record {
  form = binary w v.form (constant True);
  rest = v.rest ++ ascii " (true))";
  digits = (v.digits, tt);
  whole = rw (← v.whole) (simp append_assoc);
}
viable_frame (in_second w f) h bs v = record {
  form = binary w f v.form;
  rest = v.rest ++ 41 ∷ [];
  digits = (h, v.digits);
  whole = rw (← v.whole) (simp append_assoc);
}

-- What can go on alone can go on inside open forms.
pub viable_inside : (cs : List Frame) → FramesGrammatical cs → (bs : List ℕ) → Viable bs → Viable (before cs ++ bs)
unfolding before FramesGrammatical
viable_inside [] h bs v = v
viable_inside (c ∷ cs) h bs v = rw append_assoc (viable_inside cs h.1 (opening c ++ bs) (viable_frame c h.0 bs v))
