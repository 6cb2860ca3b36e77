-- The reader, the lines and the printer on small texts, computed.
use Rattle.std.specs.Prelude.{ℕ, zero, suc, ◌≡◌, refl, List, [], ◌∷◌, map}
use Rattle.rules.specs.declared.Constant.TheVariants.{True, False}
use Rattle.pactl.specs.declared.Line.{Line}
use Rattle.rules.specs.declared.Unary.{Unary}
use Rattle.rules.specs.declared.Unary.TheVariants.{Not, Ey, Ep, Ap, Ay, Eh, Ah}
use Rattle.rules.specs.declared.Binary.TheVariants.{And, Es, As, Or}
use Rattle.rules.specs.Formula.{Formula, atom, constant, unary, binary}
use Rattle.rules.specs.Line.{true_lines, constant_lines, lines_before, lines_after, lines_between, lines_after_both, constant_weight, unary_weight, binary_weight, line_count, lines_at}
use Rattle.codec.specs.Ascii.{ascii}
use Rattle.rules.specs.Text.{text_of, constant_letters, unary_letters, binary_letters}
use Rattle.rules.specs.Fault.{begins_with, words, weight_of, opened_after, lines_closed}
use Rattle.rules.specs.Reader.{rest_at, a_word_at, e_word_at, word_at, Reading, formed, faulty, and_then, expect, expect_digit, close_at, atom_at, inner_with, unary_with, binary_with, body_with, form_at, read_rule}
use Rattle.pactl.specs.Line.{line}

-- A text read with two processes, and a form's text and lines: all definitions open.
reads : List ℕ → Reading
unfolding rest_at a_word_at e_word_at word_at and_then expect expect_digit close_at atom_at inner_with unary_with binary_with body_with form_at read_rule line_count constant_weight unary_weight binary_weight
reads s = read_rule s 2

written : Formula → List ℕ
unfolding text_of constant_letters unary_letters binary_letters
written f = text_of f

laid : Formula → List Line
unfolding lines_at line_count constant_weight unary_weight binary_weight true_lines constant_lines lines_before lines_after lines_between lines_after_both
laid f = lines_at 0 f

-- n words with one form each over a form.
over : ℕ → Unary → Formula → Formula
over zero w f = f
over (suc n) w f = unary w (over n w f)

-- Fault 1: a byte that no text has there, or the end too early.
example_1 : map reads
    (ascii "" ∷ ascii "(ax" ∷ ascii "(ata" ∷ ascii "(tru)" ∷ ascii "(not(at 0 0))" ∷ ascii "(true )" ∷ ascii "(an" ∷ ascii "(at 0 00)"
    ∷ ascii "(true) " ∷ ascii "(and (true))" ∷ ascii " (true)" ∷ ascii "(at 10 0)" ∷ ascii "()" ∷ ascii "(or (true) x" ∷ [])
    ≡ (faulty 1 0 ∷ faulty 1 2 ∷ faulty 1 3 ∷ faulty 1 4 ∷ faulty 1 4 ∷ faulty 1 5 ∷ faulty 1 3 ∷ faulty 1 7
    ∷ faulty 1 6 ∷ faulty 1 11 ∷ faulty 1 0 ∷ faulty 1 5 ∷ faulty 1 1 ∷ faulty 1 11 ∷ [])
unfolding reads
example_1 = refl

-- Fault 4: as soon as the wrong digit is read.
example_4 : map reads (ascii "(at 9 x" ∷ ascii "(at 2 0)" ∷ ascii "(at 1 8)" ∷ ascii "(not (at 1 9" ∷ [])
    ≡ (faulty 4 4 ∷ faulty 4 4 ∷ faulty 4 6 ∷ faulty 4 11 ∷ [])
unfolding reads
example_4 = refl

-- Fault 2: 31 nots over an atom are taken, 32 are not.
example_2 : map reads (written (over 31 Not (atom 0 0)) ∷ written (over 32 Not (atom 0 0)) ∷ written (over 40 Ep (constant True)) ∷ [])
    ≡ (formed 194 (over 31 Not (atom 0 0)) ∷ faulty 2 160 ∷ faulty 2 128 ∷ [])
unfolding reads written over
example_2 = refl

-- Fault 3: 3 nots over 12 eps over an atom have 64 lines, a fourth not is too many. 17 open eps count nothing.
example_3 : map reads (written (over 3 Not (over 12 Ep (atom 0 0))) ∷ written (over 4 Not (over 12 Ep (atom 0 0))) ∷ (written (over 17 Ep (atom 9 0))) ∷ [])
    ≡ (formed 86 (over 3 Not (over 12 Ep (atom 0 0))) ∷ faulty 3 91 ∷ faulty 4 72 ∷ [])
unfolding reads written over
example_3 = refl

-- Forms of each kind.
example_forms : map reads
    (ascii "(at 0 0)" ∷ ascii "(ep (and (at 0 0) (at 1 0)))" ∷ ascii "(or (or (true) (false)) (es (ay (at 1 7)) (as (ah (true)) (ey (eh (ap (true)))))))" ∷ [])
    ≡ (formed 8 (atom 0 0) ∷ formed 28 (unary Ep (binary And (atom 0 0) (atom 1 0)))
    ∷ formed 82 (binary Or (binary Or (constant True) (constant False)) (binary Es (unary Ay (atom 1 7)) (binary As (unary Ah (constant True)) (unary Ey (unary Eh (unary Ap (constant True)))))))
    ∷ [])
unfolding reads
example_forms = refl

-- The lines of ep, of nested or, and of ah over not.
example_lines : map laid (unary Ep (atom 1 2) ∷ binary Or (binary Or (atom 0 0) (atom 0 1)) (atom 1 0) ∷ unary Ah (unary Not (atom 0 3)) ∷ [])
    ≡ ((line 0 0 0 ∷ line 1 0 0 ∷ line 2 0 1 ∷ line 1 2 0 ∷ line 0 1 2 ∷ line 4 3 4 ∷ [])
    ∷ (line 0 0 0 ∷ line 1 0 0 ∷ line 0 0 1 ∷ line 1 2 0 ∷ line 2 1 3 ∷ line 1 4 0 ∷ line 1 5 0 ∷ line 0 1 0 ∷ line 1 7 0 ∷ line 2 6 8 ∷ line 1 9 0 ∷ [])
    ∷ (line 0 0 0 ∷ line 1 0 0 ∷ line 2 0 1 ∷ line 1 2 0 ∷ line 0 0 3 ∷ line 1 4 0 ∷ line 1 5 0 ∷ line 4 3 6 ∷ line 1 7 0 ∷ [])
    ∷ [])
unfolding laid
example_lines = refl

-- The plain scan of the closed forms' lines agrees with the count of a form's lines.
example_scan : lines_closed [] (written (over 2 Ah (over 3 Ay (binary Or (binary As (atom 0 0) (constant False)) (unary Ey (unary Ap (over 1 Eh (constant True))))))))
    ≡ 51
unfolding written over lines_closed opened_after weight_of words begins_with constant_letters unary_letters binary_letters constant_weight unary_weight binary_weight
example_scan = refl
