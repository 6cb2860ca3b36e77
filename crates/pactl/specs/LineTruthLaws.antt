-- A table line's truth by its kind, from the truth of the lines that it names (01, The rule: kinds 0 to 5).
use Rattle.std.specs.Prelude.{ℕ, suc, ◌+◌, ◌<◌, ◌≡◌, refl, List, [], ◌∷◌, ◌++◌, length, get_or, take, drop}
use Rattle.std.proofs.Common.{arith, sym, ◌∙◌, length-append, length-take}
use Rattle.std.proofs.Math.Path.{ap, ap₂}
use Rattle.std.proofs.Math.ListN.{get_or-append}
use Rattle.std.proofs.Math.Seq.{split_at}
use Rattle.std.proofs.lemmas.List.{get_or_at}
use Rattle.pactl.specs.declared.Line.{Line}
use Rattle.pactl.specs.Table.{LineIs}
use Rattle.pactl.specs.Truth.{Model, Property, proposition_holds, not_holds, and_holds, ey_holds, es_holds, as_holds, never, line_holds, lines_hold, line_truth}
use Rattle.pactl.specs.Line.{line, proposition_line, not_line, and_line, ey_line, es_line, as_line}

-- ---- the properties of a table's lines, one after the other
holds-length : (M : Model) (earlier : List Property) (ls : List Line) → length (lines_hold M earlier ls) ≡ length earlier + length ls
unfolding lines_hold
holds-length M earlier [] = omega arith
holds-length M earlier (l ∷ ls) = holds-length M (earlier ++ (line_holds M earlier l ∷ [])) ls ∙ (simp length-append (omega arith))

holds_earlier : (M : Model) (earlier : List Property) (ls : List Line) (i : ℕ) → i < length earlier → get_or (lines_hold M earlier ls) i never ≡ get_or earlier i never
unfolding lines_hold
holds_earlier M earlier [] i h = refl
holds_earlier M earlier (l ∷ ls) i h =
    holds_earlier M (earlier ++ (line_holds M earlier l ∷ [])) ls i (simp length-append (omega arith))
    ∙ get_or-append earlier (line_holds M earlier l ∷ []) never i h

holds-append : (M : Model) (earlier : List Property) (xs ys : List Line) → lines_hold M earlier (xs ++ ys) ≡ lines_hold M (lines_hold M earlier xs) ys
unfolding lines_hold
holds-append M earlier [] ys = refl
holds-append M earlier (x ∷ xs) ys = holds-append M (earlier ++ (line_holds M earlier x ∷ [])) xs ys

-- ---- line i is made from the properties of the lines before it
record Made (M : Model) (ls : List Line) (i : ℕ) (l : Line) : Type 0 where
  pub earlier : List Property
  pub agrees : (a : ℕ) → a < i → get_or earlier a never ≡ line_truth M ls a
  pub made : line_truth M ls i ≡ line_holds M earlier l

line_made : (M : Model) (ls : List Line) (i : ℕ) (l : Line) → LineIs ls i l → Made M ls i l
unfolding line_truth lines_hold
line_made M ls i l h = record { earlier = E; agrees = agrees; made = made }
  where
    E : List Property
    E = lines_hold M [] (take i ls)

    size : length E ≡ i
    size = holds-length M [] (take i ls) ∙ (simp length-take (omega (arith, h.0)))

    rest : List Line
    rest = drop (suc i) ls

    split : ls ≡ take i ls ++ (l ∷ rest)
    split = rw h.1 at (split_at ls i (line 0 0 0) h.0)

    whole : lines_hold M [] ls ≡ lines_hold M (E ++ (line_holds M E l ∷ [])) rest
    whole = ap (lines_hold M []) split ∙ holds-append M [] (take i ls) (l ∷ rest)

    longer : length (E ++ (line_holds M E l ∷ [])) ≡ suc i
    longer = simp length-append (omega (arith, size))

    agrees : (a : ℕ) → a < i → get_or E a never ≡ get_or (lines_hold M [] ls) a never
    agrees a k = sym (ap (λ (xs : List Property). get_or xs a never) whole
        ∙ holds_earlier M (E ++ (line_holds M E l ∷ [])) rest a (omega (arith, longer))
        ∙ get_or-append E (line_holds M E l ∷ []) never a (omega (arith, size)))

    made : get_or (lines_hold M [] ls) i never ≡ line_holds M E l
    made = ap (λ (xs : List Property). get_or xs i never) whole
        ∙ holds_earlier M (E ++ (line_holds M E l ∷ [])) rest i (omega (arith, longer))
        ∙ get_or_at E (line_holds M E l) [] never i size

-- ---- The six kinds
module _ (M : Model) (ls : List Line) (i : ℕ) where
  pub proposition-line : (p b : ℕ) → LineIs ls i (proposition_line p b) → line_truth M ls i ≡ proposition_holds M p b
  unfolding line_holds
  proposition-line p b h = (line_made M ls i (proposition_line p b) h).made

  pub not_line_lem : (a : ℕ) → a < i → LineIs ls i (not_line a) → line_truth M ls i ≡ not_holds (line_truth M ls a)
  unfolding line_holds
  not_line_lem a j h = let m = line_made M ls i (not_line a) h in m.made ∙ ap not_holds (m.agrees a j)

  pub and-line : (a b : ℕ) → a < i → b < i → LineIs ls i (and_line a b) → line_truth M ls i ≡ and_holds (line_truth M ls a) (line_truth M ls b)
  unfolding line_holds
  and-line a b j k h = let m = line_made M ls i (and_line a b) h in m.made ∙ ap₂ and_holds (m.agrees a j) (m.agrees b k)

  pub ey_line_lem : (a : ℕ) → a < i → LineIs ls i (ey_line a) → line_truth M ls i ≡ ey_holds M (line_truth M ls a)
  unfolding line_holds
  ey_line_lem a j h = let m = line_made M ls i (ey_line a) h in m.made ∙ ap (ey_holds M) (m.agrees a j)

  pub es_line_lem : (a b : ℕ) → a < i → b < i → LineIs ls i (es_line a b) → line_truth M ls i ≡ es_holds M (line_truth M ls a) (line_truth M ls b)
  unfolding line_holds
  es_line_lem a b j k h = let m = line_made M ls i (es_line a b) h in m.made ∙ ap₂ (es_holds M) (m.agrees a j) (m.agrees b k)

  pub as_line_lem : (a b : ℕ) → a < i → b < i → LineIs ls i (as_line a b) → line_truth M ls i ≡ as_holds M (line_truth M ls a) (line_truth M ls b)
  unfolding line_holds
  as_line_lem a b j k h = let m = line_made M ls i (as_line a b) h in m.made ∙ ap₂ (as_holds M) (m.agrees a j) (m.agrees b k)
