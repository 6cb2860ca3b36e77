-- Judging one frontier: the truth of each table line there, as bits of a word (01, The rule: kinds 0 to 5; The window:
-- values). It is made from the frontier's labels and from the words of the cuts that precede it: their OR, `any`, their
-- AND, `all`, and whether there is one, `preceded`.
use Rattle.std.specs.Prelude.{ℕ, ◌+◌, ◌^◌, Bool, not, cond, ◌&&◌, ◌||◌, List, [], ◌∷◌, eqb, get_or}
use Rattle.codec.specs.Bit.{bit}
use Rattle.pactl.specs.declared.Line.{Line}

-- ---- The six clauses

-- In the order of source 000, section 3, where each is a sentence under "Calculating the Values of Subformulas on the
-- Nodes". v has the bits of the earlier lines, i is the line's own number. That each gives PaCTL's truth: Clauses.

-- Sentence 1, val(F, q): proposition b of process a, as the process's label byte has it.
unfoldable pub proposition_judged : (labels : List ℕ) (a b : ℕ) → Bool
proposition_judged labels a b = bit (get_or labels a 0) b

-- Sentence 2, val(F, ¬η): not line a.
unfoldable pub not_judged : (v a : ℕ) → Bool
not_judged v a = not (bit v a)

-- Sentence 3, val(F, (η₁ ∧ η₂)): line a and line b.
unfoldable pub and_judged : (v a b : ℕ) → Bool
and_judged v a b = bit v a && bit v b

-- Sentence 4, val(F, EY η): some preceding cut has line a.
unfoldable pub ey_judged : (any a : ℕ) → Bool
ey_judged any a = bit any a

-- Sentence 5, val(F, E(η₁ S η₂)): line b, or line a and some preceding cut has this line.
unfoldable pub es_judged : (v any i a b : ℕ) → Bool
es_judged v any i a b = bit v b || (bit v a && bit any i)

-- Sentence 6, val(F, A(η₁ S η₂)): line b, or line a and there is a preceding cut and all of them have this line.
unfoldable pub as_judged : (v all : ℕ) (preceded : Bool) (i a b : ℕ) → Bool
as_judged v all preceded i a b = bit v b || (bit v a && (preceded && bit all i))

-- ---- Lines

-- A line, by its kind: kinds 0 to 5 are sentences 1 to 6. No line of another kind is good.
unfoldable pub judge_line : (labels : List ℕ) (v any all : ℕ) (preceded : Bool) (i : ℕ) (l : Line) → Bool
judge_line labels v any all preceded i l =
    cond (eqb l.kind 0) (proposition_judged labels l.a l.b)
    (cond (eqb l.kind 1) (not_judged v l.a)
    (cond (eqb l.kind 2) (and_judged v l.a l.b)
    (cond (eqb l.kind 3) (ey_judged any l.a)
    (cond (eqb l.kind 4) (es_judged v any i l.a l.b)
    (as_judged v all preceded i l.a l.b)))))

-- v with bit i added, where that is asked.
abbrev pub with_bit : (v i : ℕ) (t : Bool) → ℕ
with_bit v i t = cond t (v + 2 ^ i) v

-- The lines from line i on, one after the other, v having the bits of the lines before.
unfoldable pub judge_from : (labels : List ℕ) (any all : ℕ) (preceded : Bool) (v i : ℕ) (ls : List Line) → ℕ
judge_from labels any all preceded v i [] = v
judge_from labels any all preceded v i (l ∷ ls) =
    judge_from labels any all preceded (with_bit v i (judge_line labels v any all preceded i l)) (i + 1) ls

-- A frontier's word: bit i is line i, the rest is 0.
abbrev pub judge : (labels : List ℕ) (any all : ℕ) (preceded : Bool) (ls : List Line) → ℕ
judge labels any all preceded ls = judge_from labels any all preceded 0 0 ls
