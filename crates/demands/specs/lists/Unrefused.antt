-- The answers of a list's takes that were not refused: of a list with a call in front, and after the first of them.
use Rattle.std.specs.Prelude.{ℕ, zero, suc, ◌-◌, ◌≤◌, ◌≡◌, refl, Bool, true, false, List, [], ◌∷◌, ◌++◌, map, length, drop, replicate}
use Rattle.std.proofs.Common.{arith, ap, ◌∙◌}
use mathlib.Core.List.Memᴰ
use Rattle.std.proofs.lemmas.List.{length-replicate}
use Rattle.answers.specs.Answer.{Answer, nothing_ready}
use Rattle.demands.specs.Run.{Call, Watch, after}
use Rattle.demands.specs.statements.Empties.{if_take, take_answers, is_refusal, NoneRefused, unrefused, Leaving, answered_for}

pub unrefused-append : (xs ys : List Answer) → unrefused (xs ++ ys) ≡ unrefused xs ++ unrefused ys
unfolding unrefused
unrefused-append [] ys = refl
unrefused-append (a ∷ xs) ys = go (is_refusal a) refl (unrefused-append xs ys)
  where
    go : (b : Bool) → is_refusal a ≡ b → unrefused (xs ++ ys) ≡ unrefused xs ++ unrefused ys
        → unrefused ((a ∷ xs) ++ ys) ≡ unrefused (a ∷ xs) ++ unrefused ys
    go true h rest = rw h rest
    go false h rest = rw h (ap (λ (zs : List Answer). a ∷ zs) rest)

pub unrefused-all : (answers : List Answer) → NoneRefused answers → unrefused answers ≡ answers
unfolding unrefused
unrefused-all [] none = refl
unrefused-all (a ∷ answers) none =
    rw (none a (Memᴰ.head refl))
    (ap (λ (zs : List Answer). a ∷ zs) (unrefused-all answers (λ b m. none b (Memᴰ.tail m))))

-- with a call in front
pub answers_next : (w : ℕ) (c : Call) (cs : List Call) (Z : Watch) (xs ys : List Answer) → unrefused (if_take w c Z) ≡ xs
    → unrefused (take_answers w cs (after w c Z)) ≡ ys
    → unrefused (take_answers w (c ∷ cs) Z) ≡ xs ++ ys
unfolding take_answers
answers_next w c cs Z xs ys p q = unrefused-append (if_take w c Z) (take_answers w cs (after w c Z)) ∙ rw (p, q)

-- what comes after the first n answers, where those for events are no more
drop_quiet : (n quiet : ℕ) → drop n (replicate quiet nothing_ready) ≡ replicate (quiet - n) nothing_ready
drop_quiet zero quiet = let q : quiet - 0 ≡ quiet = omega arith in rw q
drop_quiet (suc n) zero = let q : 0 - suc n ≡ 0 = omega arith in rw q
drop_quiet (suc n) (suc quiet) = let q : suc quiet - suc n ≡ quiet - n = omega arith in rw q (drop_quiet n quiet)

pub drop-first : (xs : List Leaving) (quiet n : ℕ) → length xs ≤ n
    → drop n (map answered_for xs ++ replicate quiet nothing_ready)
    ≡ replicate (length (map answered_for xs ++ replicate quiet nothing_ready) - n) nothing_ready
drop-first [] quiet n l = drop_quiet n quiet ∙ rw (length-replicate quiet nothing_ready)
drop-first (x ∷ xs) quiet zero l = absurd (omega arith)
drop-first (x ∷ xs) quiet (suc n) l =
    let rest = map answered_for xs ++ replicate quiet nothing_ready in
    let q : suc (length rest) - suc n ≡ length rest - n = omega arith in
    rw q (drop-first xs quiet n (omega arith))
