-- The number of frontiers after a step is what is counted before it.
use Rattle.std.specs.Prelude.{◌≡◌, ℕ, suc, ◌+◌, Bool, true, false, cond, List, [], ◌∷◌, ◌++◌, length, replicate}
use Rattle.std.proofs.Common.{arith, ◌∙◌, length-append}
use Rattle.std.proofs.lemmas.List.{length-map}
use Rattle.frontiers.specs.declared.Frontier.{Frontier}
use Rattle.window.specs.Step.{Setting, stays, enabled_at, advanced, filtered, Slot, merge_into, merge, slots, gathered, judged_by, lay, stepped, kept_after, staying, fresh}
use Rattle.lookup.specs.Order.{before}

length_into : {A : Type 0} (key : A → List ℕ) (x : A) (n : ℕ) (rest : List A → List A) → ((zs : List A) → length (rest zs) ≡ n + length zs) → (ys : List A) → length (merge_into key x rest ys) ≡ suc n + length ys
unfolding merge_into
length_into key x n rest r [] = omega (arith, r [])
length_into key x n rest r (y ∷ ys) = go (before (key y) (key x)) (length_into key x n rest r ys)
  where
    go : (b : Bool) → length (merge_into key x rest ys) ≡ suc n + length ys → length (cond b (y ∷ merge_into key x rest ys) (x ∷ rest (y ∷ ys))) ≡ suc n + suc (length ys)
    go true i = omega arith
    go false i = omega (arith, r (y ∷ ys))

length-merge : {A : Type 0} (key : A → List ℕ) (xs ys : List A) → length (merge key xs ys) ≡ length xs + length ys
unfolding merge
length-merge key [] ys = omega arith
length-merge key (x ∷ xs) ys = length_into key x (length xs) (merge key xs) (length-merge key xs) ys

length-lay : (s : Setting) (todo : List Slot) (laid : List Frontier) (hints : List ℕ) → length (lay s laid hints todo) ≡ length laid + length todo
unfolding lay
length-lay s [] laid hints = omega arith
length-lay s (staying f ∷ rest) laid hints = length-lay s rest (laid ++ (f ∷ [])) hints ∙ (simp length-append (omega arith))
length-lay s (fresh g ∷ rest) laid hints =
    let w = gathered s laid hints g s.processes in
    length-lay s rest (laid ++ (judged_by s g w ∷ [])) w.hints ∙ (simp length-append (omega arith))

-- ---- Theorem
pub stepped_many : (s : Setting) (fs : List Frontier) → length (stepped s fs) ≡ kept_after s fs
unfolding stepped kept_after slots
stepped_many s fs = length-lay s (slots s fs) [] (replicate s.stored 0)
    ∙ (simp length-merge (omega (arith, length-map (filtered (stays s) fs) staying, length-map (filtered (enabled_at s) fs) (λ f. fresh (advanced s f)))))
