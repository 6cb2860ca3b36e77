-- The tests of a step by counts alone are those of the definition, and what one more frontier adds to the number kept.
use Rattle.std.proofs.Common.{◌≡◌, ℕ, ◌+◌, Bool, true, false, cond, List, [], ◌∷◌, ◌++◌, length, refl, add-one, arith, length-append}
use Rattle.clocks.specs.declared.Event.{Event}
use Rattle.clocks.specs.Event.{one}
use Rattle.frontiers.specs.Bytes.{frontiers, frontier_at}
use Rattle.frontiers.specs.WindowLaws.{frontiers_more}
use Rattle.window.specs.Step.{Setting, stays, enabled_at, filtered, kept_after}
use Rattle.window.specs.StepCode.{setting_with, kept_of}
use Rattle.window.specs.Lists.{filtered-append}

-- ---- The number kept
length-filtered_more : {A : Type 0} (t : A → Bool) (xs : List A) (x : A) → length (filtered t (xs ++ (x ∷ []))) ≡ length (filtered t xs) + one (t x)
unfolding filtered
length-filtered_more {A} t xs x = rw (filtered-append t xs (x ∷ []), length-append) (go (t x))
  where
    go : (b : Bool) → length (filtered t xs) + length (cond b (x ∷ []) []) ≡ length (filtered t xs) + one b
    go true = refl
    go false = refl

pub kept_after-none : (s : Setting) (w : ℕ) (bytes : List ℕ) → kept_after s (frontiers w bytes 0) ≡ 0
unfolding kept_after filtered frontiers Rattle.clocks.specs.Counts.list_of
kept_after-none s w bytes = refl

pub kept_after_more : (k closed : ℕ) (table : List ℕ) (lines : ℕ) (e : Event) (reached : List ℕ) (w : ℕ) (bytes : List ℕ) (i : ℕ)
    → kept_after (setting_with k closed table lines e reached) (frontiers w bytes (i + 1))
    ≡ kept_after (setting_with k closed table lines e reached) (frontiers w bytes i) + kept_of k closed e reached (frontier_at w bytes i).counts
unfolding kept_after stays enabled_at
kept_after_more k closed table lines e reached w bytes i =
    let s = setting_with k closed table lines e reached in
    let fs = frontiers w bytes i in
    let f = frontier_at w bytes i in
    let a : length (filtered (stays s) (fs ++ (f ∷ []))) ≡ length (filtered (stays s) fs) + one (stays s f) = length-filtered_more (stays s) fs f in
    let b : length (filtered (enabled_at s) (fs ++ (f ∷ []))) ≡ length (filtered (enabled_at s) fs) + one (enabled_at s f) = length-filtered_more (enabled_at s) fs f in
    rw (add-one, frontiers_more w bytes i, a, b) (omega arith)
