-- A search through numbers, as the library does it, is one through what stands at them.
use Rattle.std.proofs.Common.{ℕ, zero, suc, ◌+◌, ◌≡◌, refl, ap, ◌∙◌, Bool, arith}
use Rattle.std.specs.List.{list_any, range_with_len}
use Rattle.clocks.specs.Bounded.{any_of}
use Rattle.clocks.specs.Counts.{list_of}

pub any_numbered : {A : Type 0} (a n : ℕ) (test : ℕ → Bool) (f : ℕ → A) (t : A → Bool)
    → ((j : ℕ) → test (a + j) ≡ t (f j)) → list_any test (range_with_len a n) ≡ any_of t (list_of n f)
unfolding any_of list_of
any_numbered a zero test f t same = refl
any_numbered a (suc n) test f t same =
    let first : test a ≡ t (f 0) = ap test (omega arith) ∙ same 0 in
    let rest = any_numbered (a + 1) n test (λ j. f (suc j)) t (λ j. ap test (omega arith) ∙ same (suc j)) in
    rw (first, rest)
