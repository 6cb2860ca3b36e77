-- The two answers of a call that gives a value are told apart by its word.
use Rattle.std.specs.Prelude.{ℕ, ◌<◌, ◌≡◌}
use Rattle.std.proofs.Common.{arith, sym}
use Rattle.answers.specs.Result.{refused, gives, result_word}
use Rattle.answers.specs.Told.{Told}

pub not-both : (m n : ℕ) → refused m ≡ gives n → ⊥
not-both m n e = let z : ◌≡◌ {A = ℕ} 0 1 = cc in omega arith

pub refused_told : (m : ℕ) → 0 < m → m < 256 → Told (refused m)
unfolding result_word
refused_told m some small = record {
  refused_exactly = λ n.
      (λ x. let z : m ≡ n = cc in (omega arith, omega arith), λ x. let z : m ≡ n = omega (arith, x.1) in rw z);
  gives_exactly = λ n. (λ x. absurd (not-both m n x), λ x. absurd (omega (arith, x.0)));
}

pub gives_told : (m : ℕ) → m < 65536 → Told (gives m)
unfolding result_word
gives_told m small = record {
  refused_exactly = λ n. (λ x. absurd (not-both n m (sym x)), λ x. absurd (omega (arith, x.0, x.1)));
  gives_exactly = λ n.
      (λ x. let z : m ≡ n = cc in (omega arith, omega arith), λ x. let z : m ≡ n = omega (arith, x.1) in rw z);
}
