-- One process more: how many frontiers are kept, by numbers that stay small as long as these do.
use Prim.Native.Nat.{ℕ, ◌+◌, ◌-◌, ◌*◌, ◌≤◌, ◌<◌}
use native.Mathlib.Nat.{mul-le-mul}
use native.Mathlib.Numerals.{add-one}
use native.Mathlib.Omega.{arith}
use mathlib.Core.Path.{◌≡◌, sym}
use Rattle.clocks.specs.Counts.{list_of}
use Rattle.call_busiest.specs.Sharing.{product, sharing_keeps}
use Rattle.call_busiest.specs.SharingLaws.{kept_next, product_next, kept_grows}

module _ (f : ℕ → ℕ) where
  pub kept_step : (p kept many c : ℕ) → kept ≡ sharing_keeps (list_of p f) → many ≡ product (list_of p f) → c ≡ f p
      → kept * (c + 1) + many ≡ sharing_keeps (list_of (p + 1) f)
  kept_step p kept many c a b e = rw (a, b, e, add-one (f p), add-one p) (sym (kept_next f p))

  pub product_step : (p many c : ℕ) → many ≡ product (list_of p f) → c ≡ f p → many * c ≡ product (list_of (p + 1) f)
  product_step p many c b e = rw (b, e, add-one p) (sym (product_next f p))

  -- Passed once, the room stays passed.
  pub kept_passed : (p k : ℕ) → p < k → 1024 < sharing_keeps (list_of (p + 1) f)
      → 1024 < sharing_keeps (list_of k f)
  kept_passed p k l h =
      let all : k - (p + 1) + (p + 1) ≡ k = omega arith in
      let more : sharing_keeps (list_of (p + 1) f) ≤ sharing_keeps (list_of k f) =
      rw all at (kept_grows f (p + 1) (k - (p + 1))) in
      omega arith

-- ---- Nothing wraps

pub kept_small : (kept c : ℕ) → kept ≤ 1024 → c ≤ 65536 → kept * (c + 1) ≤ 67109888
kept_small kept c a b = let more : c + 1 ≤ 65537 = omega arith in mul-le-mul {n₂ = 1024} {m₂ = 65537} a more

pub product_small : (many c : ℕ) → many ≤ 1024 → c ≤ 65536 → many * c ≤ 67108864
product_small many c a b = mul-le-mul {n₂ = 1024} {m₂ = 65536} a b
