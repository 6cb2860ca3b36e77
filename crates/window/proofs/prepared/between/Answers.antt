-- The bounds let through what the event asks for: the law `between-ready`.
use Rattle.std.proofs.Common.{ℕ, ◌≡◌, ◌<◌, ◌+◌, ◌-◌, ◌%◌, ◌^◌, leb, ap, ◌∙◌, arith, rules}
use Rattle.window.proofs.PreparedSteps.{between-ready}
use Rattle.window.proofs.prepared.between.Goals as goal

wraps : (c low : ℕ) → c < 2 ^ 32 → low < 2 ^ 32 → ((c + (2 ^ 32 - low)) % 2 ^ 32 + low) % 2 ^ 32 ≡ c
wraps c low h l = omega arith

pub returns : goal.returns
returns c =
    λ b n some l h. let a = c.args in
    let d = (a.c + (2 ^ 32 - a.low)) % 2 ^ 32 in
    ap (leb d) h ∙ between-ready b n a.c d a.low (search rules) (omega arith) (search rules) (wraps a.c a.low (search rules) (search rules)) some l
