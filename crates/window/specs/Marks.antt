-- The marks of a step: one byte for each frontier that says what comes of it, left by the counting and read by the
-- merge.
use Rattle.std.specs.Prelude.{◌≡◌, ℕ, ◌+◌, ◌*◌, ◌<◌, Bool, true, false, List, length, slice_index, slice_set, refl}
use Rattle.std.proofs.Common.{arith, ◌∙◌, get_or-set_same, get_or-set_other}
use Rattle.std.proofs.Math.Decide.{dec_lt}
use Rattle.codec.specs.Bit.{bit}
use Rattle.clocks.specs.Event.{one}
use Rattle.frontiers.specs.declared.Frontier.{Frontier}
use Rattle.frontiers.specs.Bytes.{frontier_at}
use Rattle.window.specs.Step.{Setting, stays, enabled_at}

-- 1 where the frontier stays, and 2 more where the event is enabled there.
abbrev pub mark_of : Setting → Frontier → ℕ
mark_of s f = one (stays s f) + 2 * one (enabled_at s f)

-- The first n frontiers of a window have their marks.
abbrev pub Marked : Setting → ℕ → List ℕ → ℕ → List ℕ → Type 0
Marked s w window n marks = (i : ℕ) → i < n → slice_index marks i ≡ mark_of s (frontier_at w window i)

-- A bit of the marks tells a test of the frontiers.
abbrev pub Tells : ℕ → (Frontier → Bool) → ℕ → List ℕ → ℕ → List ℕ → Type 0
Tells p t w window n marks = (i : ℕ) → i < n → t (frontier_at w window i) ≡ bit (slice_index marks i) p

-- ---- What the two bits of a mark say

staying-bit : (a b : Bool) → a ≡ bit (one a + 2 * one b) 0
unfolding bit
staying-bit true true = refl
staying-bit true false = refl
staying-bit false true = refl
staying-bit false false = refl

enabled_bit : (a b : Bool) → b ≡ bit (one a + 2 * one b) 1
unfolding bit
enabled_bit true true = refl
enabled_bit true false = refl
enabled_bit false true = refl
enabled_bit false false = refl

module _ (s : Setting) (w : ℕ) (window : List ℕ) (n : ℕ) (marks : List ℕ) (M : Marked s w window n marks) where
  pub tells_stays : Tells 0 (stays s) w window n marks
  tells_stays i l = rw (M i l) (staying-bit (stays s (frontier_at w window i)) (enabled_at s (frontier_at w window i)))

  pub tells_enabled : Tells 1 (enabled_at s) w window n marks
  tells_enabled i l = rw (M i l) (enabled_bit (stays s (frontier_at w window i)) (enabled_at s (frontier_at w window i)))

-- ---- One more mark

pub marked_none : (s : Setting) (w : ℕ) (window marks : List ℕ) → Marked s w window 0 marks
marked_none s w window marks i l = absurd (omega arith)

pub marked_more : (s : Setting) (w : ℕ) (window : List ℕ) (n : ℕ) (marks : List ℕ) (v : ℕ) → n < length marks → v ≡ mark_of s (frontier_at w window n)
    → Marked s w window n marks → Marked s w window (n + 1) (slice_set marks n v)
marked_more s w window n marks v h e M i l = go (dec_lt i n)
  where
    go : Dec (i < n) → slice_index (slice_set marks n v) i ≡ mark_of s (frontier_at w window i)
    go (yes a) = get_or-set_other marks n i v 0 (λ q. omega arith) ∙ M i a
    go (no a) =
        let q : i ≡ n = omega arith in
        rw q (get_or-set_same marks n v 0 h ∙ e)
