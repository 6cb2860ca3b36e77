-- Takes come to an end: each that another follows leaves one pending event less.
use Rattle.std.specs.Prelude.{ℕ, zero, suc, ◌≤◌, ◌<◌, ◌≡◌, refl, Bool, true, false, List}
use Rattle.std.proofs.Common.{arith}
use Rattle.records.specs.Record.{pending_count}
use Rattle.call_take.specs.Take.{Taken, take_call}
use Rattle.reply_text.specs.Form.{program_width}
use Rattle.replies.specs.Following.{takes_again}
use Rattle.program.specs.PendingLaws.{take_lowers}
use Rattle.program.specs.Turn.{takes_while, most_takes, TakesEnd}

-- Where none follows, none does.
stopped : (n k : ℕ) (s window scratch : List ℕ) → (takes_while n false k s window scratch).follows ≡ false
unfolding takes_while
stopped zero k s window scratch = refl
stopped (suc n) k s window scratch = refl

-- One more than the pending events is enough; where there are more than 32 the first take is refused.
enough : (n : ℕ) (follows : Bool) (k : ℕ) (s window scratch : List ℕ) → 0 < n
    → (pending_count s ≤ 32 → pending_count s < n)
    → (takes_while n follows k s window scratch).follows ≡ false
unfolding takes_while
enough zero follows k s window scratch some less = absurd (omega arith)
enough (suc n) false k s window scratch some less = refl
enough (suc n) true k s window scratch some less = go (takes_again o.answer) refl (enough n)
  where
    o : Taken
    o = take_call program_width s window scratch

    go : (b : Bool) → takes_again o.answer ≡ b
        → ((c : Bool) (k : ℕ) (t v u : List ℕ) → 0 < n → (pending_count t ≤ 32 → pending_count t < n)
        → (takes_while n c k t v u).follows ≡ false)
        → (takes_while n (takes_again o.answer) k o.bytes o.window o.scratch).follows ≡ false
    go false e rest = rw e (stopped n k o.bytes o.window o.scratch)
    go true e rest =
        let lower = take_lowers program_width s window scratch e in
        let fewer = less lower.0 in
        rest (takes_again o.answer) k o.bytes o.window o.scratch (omega (arith, lower.1, fewer))
        (λ _. omega (arith, lower.1, fewer))

-- ---- Theorem
pub takes-end : TakesEnd
takes-end follows k bytes window scratch =
    enough most_takes follows k bytes window scratch (omega arith) (λ few. omega (arith, few))
