-- What the rule by the join grants is granted still: after a causal history, a clock that is the join of the last
-- clocks is valid.

-- the join of consistent cuts is one
use Rattle.std.specs.Prelude.{ℕ, zero, suc, ◌≡◌, Bool, false, true, List, ◌⊎◌}
use Rattle.std.proofs.Common.{arith, inl, inr}
use Rattle.std.proofs.Math.Path.{fun_ext}
use Rattle.clocks.specs.declared.Event.{Event}
use Rattle.clocks.specs.History.{taken, last_clock, Consistent}
use Rattle.clocks.specs.Causal.{Causal}
use Rattle.clocks.specs.Event.{involved, less, lowered}
use Rattle.clocks.specs.Bounds.{upper}
use Rattle.clocks.specs.Valid.{Known}
use Rattle.clocks.specs.Joined.{join_to}
use Rattle.clocks.specs.JoinedRule.{Joined}
use Rattle.clocks.specs.cuts.EventLaws.{either}
use Rattle.clocks.specs.cuts.Lattice.{zeros-consistent, clock_consistent, upper-consistent}

pub join_consistent : (n : ℕ) (member : ℕ → Bool) (ts : List Event) → Causal ts
    → Consistent ts (join_to n member (last_clock ts))
unfolding join_to last_clock
join_consistent zero member ts c = zeros-consistent ts
join_consistent (suc p) member ts c = go (either (member p)) (join_consistent p member ts c)
  where
    go : (member p ≡ true) ⊎ (member p ≡ false) → Consistent ts (join_to p member (last_clock ts)) → Consistent ts (join_to (suc p) member (last_clock ts))
    go (inl m) r = let z : join_to (suc p) member (last_clock ts) ≡ upper (last_clock ts p) (join_to p member (last_clock ts)) = fun_ext (λ q. rw m) in
        rw z (upper-consistent ts (last_clock ts p) (join_to p member (last_clock ts)) (clock_consistent ts c p (taken ts p)) r)
    go (inr m) r = let z : join_to (suc p) member (last_clock ts) ≡ join_to p member (last_clock ts) = fun_ext (λ q. rw m) in rw z r

-- such an event knows of the join itself
joined_lowered : (n : ℕ) (ts : List Event) (e : Event) → Joined n ts e → lowered e ≡ join_to n (involved e) (last_clock ts)
unfolding lowered less
joined_lowered n ts e j = fun_ext (λ q. omega (arith, j.each q))

-- ---- Theorem
pub joined_known : (n : ℕ) (ts : List Event) (e : Event) → Causal ts → Joined n ts e → Known ts e
joined_known n ts e c j = rw (joined_lowered n ts e j) (join_consistent n (involved e) ts c)
