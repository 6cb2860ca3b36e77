-- The join of clocks, and the rule for valid clocks that it gave before events knew of messages (01, Clocks and cuts:
-- its clock is true). 02 [2] put another in its place; what this one grants is still granted (validity/JoinedClock).
use Rattle.std.specs.Prelude.{ℕ, zero, suc, ◌+◌, max, Bool, cond, eqb}
use Rattle.clocks.specs.declared.Event.{Event}
use Rattle.clocks.specs.Event.{Cut, one, involved, count}
use Rattle.clocks.specs.Bounded.{all_below}

-- The largest, count by count, of the clocks of those of the first n processes that are members.
unfoldable pub join_to : (n : ℕ) (member : ℕ → Bool) (last : ℕ → Cut) → Cut
join_to zero member last q = 0
join_to (suc p) member last q = cond (member p) (max (last p q) (join_to p member last q)) (join_to p member last q)

-- The same as a test, of last clocks that stand somewhere.
unfoldable pub joined_by : (n : ℕ) (e : Event) (last : ℕ → Cut) → Bool
joined_by n e last = all_below n (λ q. eqb (count e q) (join_to n (involved e) last q + one (involved e q)))
