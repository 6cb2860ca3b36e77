-- The pending events of a watch that shares come to an end too (02 [14]), whatever calls the other watches make between.
-- Proved in EmptiesTheorem.
use Rattle.std.specs.Prelude.{ℕ, ◌≡◌}
use mathlib.Core.List.{List, [], ◌∷◌, ◌++◌, Memᴰ}
use Rattle.clocks.specs.Event.{Cut}
use Rattle.clocks.specs.Counts.{at}
use Rattle.rules.specs.Formula.{Formula}
use Rattle.rules.specs.Text.{text_of}
use Rattle.rules.specs.Reader.{read_rule, formed}
use Rattle.answers.specs.Answer.{Answer}
use Rattle.demands.specs.Mislent.{offer_lent, take_lent, find_lent, close_lent}
use Rattle.demands.specs.Run.{Watch}
use Rattle.demands.specs.statements.Empties.{NoneRefused, unrefused, Emptied}
use Rattle.pool_runs.specs.Runs.{Member, Pooled, PoolCall, shared_open_lent, shared_take_lent, shared_close_lent, plain_lent, pool_open, pool_offer, pool_take, pool_find, pool_close, mislent_call, Numbered, AllPoolPassed, with_watch, pool_run}
use Rattle.pool_runs.specs.Turns.{own_calls, Turn, own_turns}
use Rattle.pool_runs.specs.statements.Members.{OfEveryMember}

-- What a call answered, if it is a take.
abbrev pub of_take : (c : PoolCall) (answers : List Answer) → List Answer
of_take (pool_open text k labels s window) answers = []
of_take (pool_offer mask clock labels) answers = []
of_take (pool_take more scratch) answers = answers
of_take (pool_find line) answers = []
of_take (pool_close p) answers = []
of_take (mislent_call (shared_open_lent text k labels s window pool number)) answers = []
of_take (mislent_call (shared_take_lent s window scratch pool number)) answers = answers
of_take (mislent_call (shared_close_lent p s window pool number)) answers = []
of_take (mislent_call (plain_lent (offer_lent mask clock labels s))) answers = []
of_take (mislent_call (plain_lent (take_lent cap s window scratch))) answers = answers
of_take (mislent_call (plain_lent (find_lent line s window))) answers = []
of_take (mislent_call (plain_lent (close_lent p s window))) answers = []

-- The answers of one watch's takes, in their order.
unfoldable pub own_take_answers : (ts : List Turn) → List Answer
own_take_answers [] = []
own_take_answers (t ∷ ts) = of_take t.call t.answers ++ own_take_answers ts

-- It is not opened anew, and no event is offered to it.
abbrev pub NoOwnOpens : (cs : List PoolCall) → Type 0
NoOwnOpens cs =
    (text : List ℕ) (k : ℕ) (labels s window : List ℕ) → Memᴰ (pool_open text k labels s window) cs → ⊥

abbrev pub NoOwnOffers : (cs : List PoolCall) → Type 0
NoOwnOffers cs = (mask : ℕ) (clock labels : List ℕ) → Memᴰ (pool_offer mask clock labels) cs → ⊥

-- Any calls of all watches follow. Of watch i and its own calls among them, as of one that shares no pool (demands
-- statements/Empties):
pub record MemberEmpties (w k : ℕ) (f : Formula) (start : Cut) (i : ℕ) (m : Member) (G : Pooled) : Type 0 where
  -- takes, finds and closes, and no take is refused by 6, 34 or 36
  pub as_asked : (cs : List Numbered) → AllPoolPassed w cs → NoOwnOpens (own_calls i cs) → NoOwnOffers (own_calls i cs)
      → NoneRefused (own_take_answers (own_turns w i cs G))
      → (Y : Watch) × ((pool_run w cs G).places i ≡ with_watch m Y)
      × Emptied k f start m.watch Y (own_take_answers (own_turns w i cs G))
  -- more: there may be offers of which none is accepted, and takes that are refused so; it is true of the others
  pub none_accepted : (cs : List Numbered) → AllPoolPassed w cs → NoOwnOpens (own_calls i cs)
      → (Y : Watch) × ((pool_run w cs G).places i ≡ with_watch m Y)
      × (Y.accepted ≡ m.watch.accepted
      → Emptied k f start m.watch Y (unrefused (own_take_answers (own_turns w i cs G))))

-- With the formula f that the reader reads in its text.
abbrev pub EveryMemberEmpties : Type 0
EveryMemberEmpties =
    OfEveryMember (λ w i m G.
    (f : Formula) × (n : ℕ) × (read_rule m.text m.processes ≡ formed n f) × (text_of f ≡ m.text)
    × MemberEmpties w m.processes f (at m.labels) i m G)
