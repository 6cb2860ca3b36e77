-- One watch's part of a run (02 [10]): its own calls, and what each of them found and left.
use Rattle.std.specs.Prelude.{ℕ, cond, List, [], ◌∷◌, eqb}
use Rattle.answers.specs.Answer.{Answer}
use Rattle.pool.specs.Pool.{kept_at}
use Rattle.pool_runs.specs.Runs.{Place, Pooled, PoolCall, Numbered, outcome_in, after_pool_call}

-- Its own calls.
unfoldable pub own_calls : (i : ℕ) (cs : List Numbered) → List PoolCall
own_calls i [] = []
own_calls i (c ∷ cs) = cond (eqb c.number i) (c.call ∷ own_calls i cs) (own_calls i cs)

-- One of them: the watch as it was found and as it was left, with record and window; the scratch that was left, the
-- watch's own number in the pool, and the answer.
pub record Turn : Type 0 where
  pub call : PoolCall
  pub found : Place
  pub left : Place
  pub scratch : List ℕ
  pub kept : ℕ
  pub answers : List Answer

abbrev pub turn_of : (w : ℕ) (c : Numbered) (G : Pooled) → Turn
turn_of w c G = record {
  call = c.call;
  found = G.places c.number;
  left = (outcome_in w c G).place;
  scratch = (outcome_in w c G).scratch;
  kept = kept_at (outcome_in w c G).pool c.number;
  answers = (outcome_in w c G).answers;
}

-- All of them, in their order.
unfoldable pub own_turns : (w i : ℕ) (cs : List Numbered) (G : Pooled) → List Turn
own_turns w i [] G = []
own_turns w i (c ∷ cs) G =
    cond (eqb c.number i) (turn_of w c G ∷ own_turns w i cs (after_pool_call w c G))
    (own_turns w i cs (after_pool_call w c G))
