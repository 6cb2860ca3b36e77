-- Runs of calls on watches that share a pool (02 [10]): up to eight watches, any calls of any of them in any order.
-- Each call gets the pool, and its watch's record and window, as the calls before left them.
use Rattle.std.specs.Prelude.{ℕ, ◌≡◌, cond, ◌⊎◌, eqb}
use mathlib.Core.List.{List, [], ◌∷◌, Memᴰ}
use Rattle.answers.specs.Answer.{Answer, turned_back}
use Rattle.answers.specs.Result.{gives}
use Rattle.answers.specs.Kinds.{is_turned_back}
use Rattle.numbers.specs.Refusal.{length_number, state_number}
use Rattle.pool.specs.Pool.{allowance}
use Rattle.call_open.specs.Open.{Opened}
use Rattle.call_offer.specs.Offer.{offer_call}
use Rattle.call_find.specs.Find.{find_call}
use Rattle.call_shares.specs.Shares.{set_shares}
use Rattle.call_shared.specs.Shared.{shared_open, shared_take, shared_close}
use Rattle.demands.specs.Mislent.{Mislent, answer_to}
use Rattle.demands.specs.Run.{offers, finds, Passed, Watch, trial_of, after_take, after_close, after, opened}
use Rattle.demands.specs.EveryList.{EightBytes, lent_window}

-- ---- What there is between two calls

-- A watch that shares, with what it was opened with.
pub record Member : Type 0 where
  pub text : List ℕ
  pub processes : ℕ
  pub labels : List ℕ
  pub watch : Watch

-- A number has no watch yet, or this one.
pub data Place : Type 0 where
  vacant : Place
  has : (m : Member) → Place

-- The pool, and the watch of each number.
pub record Pooled : Type 0 where
  pub pool : List ℕ
  pub places : ℕ → Place

-- After the shares were set: no watch is open yet. The watches of a run are opened after one setting.
abbrev pub IsSet : (shares pool : List ℕ) → Type 0
IsSet shares pool = (set_shares shares pool).answer ≡ gives 0

abbrev pub begun : (shares pool : List ℕ) → Pooled
begun shares pool = record { pool = (set_shares shares pool).pool; places = λ i. vacant }

-- ---- Calls

-- A call that was lent other buffers than its watch's, another pool or another number, all of them any bytes: a shared
-- open, take or close, or a plain call. A run may have them anywhere, where 6 or 34 is the answer; then no lent byte
-- changes (call_shared SharedExact, demands statements/Mislent).
pub data PoolMislent : Type 0 where
  shared_open_lent : (text : List ℕ) (k : ℕ) (labels s window pool : List ℕ) (number : ℕ) → PoolMislent
  shared_take_lent : (s window scratch pool : List ℕ) (number : ℕ) → PoolMislent
  shared_close_lent : (p : ℕ) (s window pool : List ℕ) (number : ℕ) → PoolMislent
  plain_lent : (m : Mislent) → PoolMislent

unfoldable pub pool_answer_to : (w : ℕ) (m : PoolMislent) → Answer
pool_answer_to w (shared_open_lent text k labels s window pool number) =
    (shared_open w text k labels s window pool number).call.answer
pool_answer_to w (shared_take_lent s window scratch pool number) = (shared_take w s window scratch pool number).call.answer
pool_answer_to w (shared_close_lent p s window pool number) = (shared_close w p s window pool number).call.answer
pool_answer_to w (plain_lent m) = answer_to w m

-- A call of one watch: an open, the first or a later one, lent buffers of any bytes; an offer; a take, lent the window
-- with so many zeros appended, and a scratch of any length and content; a find; a close; or one that was lent other
-- things and turned back for them by 6 or by 34.
pub data PoolCall : Type 0 where
  pool_open : (text : List ℕ) (k : ℕ) (labels s window : List ℕ) → PoolCall
  pool_offer : (mask : ℕ) (clock labels : List ℕ) → PoolCall
  pool_take : (more : ℕ) (scratch : List ℕ) → PoolCall
  pool_find : (line : ℕ) → PoolCall
  pool_close : (p : ℕ) → PoolCall
  mislent_call : (m : PoolMislent) → PoolCall

-- The arguments are such as the machine passes.
abbrev pub PoolPassed : (w : ℕ) (c : PoolCall) → Type 0
PoolPassed w (pool_open text k labels s window) = EightBytes labels
PoolPassed w (pool_offer mask clock labels) = Passed w (offers mask clock labels)
PoolPassed w (pool_take more scratch) = Unit {0}
PoolPassed w (pool_find line) = Unit {0}
PoolPassed w (pool_close p) = Unit {0}
PoolPassed w (mislent_call m) =
    (pool_answer_to w m ≡ turned_back length_number 0) ⊎ (pool_answer_to w m ≡ turned_back state_number 0)

-- With the number of its watch, which may be any.
pub record Numbered : Type 0 where
  pub number : ℕ
  pub call : PoolCall

abbrev pub AllPoolPassed : (w : ℕ) (cs : List Numbered) → Type 0
AllPoolPassed w cs = (c : Numbered) → Memᴰ c cs → PoolPassed w c.call

-- ---- What a call does

-- What a call leaves of its watch and in the pool, and in the scratch that a take was lent; and its answer: none where
-- there was no watch to call.
pub record Outcome : Type 0 where
  pub place : Place
  pub pool : List ℕ
  pub scratch : List ℕ
  pub answers : List Answer

-- The member with its watch as a call left it.
abbrev pub with_watch : (m : Member) (W : Watch) → Place
with_watch m W = has (record { text = m.text; processes = m.processes; labels = m.labels; watch = W })

-- The member that an accepted open makes.
abbrev pub opens_with : (text : List ℕ) (k : ℕ) (labels : List ℕ) (o : Opened) → Place
opens_with text k labels o = has (record { text = text; processes = k; labels = labels; watch = opened o })

-- Nothing is called, or nothing changes but that there is an answer.
abbrev pub unchanged : (pool : List ℕ) (P : Place) (answers : List Answer) → Outcome
unchanged pool P answers = record { place = P; pool = pool; scratch = []; answers = answers }

-- Open, accepted, puts a new watch in the place of the one before, if there was one.
unfoldable pub outcome_of_open :
    (w i : ℕ) (text : List ℕ) (k : ℕ) (labels s window pool : List ℕ) (P : Place) → Outcome
outcome_of_open w i text k labels s window pool P =
    let r = shared_open w text k labels s window pool i in
    record {
      place = cond (is_turned_back r.call.answer) P (opens_with text k labels r.call);
      pool = r.pool;
      scratch = [];
      answers = r.call.answer ∷ [];
    }

-- The calls of an open watch: offer and find are the plain ones.
unfoldable pub outcome_of_offer : (w mask : ℕ) (clock labels pool : List ℕ) (m : Member) → Outcome
outcome_of_offer w mask clock labels pool m =
    unchanged pool (with_watch m (after w (offers mask clock labels) m.watch))
    ((offer_call w mask clock labels m.watch.bytes).answer ∷ [])

unfoldable pub outcome_of_find : (w line : ℕ) (pool : List ℕ) (m : Member) → Outcome
outcome_of_find w line pool m =
    unchanged pool (with_watch m (after w (finds line) m.watch))
    (find_call w line m.watch.bytes m.watch.window ∷ [])

unfoldable pub outcome_of_take : (w i more : ℕ) (scratch pool : List ℕ) (m : Member) → Outcome
outcome_of_take w i more scratch pool m =
    let lent = lent_window m.watch more in
    let r = shared_take w m.watch.bytes lent scratch pool i in
    record {
      place =
          with_watch m (after_take w r.call (trial_of w (allowance pool i) m.watch.bytes lent) m.watch);
      pool = r.pool;
      scratch = r.call.scratch;
      answers = r.call.answer ∷ [];
    }

unfoldable pub outcome_of_close : (w i p : ℕ) (pool : List ℕ) (m : Member) → Outcome
outcome_of_close w i p pool m =
    let r = shared_close w p m.watch.bytes m.watch.window pool i in
    record {
      place = with_watch m (after_close p r.call m.watch);
      pool = r.pool;
      scratch = [];
      answers = r.call.answer ∷ [];
    }

-- A call of watch i, by the pool and the place that it finds.
unfoldable pub outcome : (w i : ℕ) (c : PoolCall) (pool : List ℕ) (P : Place) → Outcome
outcome w i (pool_open text k labels s window) pool P = outcome_of_open w i text k labels s window pool P
outcome w i (mislent_call m) pool P = unchanged pool P (pool_answer_to w m ∷ [])
outcome w i (pool_offer mask clock labels) pool vacant = unchanged pool vacant []
outcome w i (pool_offer mask clock labels) pool (has m) = outcome_of_offer w mask clock labels pool m
outcome w i (pool_take more scratch) pool vacant = unchanged pool vacant []
outcome w i (pool_take more scratch) pool (has m) = outcome_of_take w i more scratch pool m
outcome w i (pool_find line) pool vacant = unchanged pool vacant []
outcome w i (pool_find line) pool (has m) = outcome_of_find w line pool m
outcome w i (pool_close p) pool vacant = unchanged pool vacant []
outcome w i (pool_close p) pool (has m) = outcome_of_close w i p pool m

-- The same for all numbers but i.
abbrev pub placed_at : (i : ℕ) (P : Place) (places : ℕ → Place) → ℕ → Place
placed_at i P places j = cond (eqb j i) P (places j)

abbrev pub outcome_in : (w : ℕ) (c : Numbered) (G : Pooled) → Outcome
outcome_in w c G = outcome w c.number c.call G.pool (G.places c.number)

abbrev pub after_pool_call : (w : ℕ) (c : Numbered) (G : Pooled) → Pooled
after_pool_call w c G = record {
  pool = (outcome_in w c G).pool;
  places = placed_at c.number (outcome_in w c G).place G.places;
}

-- The calls of a run, one after the other.
unfoldable pub pool_run : (w : ℕ) (cs : List Numbered) (G : Pooled) → Pooled
pool_run w [] G = G
pool_run w (c ∷ cs) G = pool_run w cs (after_pool_call w c G)
