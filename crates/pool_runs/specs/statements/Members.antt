-- Each watch of a run (02 [10]): calls alone wrote it, so that all that is said of every written watch is true of it,
-- demands 2 and 3 and the balance among it; and what its next shared take and close answer. Proved in MembersTheorem.
use Rattle.std.specs.Prelude.{ℕ, ◌≡◌, Bool, List, ◌↔◌, ◌≢◌}
use Rattle.clocks.specs.Event.{Cut}
use Rattle.clocks.specs.Counts.{at}
use Rattle.rules.specs.Formula.{Formula}
use Rattle.rules.specs.Text.{text_of}
use Rattle.rules.specs.Reader.{read_rule, formed}
use Rattle.numbers.specs.Refusal.{false_clock_number, length_number, no_room_number, state_number}
use Rattle.answers.specs.Answer.{turned_back, state, nothing_ready}
use Rattle.pool.specs.Pool.{allowance}
use Rattle.call_take.specs.Take.{Taken}
use Rattle.call_close.specs.Close.{Closed}
use Rattle.call_shared.specs.Shared.{Shared, pool_after, shared_take, shared_close}
use Rattle.demands.specs.Ledger.{Settled}
use Rattle.demands.specs.Run.{Watch, after, takes, closes}
use Rattle.demands.specs.EveryList.{EightBytes, EndsQuiet, SameAccepted, SameClosed, RightLengths, lent_window, next_take}
use Rattle.demands.specs.Written.{Written}
use Rattle.demands.specs.statements.TakeAnswers.{AnswersExact, NoRoom, FalseClock, Takes, allowed_next}
use Rattle.demands.specs.statements.Close.{next_close}
use Rattle.demands.specs.statements.EveryWatch.{WatchExact}
use Rattle.demands.specs.statements.OrderIndependent.{Alike}
use Rattle.pool_runs.specs.Runs.{Member, has, Pooled, with_watch, outcome_of_take, outcome_of_close}
use Rattle.pool_runs.specs.statements.Within.{OfEveryRun}

-- Of a run's watches at its end.
abbrev pub OfEveryMember : (P : (w i : ℕ) (m : Member) (G : Pooled) → Type 0) → Type 0
OfEveryMember P = OfEveryRun (λ w shares G. (i : ℕ) (m : Member) → G.places i ≡ has m → P w i m G)

-- ---- Its next shared take and close

abbrev pub next_shared : (w i : ℕ) (m : Member) (G : Pooled) (more : ℕ) (scratch : List ℕ) → Shared Taken
next_shared w i m G more scratch =
    shared_take w m.watch.bytes (lent_window m.watch more) scratch G.pool i

abbrev pub next_shared_close : (w i : ℕ) (m : Member) (G : Pooled) (p : ℕ) → Shared Closed
next_shared_close w i m G p = shared_close w p m.watch.bytes m.watch.window G.pool i

pub record MemberExact (w k : ℕ) (f : Formula) (start : Cut) (i : ℕ) (m : Member) (G : Pooled) : Type 0 where
  -- all that is stated of every written watch
  pub exact : WatchExact w k f start m.watch
  -- the shared take is the plain one under the cap that the pool allows: in answer, in bytes, and in what becomes of
  -- the events
  pub take_plain : (more : ℕ) (scratch : List ℕ)
      → (next_shared w i m G more scratch).call ≡ next_take w m.watch (allowance G.pool i) more scratch
  pub take_leaves : (more : ℕ) (scratch : List ℕ)
      → (outcome_of_take w i more scratch G.pool m).place
      ≡ with_watch m (after w (takes (allowance G.pool i) more scratch) m.watch)
  -- so its answers, exactly if: 6 for wrong lengths; else by the events and by how many frontiers are allowed; never 34
  pub take_lengths : (more : ℕ) (scratch : List ℕ)
      → ((next_shared w i m G more scratch).call.answer ≡ turned_back length_number 0)
      ↔ (RightLengths w m.watch more scratch → ⊥)
  -- (AnswersExact, of the plain take under that cap, has also that there is no other and what becomes of the ledger)
  pub take_answers : (more : ℕ) (scratch : List ℕ) → RightLengths w m.watch more scratch
      → AnswersExact w k f start m.watch (allowance G.pool i) more scratch
  pub take_nothing : (more : ℕ) (scratch : List ℕ) → RightLengths w m.watch more scratch
      → ((next_shared w i m G more scratch).call.answer ≡ nothing_ready) ↔ Settled m.watch.ledger
  pub take_full : (more : ℕ) (scratch : List ℕ) → RightLengths w m.watch more scratch
      → ((next_shared w i m G more scratch).call.answer ≡ turned_back no_room_number 0)
      ↔ NoRoom k (allowed_next w m.watch (allowance G.pool i) more) m.watch.ledger
  pub take_false : (more : ℕ) (scratch : List ℕ) → RightLengths w m.watch more scratch
      → ((next_shared w i m G more scratch).call.answer ≡ turned_back false_clock_number 0)
      ↔ FalseClock k (allowed_next w m.watch (allowance G.pool i) more) m.watch.ledger
  pub take_state : (more : ℕ) (scratch : List ℕ) → RightLengths w m.watch more scratch
      → (counts : List ℕ) (truth : Bool) (kept : ℕ)
      → ((next_shared w i m G more scratch).call.answer ≡ state counts truth kept)
      ↔ Takes k (allowed_next w m.watch (allowance G.pool i) more) f start m.watch.ledger counts truth kept
  pub take_never_34 : (more : ℕ) (scratch : List ℕ)
      → (next_shared w i m G more scratch).call.answer ≢ turned_back state_number 0
  -- the shared close is the plain one
  pub close_plain : (p : ℕ) → (next_shared_close w i m G p).call ≡ next_close w m.watch p
  pub close_leaves : (p : ℕ)
      → (outcome_of_close w i p G.pool m).place ≡ with_watch m (after w (closes p) m.watch)
  -- both leave the pool as it was where they are refused, and else with the record's number
  pub take_pool : (more : ℕ) (scratch : List ℕ)
      → (next_shared w i m G more scratch).pool
      ≡ pool_after G.pool i (next_shared w i m G more scratch).call.answer
      (next_shared w i m G more scratch).call.bytes
  pub close_pool : (p : ℕ)
      → (next_shared_close w i m G p).pool
      ≡ pool_after G.pool i (next_shared_close w i m G p).call.answer (next_shared_close w i m G p).call.bytes

-- With the formula f that the reader reads in its text.
abbrev pub MemberIsExact : (w i : ℕ) (m : Member) (G : Pooled) → Type 0
MemberIsExact w i m G =
    EightBytes m.labels × Written m.text m.processes m.labels w m.watch
    × ((f : Formula) × (n : ℕ) × (read_rule m.text m.processes ≡ formed n f) × (text_of f ≡ m.text)
    × MemberExact w m.processes f (at m.labels) i m G)

abbrev pub EveryMemberIsExact : Type 0
EveryMemberIsExact = OfEveryMember MemberIsExact

-- ---- Demand 3

-- Opened alike: the text, the number of processes and the start labels are the same.
abbrev pub OpenedAlike : (m n : Member) → Type 0
OpenedAlike m n = (m.text ≡ n.text) × (m.processes ≡ n.processes) × (m.labels ≡ n.labels)

-- Two watches of two runs, whose shares, numbers and other watches may differ, or of one: the same accepted events, the
-- same closed processes and "nothing ready" at both ends make them alike.
abbrev pub MembersOrderIndependent : Type 0
MembersOrderIndependent =
    OfEveryMember (λ w i m G.
    OfEveryMember (λ v j n H.
    w ≡ v → OpenedAlike m n → EndsQuiet m.watch → EndsQuiet n.watch → SameAccepted m.watch n.watch
    → SameClosed m.watch n.watch
    → (f : Formula) × (x : ℕ) × (read_rule m.text m.processes ≡ formed x f) × (text_of f ≡ m.text)
    × Alike w m.processes f (at m.labels) m.watch n.watch))

-- The same of such a watch and one that shares no pool, written by calls and moves.
abbrev pub MemberAndPlainAlike : Type 0
MemberAndPlainAlike =
    OfEveryMember (λ w i m G.
    (Z : Watch) → Written m.text m.processes m.labels w Z
    → EndsQuiet m.watch → EndsQuiet Z → SameAccepted m.watch Z → SameClosed m.watch Z
    → (f : Formula) × (x : ℕ) × (read_rule m.text m.processes ≡ formed x f) × (text_of f ≡ m.text)
    × Alike w m.processes f (at m.labels) m.watch Z)
