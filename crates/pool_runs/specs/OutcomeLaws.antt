-- Every call of a run keeps the invariant: it leaves its watch within what is allowed, and the pool with its number.
use Rattle.std.specs.Prelude.{ℕ, ◌≤◌, ◌<◌, ◌≡◌, Bool, cond, ◌⊎◌}
use Rattle.std.proofs.Common.{arith, ◌∙◌, true≢false}
use Rattle.std.proofs.Math.Path.{refl, sym, ap}
use Rattle.std.proofs.Math.Bool.{true, false}
use mathlib.Core.List.{List, [], ◌∷◌}
use Rattle.std.proofs.Math.Logic.{inl, inr}
use borrow.Author.Tests.{lt-leb, ne_eqb}
use Rattle.clocks.specs.Counts.{at}
use Rattle.numbers.specs.Limit.{most_frontiers, most_members}
use Rattle.records.specs.Record.{kept_count}
use Rattle.answers.specs.Answer.{Answer, turned_back, state, nothing_ready, held, again, found, absent, process_closed}
use Rattle.answers.specs.Kinds.{is_turned_back, is_state}
use Rattle.pool.specs.Pool.{share_at, no_share, allowance, brought_up}
use Rattle.call_open.specs.Open.{Opened}
use Rattle.call_close.specs.Close.{Closed, close_process, close_call}
use Rattle.call_close.specs.CloseCases.{Case, turned, accepted, close_case}
use Rattle.call_shared.specs.Shared.{Shared, pool_after, shared_open}
use Rattle.demands.specs.Run.{Watch, offers, takes, finds, closes, after, opened}
use Rattle.demands.specs.EveryList.{EightBytes, lent_window, next_take}
use Rattle.demands.specs.Written.{Written, opens, calls}
use Rattle.pool_runs.specs.Runs.{Member, Place, vacant, has, Pooled, PoolCall, pool_open, pool_offer, pool_take, pool_find, pool_close, mislent_call, PoolPassed, Numbered, with_watch, unchanged, outcome_of_open, outcome_of_offer, outcome_of_find, outcome_of_take, outcome_of_close, outcome, outcome_in}
use Rattle.pool_runs.specs.statements.Within.{kept_at_place, kept_or_promised}
use Rattle.pool_runs.specs.Running.{HasShare, IsWritten, Running}
use Rattle.pool_runs.specs.RunningLaws.{Lawful}
use Rattle.pool_runs.specs.KeptLaws.{written_few, offer_keeps, take_keeps, take_within, close_keeps, open_keeps}
use Rattle.pool_runs.specs.MemberCallLaws.{with_share, take_as, close_as, SharedOpenCase, refused_open, accepted_open, shared_open_case}

-- ---- Places

inside : Member → Place → Member
inside other vacant = other
inside other (has m) = m

one_member : (l m : Member) → has l ≡ has m → l ≡ m
unfolding inside
one_member l m e = ap (inside l) e

-- ---- The pool that a call leaves

-- A refusal leaves it, and the watch keeps as many; else the number is the record's.
left_by : (pool : List ℕ) (i n : ℕ) (a : Answer) (s : List ℕ) → i < most_members
    → (is_turned_back a ≡ true → kept_count s ≡ n) → kept_count s ≤ most_frontiers
    → ((pool_after pool i a s ≡ pool) × (kept_count s ≡ n))
    ⊎ ((i < most_members) × (pool_after pool i a s ≡ brought_up pool i (kept_count s)) × (kept_count s ≤ most_frontiers))
unfolding pool_after
left_by pool i n a s l same few = go (is_turned_back a) refl
  where
    go : (b : Bool) → is_turned_back a ≡ b
        → ((cond (is_turned_back a) pool (brought_up pool i (kept_count s)) ≡ pool) × (kept_count s ≡ n))
        ⊎ ((i < most_members)
        × (cond (is_turned_back a) pool (brought_up pool i (kept_count s)) ≡ brought_up pool i (kept_count s))
        × (kept_count s ≤ most_frontiers))
    go true h = inl (rw h, same h)
    go false h = inr (l, rw h, few)

-- A refusal is no state.
turned_no_state : (a : Answer) → is_turned_back a ≡ true → is_state a ≡ false
turned_no_state (turned_back n i) h = refl
turned_no_state (state c t n) h = sym h
turned_no_state nothing_ready h = refl
turned_no_state (held n) h = refl
turned_no_state again h = refl
turned_no_state (found i) h = refl
turned_no_state absent h = refl
turned_no_state (process_closed n) h = refl

closed_answer : (w p : ℕ) (s window : List ℕ) → is_turned_back (close_process w p s window).answer ≡ false
unfolding close_process
closed_answer w p s window = refl

-- A close that is refused leaves the record.
refused_close : (w p : ℕ) (s window : List ℕ) → is_turned_back (close_call w p s window).answer ≡ true
    → (close_call w p s window).bytes ≡ s
refused_close w p s window h = go (close_case w p s window)
  where
    go : Case w p s window (close_call w p s window) → (close_call w p s window).bytes ≡ s
    go (turned n _ _ _ q) = ap (λ (c : Closed). c.bytes) q
    go (accepted _ _ q) =
        let same = ap (λ (c : Closed). is_turned_back c.answer) q in
        absurd (true≢false (sym h ∙ same ∙ closed_answer w p s window))

module _ (w : ℕ) (pos : 0 < w) (shares : List ℕ) (G : Pooled) (R : Running w shares G) where
  -- a member's number has a share by the pool
  pub shared : (i : ℕ) → HasShare shares i → no_share G.pool i ≡ false
  unfolding no_share
  shared i h =
      let some : share_at G.pool i ≡ 0 → ⊥ = λ z. omega (arith, z, R.shares_are i h.0, h.1) in
      rw (lt-leb most_members i h.0, ne_eqb (share_at G.pool i) 0 some)

  -- ---- Nothing changes
  idle : (i : ℕ) (P : Place) (answers : List Answer) → G.places i ≡ P
      → Lawful w shares G i (unchanged G.pool P answers)
  idle i P answers h = record {
    pool_left = inl (refl, ap kept_at_place (sym h));
    grows = inl (rw h (omega arith));
    member = λ m q. R.members i m (h ∙ q);
  }

  -- ---- Open
  module _ (i : ℕ) (text : List ℕ) (k : ℕ) (labels s window : List ℕ) (eight : EightBytes labels) where
    abbrev r : Shared Opened
    r = shared_open w text k labels s window G.pool i

    open_lawful : Lawful w shares G i (outcome_of_open w i text k labels s window G.pool (G.places i))
    unfolding outcome_of_open
    open_lawful = go (shared_open_case w text k labels s window G.pool i)
      where
        go : SharedOpenCase w text k labels s window G.pool i r
            → Lawful w shares G i (outcome_of_open w i text k labels s window G.pool (G.places i))
        go (refused_open h q) = rw (h, q) (idle i (G.places i) _ refl)
        go (accepted_open share a h c q) =
            let l = with_share G.pool i share in
            let one : kept_count r.call.bytes ≡ 1 =
            ap (λ (z : Opened). kept_count z.bytes) c ∙ open_keeps w text k labels s window a in
            let many : 1 ≤ at shares i = omega (arith, l.1, R.shares_are i l.0) in
            let new : Written text k labels w (opened r.call) = rw c (opens w pos s window a) in
            rw h (record {
              pool_left = inr (l.0, q, omega (arith, one));
              grows = inl (omega (arith, one, many));
              member = λ m e. ((l.0, many), rw (← one_member _ m e) (eight, new));
            })

  -- ---- A watch's own calls
  module _ (i : ℕ) (m : Member) (here : G.places i ≡ has m) where
    abbrev W : Watch
    W = m.watch

    abbrev share : HasShare shares i
    share = (R.members i m here).0

    abbrev eight : EightBytes m.labels
    eight = (R.members i m here).1.0

    abbrev written : Written m.text m.processes m.labels w W
    written = (R.members i m here).1.1

    -- with its watch as a call left it
    still : (Z : Watch) → Written m.text m.processes m.labels w Z → (l : Member) → with_watch m Z ≡ has l
        → HasShare shares i × IsWritten w l
    still Z z l e = (share, rw (← one_member _ l e) (eight, z))

    kept_before : kept_at_place (G.places i) ≡ kept_count W.bytes
    kept_before = ap kept_at_place here

    offer_lawful : (mask : ℕ) (clock labels : List ℕ) → PoolPassed w (pool_offer mask clock labels)
        → Lawful w shares G i (outcome_of_offer w mask clock labels G.pool m)
    unfolding outcome_of_offer
    offer_lawful mask clock labels p =
        let Z = after w (offers mask clock labels) W in
        let z = calls w W written (offers mask clock labels) p in
        let same = offer_keeps m.text m.processes m.labels eight w W written mask clock labels p in
        record {
          pool_left = inl (refl, same ∙ sym kept_before);
          grows = inl (omega (arith, same, kept_before));
          member = still Z z;
        }

    find_lawful : (line : ℕ) → Lawful w shares G i (outcome_of_find w line G.pool m)
    unfolding outcome_of_find after
    find_lawful line = record {
      pool_left = inl (refl, sym kept_before);
      grows = inl (omega (arith, kept_before));
      member = still (after w (finds line) W) (calls w W written (finds line) tt);
    }

    -- the take is the plain one under the cap that the pool allows
    pub take-outcome : (more : ℕ) (scratch : List ℕ)
        → let t = next_take w W (allowance G.pool i) more scratch in
        outcome_of_take w i more scratch G.pool m
        ≡ record {
          place = with_watch m (after w (takes (allowance G.pool i) more scratch) W);
          pool = pool_after G.pool i t.answer t.bytes;
          scratch = t.scratch;
          answers = t.answer ∷ [];
        }
    unfolding outcome_of_take after
    take-outcome more scratch =
        rw (take_as w G.pool i R.size (shared i share) W.bytes (lent_window W more) scratch)

    take_lawful : (more : ℕ) (scratch : List ℕ) → Lawful w shares G i (outcome_of_take w i more scratch G.pool m)
    unfolding after
    take_lawful more scratch =
        let cap' = allowance G.pool i in
        let Z = after w (takes cap' more scratch) W in
        let z = calls w W written (takes cap' more scratch) tt in
        let t = next_take w W cap' more scratch in
        let few = written_few m.text m.processes m.labels eight w Z z in
        let keeps = take_keeps m.text m.processes m.labels eight w W written cap' more scratch in
        let within = take_within m.text m.processes m.labels eight w W written cap' more scratch in
        rw (take-outcome more scratch)
        (record {
          pool_left =
              left_by G.pool i (kept_at_place (G.places i)) t.answer Z.bytes share.0
              (λ h. keeps (turned_no_state t.answer h) ∙ sym kept_before) few;
          grows = grown (is_state t.answer) refl keeps within;
          member = still Z z;
        })
      where
        grown : (b : Bool) → is_state (next_take w W (allowance G.pool i) more scratch).answer ≡ b
            → (is_state (next_take w W (allowance G.pool i) more scratch).answer ≡ false
            → kept_count (after w (takes (allowance G.pool i) more scratch) W).bytes ≡ kept_count W.bytes)
            → (is_state (next_take w W (allowance G.pool i) more scratch).answer ≡ true
            → kept_count (after w (takes (allowance G.pool i) more scratch) W).bytes ≤ allowance G.pool i)
            → (kept_count (after w (takes (allowance G.pool i) more scratch) W).bytes ≤ kept_or_promised shares G i)
            ⊎ (kept_count (after w (takes (allowance G.pool i) more scratch) W).bytes ≤ allowance G.pool i)
        grown true h keeps within = inr (within h)
        grown false h keeps within = inl (omega (arith, keeps h, kept_before))

    -- the close is the plain one
    pub close_outcome : (p : ℕ)
        → let c = close_call w p W.bytes W.window in
        outcome_of_close w i p G.pool m
        ≡ record {
          place = with_watch m (after w (closes p) W);
          pool = pool_after G.pool i c.answer c.bytes;
          scratch = [];
          answers = c.answer ∷ [];
        }
    unfolding outcome_of_close after
    close_outcome p = rw (close_as w G.pool i R.size (shared i share) p W.bytes W.window)

    close_lawful : (p : ℕ) → Lawful w shares G i (outcome_of_close w i p G.pool m)
    unfolding after
    close_lawful p =
        let Z = after w (closes p) W in
        let z = calls w W written (closes p) tt in
        let c = close_call w p W.bytes W.window in
        let few = written_few m.text m.processes m.labels eight w Z z in
        let fewer = close_keeps m.text m.processes m.labels eight w W written p in
        rw (close_outcome p)
        (record {
          pool_left =
              left_by G.pool i (kept_at_place (G.places i)) c.answer Z.bytes share.0
              (λ h. ap kept_count (refused_close w p W.bytes W.window h) ∙ sym kept_before) few;
          grows = inl (omega (arith, fewer, kept_before));
          member = still Z z;
        })

  -- ---- Theorem
  pub call_lawful : (c : Numbered) → PoolPassed w c.call → Lawful w shares G c.number (outcome_in w c G)
  unfolding outcome
  call_lawful c p = go c.number c.call p (G.places c.number) refl
    where
      go : (i : ℕ) (d : PoolCall) → PoolPassed w d → (P : Place) → G.places i ≡ P
          → Lawful w shares G i (outcome w i d G.pool P)
      go i (pool_open text k labels s window) p P h = rw (← h) (open_lawful i text k labels s window p)
      go i (mislent_call x) p P h = idle i P _ h
      go i (pool_offer mask clock labels) p vacant h = idle i vacant [] h
      go i (pool_offer mask clock labels) p (has m) h = offer_lawful i m h mask clock labels p
      go i (pool_take more scratch) p vacant h = idle i vacant [] h
      go i (pool_take more scratch) p (has m) h = take_lawful i m h more scratch
      go i (pool_find line) p vacant h = idle i vacant [] h
      go i (pool_find line) p (has m) h = find_lawful i m h line
      go i (pool_close q) p vacant h = idle i vacant [] h
      go i (pool_close q) p (has m) h = close_lawful i m h q
