use Prim.Native.Nat.{ℕ, ◌<◌, ◌≤◌}
use native.Mathlib.Omega.{arith}
use mathlib.Core.Path.{◌≡◌, refl, sym, ap, subst⁻¹, ◌∙◌}
use mathlib.Core.Bool.{Bool, true, false}
use mathlib.Core.List.{List}
use lib.Dec.{T}
use Rattle.clocks.specs.declared.Event.{Event}
use Rattle.clocks.specs.Event.{lowered}
use Rattle.clocks.specs.Counts.{list_of}
use Rattle.clocks.specs.Bounded.{any_of}
use Rattle.clocks.specs.cuts.EventLaws.{true-T}
use Rattle.clocks.specs.stored.SearchLaws.{passes_from, search_here, search_next, search_none}
use Rattle.window.specs.Step.{fits, kept_after}
use Rattle.frontiers.specs.declared.Frontier.{Frontier}
use Rattle.frontiers.specs.Bytes.{frontier_at, frontiers}
use Rattle.lookup.specs.Order.{same}
use Rattle.trial.specs.declared.Choice.TheVariants.{Chosen}
use Rattle.records.specs.Record.{pending_at, pending_events, taken_counts, ready_in}
use Rattle.trial.specs.Trial.{setting_in, valid_among, in_turn}
use Rattle.trial.proofs.TrialSteps.{tried_from, tried-end, tried_pass, tried-false, tried-fits, tried_full}
use Rattle.trial.specs.TrialCode.{choice_for}
use Rattle.std.proofs.Common.{◌&&◌, ltb, leb, get_or, rules}
use Rattle.trial.proofs.decide.Invariants.{stands}
use Rattle.trial.proofs.decide.Goals as goal
use Rattle.trial.proofs.decide.Goals.{After-ready}

-- ---- The tests' answers are those of the pending event

-- The event and the frontiers, as the definition has them.
abbrev event : After-ready → Event
event c = let a = c.args in pending_at a.w a.«record».now c.place_in_turn-i.result

abbrev kept : After-ready → List Frontier
kept c = let a = c.args in frontiers a.w a.window.now a.n

event-is : (c : After-ready) → c.pending_event-e.result ≡ event c
event-is c = rw (c.pending_event-e.ensures, c.of-width.ensures)

turn-is : (c : After-ready) → let a = c.args in
    c.place_in_turn-i.result ≡ get_or (in_turn (pending_events a.w a.«record».now)) c.events.turn 0
turn-is c = rw (c.place_in_turn-i.ensures.0, c.of-width.ensures)

tested_ready : (c : After-ready)
    → ready_in c.args.w c.args.«record».now (event c) ≡ c.ready.result
unfolding ready_in
tested_ready c =
    let a = c.args in
    let taken : c.taken_counts-taken.result ≡ taken_counts a.w a.«record».now = rw (c.taken_counts-taken.ensures, c.of-width.ensures) in
    rw (← event-is c, ← taken) (sym c.ready.ensures)

-- A frontier is compared with the counts that are looked for.
tested_here : (w : ℕ) (window known : List ℕ) (j : ℕ) (counts : List ℕ) (found : Bool)
    → counts ≡ (frontier_at w window j).counts → found ≡ same counts known
    → stands known (frontier_at w window j) ≡ found
tested_here w window known j counts found read compared = rw (← read) (sym compared)

-- What the event knows of is looked for among them. Found, the event's clock is valid; looked for in vain, it is not.
module _ (c : After-ready) (known : List ℕ) (lower : known ≡ list_of 8 (lowered c.pending_event-e.result)) where
  tested_valid : valid_among (kept c) (event c) ≡ any_of (stands known) (kept c)
  unfolding valid_among
  tested_valid = rw (← event-is c, ← lower) refl

  module _ (j : ℕ) (before : any_of (stands known) (kept c)
      ≡ passes_from c.args.n (frontier_at c.args.w c.args.window.now) (stands known) j) where
    is_known : j < c.args.n → stands known (frontier_at c.args.w c.args.window.now j) ≡ true
        → valid_among (kept c) (event c) ≡ true
    is_known l here =
        tested_valid ∙ before
        ∙ search_here c.args.n (frontier_at c.args.w c.args.window.now) (stands known) j l here

    not_known : c.args.n ≤ j → valid_among (kept c) (event c) ≡ false
    not_known l =
        tested_valid ∙ before
        ∙ search_none c.args.n (frontier_at c.args.w c.args.window.now) (stands known) j l

-- So many frontiers are kept once the event is taken, and this is whether they fit.
tested_fits : (c : After-ready) (many : ℕ) (fitting : Bool)
    → let a = c.args in
    many ≡ kept_after (setting_in a.w a.«record».now c.pending_event-e.result) (kept c)
    → fitting ≡ (ltb 0 many && leb many a.allowed)
    → fits (setting_in a.w a.«record».now (event c)) a.allowed (kept c) ≡ fitting
unfolding fits
tested_fits c many fitting counted tested = rw (← event-is c, ← counted) (sym tested)

-- ---- The goals

pub events-init : goal.events-init
unfolding tried_from
events-init c = (false, refl, refl)

pub loop-j-init : goal.loop-j-init
unfolding frontiers
loop-j-init c = refl

pub kept_with-kept-requires-clause-t : goal.kept_with-kept-requires-clause-t
kept_with-kept-requires-clause-t c =
    let a = c.args in
    let here = (goal.at.kept_with-kept-requires-clause-t c).After-ready in
    subst⁻¹ (λ (e : Event). T (ready_in a.w a.«record».now e)) (event-is here)
    (true-T (tested_ready here ∙ c.if-ready.true))

pub loop-j-preserved : goal.loop-j-preserved
loop-j-preserved c =
    let a = c.args in
    let l = c.loop-j in
    l.invariant
    ∙ search_next a.n (frontier_at a.w a.window.now) (stands c.lowered-known.result)
    l.j (search rules)
    (tested_here _ _ _ _ _ _ (rw c.of-width.ensures at c.counts_at.ensures) c.counts_same.ensures ∙ c.if-counts_same.false)

pub events-preserved-then-counts_same : goal.events-preserved-then-counts_same
events-preserved-then-counts_same c =
    let here = (goal.at.events-preserved-then-counts_same c).After-ready in
    let known = is_known here _ c.lowered-known.ensures c.loop-j.j c.loop-j.invariant (omega arith)
    (tested_here _ _ _ _ _ _ (rw c.of-width.ensures at c.counts_at.ensures) c.counts_same.ensures ∙ c.if-counts_same.true) in (
      true,
      refl,
      c.events.invariant.2 ∙ tried_full _ _ _ _ _ _ _ _ (omega arith) (turn-is here)
          (tested_ready here ∙ c.if-ready.true) known
          (tested_fits here _ _ c.kept_with-kept.ensures.value c.fitting.ensures ∙ c.if-fitting.false),
    )

pub events-preserved : goal.events-preserved
events-preserved c =
    let l = c.events in
    let here = (goal.at.events-preserved c).After-ready in (
      l.invariant.0,
      l.invariant.1,
      l.invariant.2 ∙ tried_pass _ _ _ _ _ _ _ _ (omega arith) (turn-is here)
          (tested_ready here ∙ c.if-ready.false),
    )

pub returns-after-events-clause-value : goal.returns-after-events-clause-value
unfolding choice_for
returns-after-events-clause-value c =
    let l = c.events in
    l.invariant.1 ∙ sym (ap (choice_for _ _ _) (l.invariant.2 ∙ tried-end _ _ _ _ _ _ _ (omega arith)))

pub returns-after-loop-j-clause-value : goal.returns-after-loop-j-clause-value
unfolding choice_for
returns-after-loop-j-clause-value c =
    let here = (goal.at.returns-after-loop-j-clause-value c).After-ready in
    sym (ap (choice_for _ _ _)
    (c.events.invariant.2
    ∙ tried-false _ _ _ _ _ _ _ _ (omega arith) (turn-is here)
    (tested_ready here ∙ c.if-ready.true)
    (not_known here _ c.lowered-known.ensures c.loop-j.j c.loop-j.invariant (omega arith))))

pub returns-then-fitting-clause-value : goal.returns-then-fitting-clause-value
unfolding choice_for
returns-then-fitting-clause-value c =
    let a = c.args in
    let place = c.place_in_turn-i in
    let counted = c.kept_with-kept in
    let here = (goal.at.returns-then-fitting-clause-value c).After-ready in
    let known = is_known here _ c.lowered-known.ensures c.loop-j.j c.loop-j.invariant (omega arith)
    (tested_here _ _ _ _ _ _ (rw c.of-width.ensures at c.counts_at.ensures) c.counts_same.ensures ∙ c.if-counts_same.true) in
    ap (Chosen place.result)
    (counted.ensures.value
    ∙ ap (λ (e : Event). kept_after (setting_in a.w a.«record».now e)
    (frontiers a.w a.window.now a.n)) (event-is here))
    ∙ sym (ap (choice_for a.w a.«record».now (frontiers a.w a.window.now a.n))
    (c.events.invariant.2 ∙ tried-fits _ _ _ _ _ _ _ _ (omega arith) (turn-is here)
    (tested_ready here ∙ c.if-ready.true) known
    (tested_fits here _ _ counted.ensures.value c.fitting.ensures ∙ c.if-fitting.true)))
