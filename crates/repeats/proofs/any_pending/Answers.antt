-- An event that passes the test decides: the law `any_of_decides`.
use Rattle.std.proofs.Common.{◌≡◌, ◌<◌, ℕ, arith, sym, ◌∙◌, ap, Bool, true, false, true≢false}
use borrow.Author.Count.{below_more}
use Rattle.clocks.specs.Bounded.{any_of}
use Rattle.clocks.specs.Counts.{list_of}
use Rattle.clocks.specs.declared.Event.{Event}
use Rattle.clocks.specs.stored.SearchLaws.{any_of_decides}
use Rattle.records.specs.Record.{pending_count, pending_at, pending_events}
use Rattle.repeats.proofs.any_pending.Goals as goal

-- An event of the list passes.
passes : (n : ℕ) (f : ℕ → Event) (test : Event → Bool) (k : ℕ) {e : Event} → e ≡ f k → true ≡ test e → k < n
    → true ≡ any_of test (list_of n f)
passes n f test k is passed l =
    any_of_decides n f test true (λ h. absurd (true≢false h))
    (λ h none. true≢false (passed ∙ ap test is ∙ none k l))

pub returns-then-alike : goal.returns-then-alike
unfolding pending_events
returns-then-alike g c test tests =
    let a = c.args in
    passes (pending_count a.«record».now) (pending_at a.w a.«record».now) test _ c.pending_event.ensures
    (sym c.if-alike.true ∙ tests _ _ c.alike.ensures) (omega arith)

-- None is passed over at first.
pub loop-i-init : goal.loop-i-init
loop-i-init g c = (c.requires.callable, λ k l. absurd (omega arith))

-- The event passed over is pending event number i.
pub loop-i-preserved : goal.loop-i-preserved
loop-i-preserved g c = (
  c.loop-i.invariant.0,
  below_more _ c.loop-i.i c.loop-i.invariant.1 (rw (c.pending_event.ensures, c.if-alike.false) at c.alike.ensures),
)

pub returns : goal.returns
unfolding pending_events
returns g c test tests =
    let a = c.args in
    any_of_decides (pending_count a.«record».now) (pending_at a.w a.«record».now) test false
    (λ h p l. sym (tests (pending_at a.w a.«record».now p) false (c.loop-i.invariant.1 p (omega arith)))) (λ h. absurd (true≢false (sym h)))
