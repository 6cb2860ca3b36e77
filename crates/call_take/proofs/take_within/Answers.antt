-- The three ways of a decision: the laws `choice_undecided`, `choice_falsified` and `choice_chosen`.
use Prim.Native.Nat.{ℕ}
use native.Mathlib.Nat.{mul-le-mul_right}
use native.Mathlib.Omega.{arith}
use mathlib.Core.Path.{◌≡◌, sym, ap, ◌∙◌}
use mathlib.Core.List.{List}
use lib.ListN.{length, replicate}
use Rattle.frontiers.specs.declared.Frontier.{Frontier}
use Rattle.frontiers.specs.Bytes.{frontier_length, frontiers}
use Rattle.answers.specs.Answer.{reply_word}
use Rattle.call_take.proofs.ChoiceSteps.{within_by, choice_undecided, choice_falsified, choice_chosen}
use Rattle.records.specs.Record.{kept_count}
use Rattle.trial.specs.Trial.{trial}
use Rattle.call_take.specs.Take.{Taken, decided}
use Rattle.trial.specs.TrialCode.{choice_for}
use Rattle.std.proofs.Common.{rules}
use Rattle.call_take.proofs.take_within.Goals as goal
use Rattle.call_take.proofs.take_within.Goals.{After-decide-choice}

abbrev kept : ℕ → List ℕ → List ℕ → List Frontier
kept w s window = frontiers w window (kept_count s)

-- ---- The goals

pub decide-choice-requires-clause-room_for : goal.decide-choice-requires-clause-room_for
decide-choice-requires-clause-room_for c =
    let asked = c.requires.room_for in
    let count = c.kept_count-n.ensures in
    (rw count asked.0, rw count asked.1)

pub decide-choice-requires-clause-n_in_bounds : goal.decide-choice-requires-clause-n_in_bounds
decide-choice-requires-clause-n_in_bounds c =
    let asked = c.requires.room_for in
    let count = c.kept_count-n.ensures in
    rw count asked.0

-- What is to be known of the call that decides: its frontiers are those that the record says are kept.
decision : (c : After-decide-choice) → let a = c.args in
    c.decide-choice.result
    ≡ choice_for a.w a.«record».now (kept a.w a.«record».now a.window.now)
    (trial a.w a.«record».now a.allowed (kept a.w a.«record».now a.window.now))
decision c = rw (← c.kept_count-n.ensures) c.decide-choice.ensures.value

pub remove_event-requires-clause-i_bound : goal.remove_event-requires-clause-i_bound
remove_event-requires-clause-i_bound c =
    let a = c.args in
    let t = choice_falsified a.w a.«record».now a.allowed _ _ (sym c.in-Falsified.is ∙ decision (goal.at.remove_event-requires-clause-i_bound c).After-decide-choice) in
    t.1

pub take_event-requires-clause-room_for : goal.take_event-requires-clause-room_for
take_event-requires-clause-room_for c =
    let asked = c.requires in
    let count = c.kept_count-n.ensures in
    (rw count asked.room_for.0, rw (count, c.of-width.ensures) asked.room_for.1)

pub take_event-requires-clause-le_kept : goal.take_event-requires-clause-le_kept
take_event-requires-clause-le_kept c =
    let a = c.args in
    let t = (choice_chosen a.w a.«record».now a.allowed _ _ _ (sym c.in-Chosen.is ∙ decision (goal.at.take_event-requires-clause-le_kept c).After-decide-choice)).1 in
    (t.some, (omega (arith, t.few), rw c.of-width.ensures (omega (arith, mul-le-mul_right (frontier_length a.w) t.few))))

pub take_event-requires-clause-i_bound : goal.take_event-requires-clause-i_bound
take_event-requires-clause-i_bound c =
    let a = c.args in
    let t = (choice_chosen a.w a.«record».now a.allowed _ _ _ (sym c.in-Chosen.is ∙ decision (goal.at.take_event-requires-clause-i_bound c).After-decide-choice)).1 in
    (t.pending, search rules)

pub take_event-requires-clause-t : goal.take_event-requires-clause-t
take_event-requires-clause-t c =
    let a = c.args in
    let t = (choice_chosen a.w a.«record».now a.allowed _ _ _ (sym c.in-Chosen.is ∙ decision (goal.at.take_event-requires-clause-t c).After-decide-choice)).1 in
    rw c.of-width.ensures t.ready

pub take_event-requires-clause-kept_value : goal.take_event-requires-clause-kept_value
take_event-requires-clause-kept_value c =
    let a = c.args in
    let count = c.kept_count-n.ensures in
    let t = (choice_chosen a.w a.«record».now a.allowed _ _ _ (sym c.in-Chosen.is ∙ decision (goal.at.take_event-requires-clause-kept_value c).After-decide-choice)).1 in
    rw (count, c.of-width.ensures) t.many

pub take_event-requires-clause-n_in_bounds : goal.take_event-requires-clause-n_in_bounds
take_event-requires-clause-n_in_bounds c =
    let asked = c.requires in
    let count = c.kept_count-n.ensures in
    let long : length c.decide-choice.new.marks ≡ 1024 = search rules in
    rw (long, count) asked.room_for.0

pub take_event-requires-clause-marked : goal.take_event-requires-clause-marked
take_event-requires-clause-marked c = rw c.of-width.ensures (c.decide-choice.ensures.marked_for _ _ c.in-Chosen.is)

pub returns-in-Undecided : goal.returns-in-Undecided
unfolding decided
returns-in-Undecided c =
    let a = c.args in
    let whole = within_by a.w a.allowed a.«record».now a.window.now _ (choice_undecided a.w a.«record».now a.allowed _ _ (sym c.in-Undecided.is ∙ decision (goal.at.returns-in-Undecided c).After-decide-choice)) in
    let cleared : c.clear_all.new.s ≡ replicate (length a.scratch.now) 0 = search rules in
    record {
      reply = c.undecided_word.ensures ∙ ap (λ (o : Taken). reply_word o.answer) (sym whole);
      bytes = ap (λ (o : Taken). o.bytes) (sym whole);
      window = ap (λ (o : Taken). o.window) (sym whole);
      scratch = cleared ∙ ap (λ (n : ℕ). replicate n 0) c.requires.scratch_len ∙ ap (λ (o : Taken). o.scratch) (sym whole);
    }

pub returns-in-Falsified : goal.returns-in-Falsified
unfolding decided reply_word
returns-in-Falsified c =
    let a = c.args in
    let whole = within_by a.w a.allowed a.«record».now a.window.now _ (choice_falsified a.w a.«record».now a.allowed _ _ (sym c.in-Falsified.is ∙ decision (goal.at.returns-in-Falsified c).After-decide-choice)).0 in
    let cleared : c.clear_all-in-Falsified.new.s ≡ replicate (length a.scratch.now) 0 = search rules in
    record {
      reply = c.into.ensures ∙ ap (λ (o : Taken). reply_word o.answer) (sym whole);
      bytes = (rw c.of-width.ensures at c.remove_event.ensures) ∙ ap (λ (o : Taken). o.bytes) (sym whole);
      window = ap (λ (o : Taken). o.window) (sym whole);
      scratch = cleared ∙ ap (λ (n : ℕ). replicate n 0) c.requires.scratch_len ∙ ap (λ (o : Taken). o.scratch) (sym whole);
    }

pub returns-in-Chosen : goal.returns-in-Chosen
unfolding decided
returns-in-Chosen c =
    let a = c.args in
    let whole = within_by a.w a.allowed a.«record».now a.window.now _ (choice_chosen a.w a.«record».now a.allowed _ _ _ (sym c.in-Chosen.is ∙ decision (goal.at.returns-in-Chosen c).After-decide-choice)).0 in
    let e = c.take_event.ensures in
    let count = c.kept_count-n.ensures in
    record {
      reply = rw (whole, ← count) (rw c.of-width.ensures at e.reply);
      bytes = rw (whole, ← count) (rw c.of-width.ensures at e.bytes);
      window = rw (whole, ← count) (rw c.of-width.ensures at e.window);
      scratch = rw whole e.scratch;
    }
