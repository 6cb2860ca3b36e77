-- The counts that the event leads to are the setting's, and the table does not matter for how many frontiers are kept,
-- nor for their marks.
use native.Mathlib.Omega.{arith}
use mathlib.Core.Path.{◌≡◌, refl, sym, ap, ◌∙◌}
use Prim.Native.Nat.{ℕ, ◌+◌, ◌<◌}
use mathlib.Core.Bool.{Bool, true, false, true≢false}
use mathlib.Core.List.{List}
use lib.Dec.{T, eqb→eq}
use Rattle.clocks.specs.declared.Event.{Event}
use Rattle.clocks.specs.Event.{Cut, involved, count, apply}
use Rattle.clocks.specs.Tested.{ready_at, ready}
use Rattle.clocks.specs.stored.BoundedLaws.{all_e}
use Rattle.clocks.specs.Counts.{at, list_of}
use Rattle.records.specs.Record.{line_total, table_place, taken_counts, ready_in}
use Rattle.trial.specs.SettingLaws.{setting_lent}
use Rattle.trial.proofs.kept_with.Goals as goal
use Rattle.trial.proofs.kept_with.Goals.{Start}

-- An event that is ready somewhere has a count above 0 at each of its processes.
ready-counted : (n : ℕ) (e : Event) (S : Cut) → T (ready n e S) → (p : ℕ) → p < n → involved e p ≡ true → 0 < count e p
unfolding ready
ready-counted n e S t p l =
    above (involved e p) (all_e n (λ q. ready_at (involved e q) (count e q) (S q)) t p l)
  where
    above : (b : Bool) → T (ready_at b (count e p) (S p)) → b ≡ true → 0 < count e p
    above true next h = omega (arith, eqb→eq (count e p) (S p + 1) next)
    above false next h = absurd (true≢false (sym h))

-- ---- The goals

pub apply-reached-requires : goal.apply-reached-requires
unfolding ready_in
apply-reached-requires c = rw (c.taken_counts.ensures, c.of.ensures) c.requires.t

pub count_after-requires-clause-counted : goal.count_after-requires-clause-counted
unfolding ready_in
count_after-requires-clause-counted c = ready-counted 8 c.args.e _ c.requires.t

-- The event's mask is a byte.
small : (c : Start) → c.args.e.mask < 256
small c = omega arith

-- The step's parameters make the record's setting, whatever the table.
pub returns-clause-value : goal.returns-clause-value
returns-clause-value c =
    let a = c.args in
    let s = a.«record».now in
    let counts : c.apply-reached.result ≡ list_of 8 (apply a.e (at (taken_counts a.w s))) =
    c.apply-reached.ensures ∙ ap (λ (l : List ℕ). list_of 8 (apply a.e (at l))) (rw (c.taken_counts.ensures, c.of.ensures)) in
    let setting = setting_lent a.w s a.e _ _ (table_place a.w) (line_total s) _ (small (goal.at.returns-clause-value c).Start)
    c.process_count-k.ensures.0 (c.from-closed.ensures ∙ c.closed_mask.ensures.0) refl refl counts in
    let kept = c.count_after.ensures in
    rw setting (kept.by_index _ _)

pub returns-clause-marked : goal.returns-clause-marked
returns-clause-marked c =
    let a = c.args in
    let s = a.«record».now in
    let counts : c.apply-reached.result ≡ list_of 8 (apply a.e (at (taken_counts a.w s))) =
    c.apply-reached.ensures ∙ ap (λ (l : List ℕ). list_of 8 (apply a.e (at l))) (rw (c.taken_counts.ensures, c.of.ensures)) in
    let setting = setting_lent a.w s a.e _ _ (table_place a.w) (line_total s) _ (small (goal.at.returns-clause-marked c).Start)
    c.process_count-k.ensures.0 (c.from-closed.ensures ∙ c.closed_mask.ensures.0) refl refl counts in
    let kept = c.count_after.ensures in
    rw setting (kept.by_index_2 _ _)
