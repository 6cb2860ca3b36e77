use Rattle.std.proofs.Common.{◌≡◌, sym, arith, rules}
use Rattle.clocks.specs.Event.{one}
use Rattle.clocks.specs.Counts.{at}
use Rattle.clocks.specs.Tested.{ready}
use Rattle.frontiers.specs.Bytes.{frontier_at}
use Rattle.window.specs.Step.{stays, enabled_at}
use Rattle.window.specs.StepCode.{setting_with, stays_with}
use Rattle.window.proofs.SettingSteps.{kept_after-none, kept_after_more}
use Rattle.window.specs.Prepared.{Counted}
use Rattle.window.specs.Marks.{marked_none, marked_more}
use Rattle.window.proofs.kept.count_after.Goals as goal

pub loop-i-init : goal.loop-i-init
loop-i-init c =
    let a = c.args in (
      search rules,
      λ e table lines m p q. let s = setting_with a.k a.closed table lines e a.reached in
          (sym (kept_after-none s a.w a.window.now), marked_none s a.w a.window.now a.marks.now),
    )

pub loop-i-preserved : goal.loop-i-preserved
unfolding stays enabled_at
loop-i-preserved c =
    let a = c.args in
    let asked = c.requires in
    let l = c.loop-i in
    let f = frontier_at a.w a.window.now l.i in
    let here : c.from-here.result ≡ one (stays_with a.k a.closed a.reached f.counts) =
    rw (c.from-here.ensures, c.stays.ensures a.k a.closed asked.k_bound c.open_ones-opens.ensures, c.counts_at-counts.ensures, c.of-width.ensures) in (
      search rules,
      λ e table lines m p q. let there : c.from-there.result ≡ one (ready 8 e (at f.counts)) =
          rw (c.from-there.ensures, c.within.ensures e m p q, c.counts_at-counts.ensures, c.of-width.ensures) in
          let old = l.invariant.1 e table lines m p q in (
            omega (arith, here, there, old.0, kept_after_more a.k a.closed table lines e a.reached a.w a.window.now l.i),
            marked_more (setting_with a.k a.closed table lines e a.reached) a.w a.window.now l.i l.marks _ (omega arith) (rw (here, there)) old.1,
          ),
    )

pub returns-clause-by_index_2 : goal.returns-clause-by_index_2
returns-clause-by_index_2 c =
    let a = c.args in
    let l = c.loop-i in
    let e : l.i ≡ a.n = omega arith in
    let low = c.lowest_counts-low.ensures in
    let span = c.spans-span.ensures in
    let counted : Counted a.e = c.requires.counted in
    λ table lines. rw (← e) (l.invariant.1 a.e table lines counted low span).1
