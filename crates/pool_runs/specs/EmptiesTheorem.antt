-- The pending events of a watch that shares come to an end, as those of any written watch do.
use Rattle.std.specs.Prelude.{ℕ, ◌<◌, ◌≡◌, List}
use Rattle.clocks.specs.Counts.{at}
use Rattle.rules.specs.Formula.{Formula}
use Rattle.demands.specs.Run.{run}
use Rattle.demands.specs.statements.Empties.{unrefused, Emptied, Empties}
use Rattle.demands.specs.lists.Unrefused.{unrefused-all}
use Rattle.demands.specs.lists.NoneAccepted.{no_offers-none}
use Rattle.demands.specs.forms.EveryWatch.{pending_comes_to_an_end}
use Rattle.pool_runs.specs.Runs.{Member, has, Pooled, Numbered}
use Rattle.pool_runs.specs.Turns.{own_turns}
use Rattle.pool_runs.specs.statements.Empties.{own_take_answers, MemberEmpties, EveryMemberEmpties}
use Rattle.pool_runs.specs.Running.{Running}
use Rattle.pool_runs.specs.WithinTheorem.{running}
use Rattle.pool_runs.specs.OwnCallLaws.{Projected, projected}

module _ (w : ℕ) (pos : 0 < w) (shares : List ℕ) (G : Pooled) (R : Running w shares G) (i : ℕ) (m : Member)
    (here : G.places i ≡ has m) (f : Formula) (E : Empties w m.processes f (at m.labels) m.watch) where
  -- its own calls are those of a written watch
  emptied : (cs : List Numbered) (P : Projected w pos shares i m G cs)
      → (run w P.own m.watch).accepted ≡ m.watch.accepted
      → Emptied m.processes f (at m.labels) m.watch (run w P.own m.watch)
      (unrefused (own_take_answers (own_turns w i cs G)))
  emptied cs P none = rw (← P.answers_are) (E.none_accepted P.own P.passed none)

  member_empties : MemberEmpties w m.processes f (at m.labels) i m G
  member_empties = record {
    as_asked = λ cs p opens offers none.
        let P = projected w pos shares i cs p G R m here opens in (
          run w P.own m.watch,
          P.place_is,
          rw (← unrefused-all (own_take_answers (own_turns w i cs G)) none)
              (emptied cs P (no_offers-none w P.own m.watch (P.no_offers offers))),
        );
    none_accepted = λ cs p opens.
        let P = projected w pos shares i cs p G R m here opens in
        (run w P.own m.watch, P.place_is, emptied cs P);
  }

-- ---- Theorem

pub every_member_empties : EveryMemberEmpties
every_member_empties w pos shares pool set cs p i m here =
    let R = running w pos shares pool set cs p in
    let written = (R.members i m here).1 in
    let r = pending_comes_to_an_end m.text m.processes m.labels written.0 w m.watch written.1 in
    (r.0, r.1, r.2, r.3, member_empties w pos shares _ R i m here r.0 r.4)
