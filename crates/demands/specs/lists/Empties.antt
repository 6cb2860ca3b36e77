-- The pending events come to an end: call by call one leaves or none does; and once nothing is ready nothing becomes
-- ready, since no event is accepted and none is taken.
use Rattle.std.specs.Prelude.{ℕ, suc, ◌≡◌, replicate}
use Rattle.std.proofs.Common.{arith}
use Rattle.std.proofs.Math.Path.{refl}
use mathlib.Core.List.Memᴰ
use mathlib.Core.List.{List, [], ◌∷◌}
use Rattle.clocks.specs.Event.{Cut}
use Rattle.clocks.specs.History.{taken}
use Rattle.rules.specs.Formula.{Formula}
use Rattle.rules.specs.Line.{lines_at}
use Rattle.records.specs.Record.{pending_count}
use Rattle.answers.specs.Answer.{Answer, nothing_ready}
use Rattle.demands.specs.Ledger.{Settled}
use Rattle.demands.specs.Run.{Call, Watch, after, run}
use Rattle.demands.specs.EveryList.{AllPassed}
use Rattle.demands.specs.calls.WatchingLaws.{says_many, says_pending, says_taken}
use Rattle.demands.specs.statements.Empties.{take_answers, unrefused, answered_for, Emptied, Empties}
use Rattle.demands.specs.lists.SoundRun.{Sound, after_sound, run_sound}
use Rattle.demands.specs.lists.Leaves.{SameEvents, no_change, settled_same, Step, idle, silent, leaves, step}
use Rattle.demands.specs.lists.Unrefused.{unrefused-all, answers_next, drop-first}
use Rattle.demands.specs.lists.NoneAccepted.{AcceptsNone, none_between, no_offers-none}
use Rattle.demands.specs.lists.Waiting.{waits_for, ready_exactly}
use Rattle.demands.specs.lists.Gone.{Gone, both, gone_none, gone_same, gone_left}

module _ (w k : ℕ) (f : Formula) (start : Cut) where
  -- nothing is ready, and so it stays
  abbrev StaysQuiet : (cs : List Call) (Z : Watch) → Type 0
  StaysQuiet cs Z =
      (n : ℕ) × (unrefused (take_answers w cs Z) ≡ replicate n nothing_ready)
      × SameEvents Z.ledger (run w cs Z).ledger

  quiet_next : (c : Call) (cs : List Call) (Z : Watch) → Settled Z.ledger → Step w k f start c Z
      → (SameEvents Z.ledger (after w c Z).ledger → StaysQuiet cs (after w c Z)) → StaysQuiet (c ∷ cs) Z
  unfolding run
  quiet_next c cs Z settled (idle s q) rest =
      let r = rest s in
      (r.0, answers_next w c cs Z [] _ q r.1, both Z.ledger (after w c Z).ledger _ s r.2)
  quiet_next c cs Z settled (silent s q u) rest =
      let r = rest s in
      let same = both Z.ledger (after w c Z).ledger _ s r.2 in
      (suc r.0, answers_next w c cs Z (nothing_ready ∷ []) _ q r.1, same)
  quiet_next c cs Z settled (leaves x l q u) rest = absurd (u settled)

  settled_quiet : (cs : List Call) (Z : Watch) → Sound w k f start Z → AllPassed w cs → AcceptsNone w cs Z
      → Settled Z.ledger → StaysQuiet cs Z
  unfolding take_answers unrefused run
  settled_quiet [] Z S p none settled = (0, refl, no_change Z.ledger Z.ledger refl)
  settled_quiet (c ∷ cs) Z S p none settled =
      let here = p c (Memᴰ.head refl) in
      quiet_next c cs Z settled (step w k f start Z S c here none.0) (λ s.
      settled_quiet cs (after w c Z) (after_sound w k f start Z c here S) (λ d m. p d (Memᴰ.tail m)) none.1
      (settled_same Z.ledger (after w c Z).ledger s settled))

  -- one leaves after the other, and then nothing is ready
  abbrev GoneAfter : (cs : List Call) (Z : Watch) → Type 0
  GoneAfter cs Z = Gone k f start Z.ledger (run w cs Z).ledger (unrefused (take_answers w cs Z))

  gone_next : (c : Call) (cs : List Call) (Z : Watch) → Step w k f start c Z → GoneAfter cs (after w c Z)
      → (Settled Z.ledger → StaysQuiet (c ∷ cs) Z) → GoneAfter (c ∷ cs) Z
  unfolding run
  gone_next c cs Z (idle s q) rest quiet =
      rw (answers_next w c cs Z [] _ q refl) (gone_same k f start Z.ledger (after w c Z).ledger _ _ s rest)
  gone_next c cs Z (silent s q settled) rest quiet =
      let r = quiet settled in
      gone_none k f start Z.ledger _ _ r.0 r.1 r.2 (λ some. settled_same Z.ledger _ r.2 settled)
  gone_next c cs Z (leaves x l q u) rest quiet =
      rw (answers_next w c cs Z (answered_for x ∷ []) _ q refl)
      (gone_left k f start x Z.ledger (after w c Z).ledger _ _ l rest)

  gone_after : (cs : List Call) (Z : Watch) → Sound w k f start Z → AllPassed w cs → AcceptsNone w cs Z
      → GoneAfter cs Z
  unfolding take_answers unrefused run
  gone_after [] Z S p none =
      gone_none k f start Z.ledger Z.ledger [] 0 refl (no_change Z.ledger Z.ledger refl) (λ some. absurd (omega arith))
  gone_after (c ∷ cs) Z S p none =
      let here = p c (Memᴰ.head refl) in
      gone_next c cs Z (step w k f start Z S c here none.0)
      (gone_after cs (after w c Z) (after_sound w k f start Z c here S) (λ d m. p d (Memᴰ.tail m)) none.1)
      (settled_quiet (c ∷ cs) Z S p none)

  -- ---- in a watch's own words
  emptied : (Z Y : Watch) (answers : List Answer) → Sound w k f start Z → Sound w k f start Y
      → Gone k f start Z.ledger Y.ledger answers → Emptied k f start Z Y answers
  emptied Z Y answers S T g =
      let before = says_many w k (lines_at 0 f) start S.rule Z.ledger Z.bytes Z.window S.right in
      let now = says_many w k (lines_at 0 f) start T.rule Y.ledger Y.bytes Y.window T.right in
      record {
        left = g.left;
        quiet = g.quiet;
        answers_are = g.answers_are;
        in_turn = g.in_turn;
        in_number = omega (arith, g.fewer, before, now);
        from_then = rw g.answers_are
            (drop-first g.left g.quiet (pending_count Z.bytes) (omega (arith, g.fewer, before)));
        taken_since = g.taken_since;
        false_since = g.false_since;
        each = g.each;
        none_ready = g.none_ready;
        waits = λ some e m. waits_for k e (taken Y.ledger.history) (T.right.right.formed e m)
            (T.right.right.untaken e m) (g.none_ready some e m);
      }

  pub empties_of : (Z : Watch) → Sound w k f start Z → Empties w k f start Z
  empties_of Z S = record {
    as_asked = λ cs p offers-none none.
        rw (← unrefused-all (take_answers w cs Z) none) (all cs p (no_offers-none w cs Z offers-none));
    none_accepted = all;
    pending_read = says_pending w k (lines_at 0 f) start S.rule Z.ledger Z.bytes Z.window S.right;
    taken_read = says_taken w k (lines_at 0 f) start S.rule Z.ledger Z.bytes Z.window S.right;
    ready_exactly = λ e m. ready_exactly k e (taken Z.ledger.history) (S.right.right.formed e m)
        (S.right.right.untaken e m);
  }
    where
      all : (cs : List Call) → AllPassed w cs → (run w cs Z).accepted ≡ Z.accepted
          → Emptied k f start Z (run w cs Z) (unrefused (take_answers w cs Z))
      all cs p q =
          emptied Z (run w cs Z) _ S (run_sound w k f start cs Z p S) (gone_after cs Z S p (none_between w cs Z q))
