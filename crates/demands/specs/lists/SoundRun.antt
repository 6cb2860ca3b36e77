-- Every list of calls after an accepted open: the invariant, the balance and the reports, together.
use Rattle.std.specs.Prelude.{ℕ, ◌<◌, ◌≡◌, refl, List, [], ◌∷◌, length, replicate}
use Rattle.std.proofs.Common.{arith, sym, ap, ◌∙◌}
use mathlib.Core.List.Memᴰ
use Rattle.rules.specs.Line.{lines_at}
use Rattle.rules.specs.Formula.{Formula}
use Rattle.clocks.specs.Event.{Cut}
use Rattle.clocks.specs.Counts.{at}
use Rattle.window.specs.Start.{start_frontier}
use Rattle.rules.specs.Reader.{read_rule, formed}
use Rattle.demands.specs.lists.Reports.{Reporting, after_reporting, open_reporting}
use Rattle.demands.specs.Watching.{Rule}
use Rattle.call_open.specs.Open.{Opened, open_table}
use Rattle.answers.specs.Answer.{turned_back, state}
use Rattle.demands.specs.calls.OpenLaws.{OpenCase, open_case, opened_rule, opened_right, turns_back, opens, opened_start}
use Rattle.demands.specs.Ledger.{occurrences}
use Rattle.demands.specs.Run.{Call, Passed, Watch, after, run, opened}
use Rattle.demands.specs.lists.LedgerBalance.{WatchBalanced, after_balanced}
use Rattle.demands.specs.calls.AfterCall.{WatchRight, after_right}
use Rattle.rules.specs.reading.ReaderAccepts.{reader_accepts}
use Rattle.demands.specs.EveryList.{Accepts, EightBytes, AllPassed, at_end, AfterEveryList}
use Rattle.demands.specs.lists.AnswerCounts.{Said, after_said, open_said}

-- What is true of it.
pub record Sound (w k : ℕ) (f : Formula) (start : Cut) (Z : Watch) : Type 0 where
  pub rule : Rule w k (lines_at 0 f) start
  pub right : WatchRight w k (lines_at 0 f) start Z
  pub balanced : WatchBalanced Z
  pub said : Said Z.ledger Z.accepted Z.answers
  pub reporting : Reporting w k f start rule Z.ledger Z.answers

-- After one more call, and from any sound watch on.
pub after_sound : (w k : ℕ) (f : Formula) (start : Cut) (W : Watch) (c : Call) → Passed w c → Sound w k f start W
    → Sound w k f start (after w c W)
after_sound w k f start W c p S = record {
  rule = S.rule;
  right = after_right w k (lines_at 0 f) start S.rule W S.right c p;
  balanced = after_balanced w k (lines_at 0 f) start S.rule W S.right S.balanced c;
  said = after_said w k (lines_at 0 f) start S.rule W S.right S.said c p;
  reporting = after_reporting w k f start S.rule W S.right S.reporting c p;
}

pub run_sound : (w k : ℕ) (f : Formula) (start : Cut) (cs : List Call) (W : Watch) → AllPassed w cs
    → Sound w k f start W
    → Sound w k f start (run w cs W)
unfolding run
run_sound w k f start [] W p S = S
run_sound w k f start (c ∷ cs) W p S =
    run_sound w k f start cs (after w c W) (λ d m. p d (Memᴰ.tail m))
    (after_sound w k f start W c (p c (Memᴰ.head refl)) S)

-- By the formula that the reader reads of the text that was opened (ReaderAccepts: reader-accepts).
abbrev pub SoundAsRead : ℕ → List ℕ → ℕ → List ℕ → Watch → Type 0
SoundAsRead w text k labels Z =
    (f : Formula) × (i : ℕ) × (read_rule text k ≡ formed i f) × Sound w k f (at labels) Z

-- ---- Theorem
pub sound_run : (w : ℕ) → 0 < w → (text : List ℕ) (k : ℕ) (labels : List ℕ) → EightBytes labels → (s window : List ℕ)
    → Accepts w text k labels s window
    → (cs : List Call) → AllPassed w cs → SoundAsRead w text k labels (at_end w text k labels s window cs)
unfolding open_table occurrences
sound_run w pos text k labels eight s window a cs p = go (open_case w text k labels s window)
  where
    go : OpenCase w text k labels s window → SoundAsRead w text k labels (at_end w text k labels s window cs)
    go (turns_back n i q) =
        let x : turned_back n i ≡ state a.0 a.1 a.2 = sym (ap (λ (o : Opened). o.answer) q) ∙ a.3 in
        let z : ◌≡◌ {A = ℕ} 0 1 = cc in absurd (omega arith)
    go (opens f i h6 h5 h9 h q) =
        let R : Rule w k (lines_at 0 f) (at labels) =
        opened_rule w text k labels window pos eight.0 eight.1 f i h6 h5 h in
        let X : WatchRight w k (lines_at 0 f) (at labels) (opened (open_table w (lines_at 0 f) k labels (length window))) =
        opened_right w text k labels window pos eight.0 eight.1 f i h6 h5 h in (
          f,
          i,
          h,
          rw q (run_sound w k f (at labels) cs (opened (open_table w (lines_at 0 f) k labels (length window))) p
              (record {
                rule = R;
                right = X;
                balanced = record { each = λ e. refl; total = refl };
                said = open_said (length (lines_at 0 f)) (replicate 8 0) (start_frontier 8 labels (lines_at 0 f) ∷ []);
                reporting =
                    open_reporting w k f (at labels) R (start_frontier 8 labels (lines_at 0 f) ∷ [])
                    (opened_start w text k labels window pos eight.0 eight.1 f i h6 h5 h);
              })),
        )

-- What is true of every sound watch is true at the end of every list.
pub every-list : (P : ℕ → ℕ → Formula → Cut → Watch → Type 0)
    → ((w k : ℕ) (f : Formula) (start : Cut) (Z : Watch) → Sound w k f start Z → P w k f start Z) → AfterEveryList P
every-list P of w pos text k labels eight s window a cs p =
    let x = sound_run w pos text k labels eight s window a cs p in (
      x.0,
      x.1,
      x.2,
      ((reader_accepts text k x.1 x.0).0 x.2).0,
      of w k x.0 (at labels) (at_end w text k labels s window cs) x.3,
    )
