-- Every watch that calls and moves alone wrote is sound; and what its next move answers.
use Rattle.std.specs.Prelude.{ℕ, ◌<◌, ◌≡◌, refl, Bool, true, false, List, [], ◌∷◌, ◌⊎◌, length}
use Rattle.std.proofs.Common.{arith, sym, ◌∙◌, true≢false, inl, inr}
use mathlib.Core.List.Memᴰ
use Rattle.pactl.specs.declared.Line.{Line}
use Rattle.clocks.specs.Event.{Cut}
use Rattle.clocks.specs.Counts.{at}
use Rattle.rules.specs.Line.{lines_at}
use Rattle.rules.specs.Formula.{Formula}
use Rattle.rules.specs.reading.ReaderAccepts.{reader_accepts}
use Rattle.refusals.specs.Refusals.{room_of, bad_state, bad_window_length}
use Rattle.call_move.specs.Move.{bad_move_lengths, overflows, move_call}
use Rattle.call_move.specs.MoveCases.{passes, number_6, number_43, number_0}
use Rattle.call_move.specs.LengthLaws.{right_lengths}
use Rattle.demands.specs.Run.{Call, Watch, after, run}
use Rattle.demands.specs.EveryList.{EightBytes, AllPassed}
use Rattle.demands.specs.Written.{Written, moved_to, opens, calls, moves, OfEveryWatch}
use Rattle.demands.specs.calls.MoveLaws.{rule_moved, moved_right, kept_within, no_overflow, all_fit, fit_all, fit_where, record_bytes_lem, window_bytes_lem}
use Rattle.call_move.specs.MoveTheorem.{move_exact}
use Rattle.demands.specs.calls.WatchingLaws.{never_34}
use Rattle.demands.specs.lists.SoundRun.{Sound, SoundAsRead, after_sound, sound_run}
use Rattle.demands.specs.statements.Moves.{next_move, RightMove, CountsFit, MoveAnswers}

-- ---- Soundness

module _ (v w k : ℕ) (f : Formula) (start : Cut) (pos : 0 < w) (W : Watch) (S : Sound v k f start W) (t target : List ℕ)
    (q : (move_call v w W.bytes W.window t target).number ≡ 0) where
  pub move_sound : Sound w k f start (moved_to (move_call v w W.bytes W.window t target) W)
  move_sound =
      let p = passes v w W.bytes W.window t target q in
      rw p.moves (record {
        rule = rule_moved v w k (lines_at 0 f) start pos S.rule;
        right =
            moved_right v w k (lines_at 0 f) start S.rule W.ledger W.bytes W.window S.right t target p;
        balanced = S.balanced;
        said = S.said;
        reporting = record { truthful = S.reporting.truthful; quiet = S.reporting.quiet };
      })

-- The formula is the one that the reader reads.
pub written_sound : (text : List ℕ) (k : ℕ) (labels : List ℕ) → EightBytes labels → (w : ℕ) (Z : Watch)
    → Written text k labels w Z → SoundAsRead w text k labels Z
unfolding run
written_sound text k labels eight _ _ (opens w pos s window a) =
    sound_run w pos text k labels eight s window a [] (λ c m. absurd (Memᴰ.not-nil m))
written_sound text k labels eight _ _ (calls w W x c p) =
    let r = written_sound text k labels eight w W x in
    (r.0, r.1, r.2, after_sound w k r.0 (at labels) W c p r.3)
written_sound text k labels eight _ _ (moves v w pos W x t target q) =
    let r = written_sound text k labels eight v W x in
    (r.0, r.1, r.2, move_sound v w k r.0 (at labels) pos W r.3 t target q)

-- What is true of every sound watch is true of every one that was written.
pub every_watch : (P : ℕ → ℕ → Formula → Cut → Watch → Type 0)
    → ((w k : ℕ) (f : Formula) (start : Cut) (Z : Watch) → Sound w k f start Z → P w k f start Z) → OfEveryWatch P
every_watch P of text k labels eight w Z x =
    let r = written_sound text k labels eight w Z x in
    (r.0, r.1, r.2, ((reader_accepts text k r.1 r.0).0 r.2).0, of w k r.0 (at labels) Z r.3)

-- ---- Lists of calls

pub run-written : (text : List ℕ) (k : ℕ) (labels : List ℕ) (w : ℕ) (cs : List Call) → AllPassed w cs → (W : Watch)
    → Written text k labels w W → Written text k labels w (run w cs W)
unfolding run
run-written text k labels w [] p W x = x
run-written text k labels w (c ∷ cs) p W x =
    run-written text k labels w cs (λ d m. p d (Memᴰ.tail m)) (after w c W)
    (calls w W x c (p c (Memᴰ.head refl)))

-- ---- The next move

module _ (v w k : ℕ) (f : Formula) (start : Cut) (Z : Watch) (S : Sound v k f start Z) (t target : List ℕ) where
  abbrev table : List Line
  table = lines_at 0 f

  abbrev answer : ℕ
  answer = (next_move v w Z t target).number

  right_window : RightMove v w Z t target → bad_window_length v (length Z.window) ≡ false
  right_window r = (right_lengths v w (length Z.bytes) (length Z.window) (length t) (length target) r).window

  good : RightMove v w Z t target → bad_state v (room_of v (length Z.window)) Z.bytes ≡ false
  good r =
      never_34 v k table start S.rule Z.ledger Z.bytes Z.window S.right (room_of v (length Z.window))
      (kept_within v w k table start S.rule Z.ledger Z.bytes Z.window S.right (right_window r))

  -- what the number is, by the lengths and the counts
  data Case : Type 0 where
    short : (RightMove v w Z t target → ⊥) → answer ≡ 6 → Case
    wide : RightMove v w Z t target → (CountsFit w Z → ⊥) → answer ≡ 43 → Case
    fine : RightMove v w Z t target → CountsFit w Z → answer ≡ 0 → Case

  the_case : Case
  the_case =
      go (bad_move_lengths v w (length Z.bytes) (length Z.window) (length t) (length target)) refl
      (overflows v w Z.bytes Z.window) refl
    where
      go : (a : Bool) → bad_move_lengths v w (length Z.bytes) (length Z.window) (length t) (length target) ≡ a
          → (b : Bool) → overflows v w Z.bytes Z.window ≡ b → Case
      go true h b i = short (λ r. true≢false (sym h ∙ r)) (number_6 v w Z.bytes Z.window t target h)
      go false h true i =
          wide h
          (λ c. true≢false (sym i
          ∙ no_overflow v w k table start S.rule Z.ledger Z.bytes Z.window S.right (right_window h)
          (all_fit v w k table start S.rule Z.ledger Z.bytes Z.window S.right c.0 c.1)))
          (number_43 v w Z.bytes Z.window t target h (good h) i)
      go false h false i =
          fine h
          (fit_all v w k table start S.rule Z.ledger Z.bytes Z.window S.right
          (fit_where v w k table start S.rule Z.ledger Z.bytes Z.window S.right i))
          (number_0 v w Z.bytes Z.window t target h (good h) i)

  pub move_answers : MoveAnswers v w Z t target
  move_answers = record {
    wrong_lengths = (lengths_there the_case, lengths_back the_case);
    too_large = (large_there the_case, large_back the_case);
    accepted = (accepted-there the_case, accepted_back the_case);
    no_other = one_of the_case;
    back = λ q u away. (move_exact v w Z.bytes Z.window t target
        (record_bytes_lem v w k table start S.rule Z.ledger Z.bytes Z.window S.right)
        (window_bytes_lem v w k table start S.rule Z.ledger Z.bytes Z.window S.right) q).back u away;
  }
    where
      lengths_there : Case → answer ≡ 6 → RightMove v w Z t target → ⊥
      lengths_there (short n a) q = n
      lengths_there (wide r n a) q = absurd (omega arith)
      lengths_there (fine r c a) q = absurd (omega arith)

      lengths_back : Case → (RightMove v w Z t target → ⊥) → answer ≡ 6
      lengths_back (short n a) q = a
      lengths_back (wide r n a) q = absurd (q r)
      lengths_back (fine r c a) q = absurd (q r)

      large_there : Case → answer ≡ 43 → RightMove v w Z t target × (CountsFit w Z → ⊥)
      large_there (short n a) q = absurd (omega arith)
      large_there (wide r n a) q = (r, n)
      large_there (fine r c a) q = absurd (omega arith)

      large_back : Case → RightMove v w Z t target × (CountsFit w Z → ⊥) → answer ≡ 43
      large_back (short n a) q = absurd (n q.0)
      large_back (wide r n a) q = a
      large_back (fine r c a) q = absurd (q.1 c)

      accepted-there : Case → answer ≡ 0 → RightMove v w Z t target × CountsFit w Z
      accepted-there (short n a) q = absurd (omega arith)
      accepted-there (wide r n a) q = absurd (omega arith)
      accepted-there (fine r c a) q = (r, c)

      accepted_back : Case → RightMove v w Z t target × CountsFit w Z → answer ≡ 0
      accepted_back (short n a) q = absurd (n q.0)
      accepted_back (wide r n a) q = absurd (n q.1)
      accepted_back (fine r c a) q = a

      one_of : Case → (answer ≡ 6) ⊎ ((answer ≡ 43) ⊎ (answer ≡ 0))
      one_of (short n a) = inl a
      one_of (wide r n a) = inr (inl a)
      one_of (fine r c a) = inr (inr a)
