-- The same calls on watches of both forms (02 [6]): accepted opens make twins of them, every pair of calls leaves
-- twins, and of twins the one is the other, moved.
use Rattle.std.specs.Prelude.{ℕ, ◌<◌, ◌≡◌, refl, List, [], ◌∷◌, length, replicate}
use Rattle.std.proofs.Common.{arith, sym, ap, subst, ◌∙◌}
use mathlib.Core.List.Memᴰ
use Rattle.clocks.specs.Event.{Cut}
use Rattle.clocks.specs.Counts.{at}
use Rattle.rules.specs.Formula.{Formula}
use Rattle.rules.specs.Line.{lines_at}
use Rattle.rules.specs.Reader.{read_rule, formed}
use Rattle.window.specs.Start.{start_frontier}
use Rattle.refusals.specs.Refusals.{room_of}
use Rattle.answers.specs.Answer.{Answer, turned_back, state, state_of}
use Rattle.call_open.specs.Open.{Opened, open_table, open_call}
use Rattle.call_move.specs.Move.{Moved}
use Rattle.call_move.specs.LengthLaws.{right_lengths}
use Rattle.call_move.specs.MoveCases.{passes, window_written}
use Rattle.demands.specs.Run.{Call, Watch, after, run, opened}
use Rattle.demands.specs.EveryList.{Accepts, EightBytes, AllPassed}
use Rattle.demands.specs.calls.OpenLaws.{OpenCase, open_case, turns_back, opens, opened_long}
use Rattle.demands.specs.Written.{moved_to}
use Rattle.demands.specs.statements.Moves.{next_move}
use Rattle.demands.specs.statements.BothForms.{SameCalls, BothFormsAlike, MovedGoesOn}
use Rattle.demands.specs.lists.SoundRun.{Sound, sound_run}
use Rattle.demands.specs.forms.Moves.{move_sound, written_sound}
use Rattle.demands.specs.forms.Twins.{Twins, twins_moved}
use Rattle.demands.specs.forms.TwinCalls.{after_same}

-- ---- Lists of calls

run-same : (v w k : ℕ) (f : Formula) (start : Cut) (cs ds : List Call) → AllPassed v cs → AllPassed w ds
    → SameCalls v w cs ds → (Y Z : Watch) → Twins v w k f start Y Z → Twins v w k f start (run v cs Y) (run w ds Z)
unfolding run
run-same v w k f start [] ds p q s Y Z t = subst (λ (es : List Call). Twins v w k f start Y (run w es Z)) (sym s) t
run-same v w k f start (c ∷ cs) ds p q (d, rest, e, one, others) Y Z t =
    let q' : AllPassed w (d ∷ rest) = subst (AllPassed w) e q in
    subst (λ (es : List Call). Twins v w k f start (run v cs (after v c Y)) (run w es Z)) (sym e)
    (run-same v w k f start cs rest (λ b m. p b (Memᴰ.tail m)) (λ b m. q' b (Memᴰ.tail m)) others
    (after v c Y) (after w d Z)
    (after_same v w k f start Y Z t c d one (p c (Memᴰ.head refl)) (q' d (Memᴰ.head refl))))

-- ---- Open

-- What an accepted open leaves, by the formula that the reader reads.
record OpenedAs (w : ℕ) (text : List ℕ) (k : ℕ) (labels s window : List ℕ) (f : Formula) : Type 0 where
  sound : Sound w k f (at labels) (opened (open_call w text k labels s window))
  answers : (open_call w text k labels s window).answer
      ≡ state_of (length (lines_at 0 f)) (replicate 8 0) (start_frontier 8 labels (lines_at 0 f) ∷ [])
  long : length (open_call w text k labels s window).window ≡ length window

opened_as : (w : ℕ) → 0 < w → (text : List ℕ) (k : ℕ) (labels : List ℕ) → EightBytes labels → (s window : List ℕ)
    → Accepts w text k labels s window → (f : Formula) (i : ℕ) → read_rule text k ≡ formed i f
    → OpenedAs w text k labels s window f
unfolding run open_table
opened_as w pos text k labels eight s window a f i r = go (open_case w text k labels s window)
  where
    go : OpenCase w text k labels s window → OpenedAs w text k labels s window f
    go (turns_back n j q) =
        let x : turned_back n j ≡ state a.0 a.1 a.2 = sym (ap (λ (o : Opened). o.answer) q) ∙ a.3 in
        let z : ◌≡◌ {A = ℕ} 0 1 = cc in absurd (omega arith)
    go (opens g j h6 h5 h9 h q) =
        let x = sound_run w pos text k labels eight s window a [] (λ c m. absurd (Memᴰ.not-nil m)) in
        let b : formed x.1 x.0 ≡ formed i f = sym x.2 ∙ r in
        let c : formed j g ≡ formed i f = sym h ∙ r in
        let e : x.0 ≡ f = cc in
        let d : g ≡ f = cc in
        record {
          sound =
              subst (λ (p : Formula). Sound w k p (at labels) (opened (open_call w text k labels s window))) e x.3;
          answers =
              ap (λ (o : Opened). o.answer) q
              ∙ ap (λ (p : Formula).
              state_of (length (lines_at 0 p)) (replicate 8 0) (start_frontier 8 labels (lines_at 0 p) ∷ [])) d;
          long =
              ap (λ (o : Opened). length o.window) q
              ∙ opened_long w text k labels window pos eight.0 eight.1 g j h6 h5 h;
        }

-- ---- Theorems

pub both_forms_alike : BothFormsAlike
both_forms_alike v w pos pos' text k labels eight s window s' window' room l l' a a' cs ds p q same =
    let x = sound_run v pos text k labels eight s window a [] (λ c m. absurd (Memᴰ.not-nil m)) in
    let y = opened_as v pos text k labels eight s window a x.0 x.1 x.2 in
    let z = opened_as w pos' text k labels eight s' window' a' x.0 x.1 x.2 in
    let Y : Watch = opened (open_call v text k labels s window) in
    let Z : Watch = opened (open_call w text k labels s' window') in
    let t : Twins v w k x.0 (at labels) Y Z = record {
      first = y.sound;
      second = z.sound;
      same_answers = ap (λ (b : Answer). b ∷ []) (y.answers ∙ sym z.answers);
      same_ledger = refl;
      same_accepted = refl;
      room = room;
      long = y.long ∙ l;
      other_long = z.long ∙ l';
    } in
    twins_moved v w k x.0 (at labels) (run v cs Y) (run w ds Z)
    (run-same v w k x.0 (at labels) cs ds p q same Y Z t)

pub moved_goes_on : MovedGoesOn
moved_goes_on v w pos text k labels eight Y y t target q cs ds p r same =
    let x = written_sound text k labels eight v Y y in
    let moves = passes v w Y.bytes Y.window t target q in
    let Z : Watch = moved_to (next_move v w Y t target) Y in
    let twins : Twins v w k x.0 (at labels) Y Z = record {
      first = x.3;
      second = move_sound v w k x.0 (at labels) pos Y x.3 t target q;
      same_answers = refl;
      same_ledger = refl;
      same_accepted = refl;
      room = room_of v (length Y.window);
      long = (right_lengths v w (length Y.bytes) (length Y.window) (length t) (length target) moves.lengths).whole;
      other_long =
          ap (λ (m : Moved). length m.window) moves.moves
          ∙ window_written v w Y.bytes Y.window t target moves;
    } in
    twins_moved v w k x.0 (at labels) (run v cs Y) (run w ds Z)
    (run-same v w k x.0 (at labels) cs ds p r same Y Z twins)
