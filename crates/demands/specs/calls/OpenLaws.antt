-- What an open leaves: turned back it changes nothing, accepted it leaves a watch of the empty history with the lines
-- of the text's form.
use Prim.Native.Nat.{ℕ, zero, suc, ◌+◌, ◌≤◌, ◌<◌, ◌*◌, ◌%◌}
use native.Mathlib.Omega.{arith}
use Rattle.std.proofs.Math.Path.{◌≡◌, ap, ap₂, fun_ext}
use Rattle.std.specs.Prelude.{refl, Bool, true, false, ◌&&◌, ◌||◌, leb, ltb, eqb, length, get_or}
use Rattle.std.proofs.Common.{sym, subst, ◌∙◌, eqb→eq}
use Rattle.std.proofs.Math.Bool.{not}
use mathlib.Core.List.Memᴰ
use mathlib.Core.List.{List, [], ◌∷◌}
use Rattle.std.proofs.Math.Logic.{⊎_elim}
use Rattle.std.proofs.Math.Pow.{pow_pos}
use borrow.Author.Tests.{ltb-true, leb-true, eqb-true, ltb-false, eqb-false}
use Rattle.pactl.specs.declared.Line.{Line}
use Rattle.rules.specs.Line.{lines_at, line_count}
use Rattle.pactl.specs.Table.{table_bytes, good_line, good_from, good_table}
use Rattle.rules.specs.Formula.{Formula}
use Rattle.rules.specs.Reader.{Reading, read_rule, faulty, formed}
use Rattle.clocks.specs.cuts.EventLaws.{true-T}
use Rattle.clocks.specs.Counts.{at}
use Rattle.clocks.specs.stored.BoundedLaws.{or_e, or-false_e, and-true}
use Rattle.clocks.specs.Refusal.{bad_start}
use Rattle.frontiers.specs.WindowLaws.{length-window_bytes}
use Rattle.window_laws.specs.StartTheorem.{start_represents}
use Rattle.window_laws.specs.Represents.{Represents, Proper}
use Rattle.window.specs.Start.{start_frontier}
use Rattle.frontiers.specs.Bytes.{frontier_length, window_bytes}
use Rattle.rules.specs.Text.{WithinLimits}
use Rattle.rules.specs.reading.ReaderAccepts.{reader_accepts}
use Rattle.rules.specs.lines.LineLaws.{length-lines_at, line_count_pos, good_lines_at}
use Rattle.clocks.specs.History.{taken, last_clock, event, clock_of}
use Rattle.clocks.specs.Event.{Cut}
use Rattle.clocks.specs.stored.CountsLaws.{list_of-at}
use Rattle.refusals.specs.Refusals.{bad_record_length, bad_window_length, bad_processes}
use Rattle.call_open.specs.Open.{open_table, open_read, open_call}
use Rattle.answers.specs.Answer.{turned_back}
use Rattle.demands.specs.calls.AfterCall.{WatchRight}
use Rattle.demands.specs.Watching.{Rule}
use Rattle.demands.specs.Run.{Watch, opened}
use Rattle.demands.specs.Status.{record_bytes}
use Rattle.demands.specs.bytes.SetterLaws.{first_record-record_bytes}
use Rattle.demands.specs.calls.StoredFits.{all_shaped}
use Rattle.demands.specs.World.{world_of, Valid}
use Rattle.demands.specs.calls.ValidRule.{valid_rule}

pub data OpenCase (w : ℕ) (text : List ℕ) (k : ℕ) (labels s window : List ℕ) : Type 0 where
  turns_back : (n i : ℕ)
      → open_call w text k labels s window ≡ record { answer = turned_back n i; bytes = s; window = window }
      → OpenCase w text k labels s window
  opens : (f : Formula) (i : ℕ) → bad_window_length w (length window) ≡ false → bad_processes k ≡ false
      → bad_start k labels ≡ false → read_rule text k ≡ formed i f
      → open_call w text k labels s window ≡ open_table w (lines_at 0 f) k labels (length window)
      → OpenCase w text k labels s window

pub open_case : (w : ℕ) (text : List ℕ) (k : ℕ) (labels s window : List ℕ) → OpenCase w text k labels s window
unfolding open_call open_read
open_case w text k labels s window =
    go (bad_record_length w (length s) || bad_window_length w (length window)) refl (bad_processes k) refl
    (bad_start k labels) refl (read_rule text k) refl
  where
    go : (a : Bool) → bad_record_length w (length s) || bad_window_length w (length window) ≡ a
        → (b : Bool) → bad_processes k ≡ b → (c : Bool) → bad_start k labels ≡ c
        → (r : Reading) → read_rule text k ≡ r → OpenCase w text k labels s window
    go true h6 b h5 c h9 r h = turns_back 6 0 (rw h6)
    go false h6 true h5 c h9 r h = turns_back 5 0 (rw (h6, h5))
    go false h6 false h5 true h9 r h = turns_back 9 0 (rw (h6, h5, h9))
    go false h6 false h5 false h9 (faulty n i) h = turns_back n i (rw (h6, h5, h9, h))
    go false h6 false h5 false h9 (formed i f) h =
        opens f i (or-false_e (bad_record_length w (length s)) (bad_window_length w (length window)) h6).1 h5 h9 h
        (rw (h6, h5, h9, h))

-- ---- the bytes of good lines
line_low : (k i : ℕ) (l : Line) → k ≤ 256 → i ≤ 256 → good_line k i l ≡ true
    → (l.kind < 256) × (l.a < 256) × (l.b < 256)
unfolding good_line
line_low k i l hk hi g = go (eqb l.kind 0) refl (eqb l.kind 1 || eqb l.kind 3) refl
  where
    go : (a : Bool) → eqb l.kind 0 ≡ a → (b : Bool) → eqb l.kind 1 || eqb l.kind 3 ≡ b
        → (l.kind < 256) × (l.a < 256) × (l.b < 256)
    go true p b q =
        let t = and-true (ltb l.a k) (leb l.b 7) (rw p at g) in (
          omega (arith, eqb-true l.kind 0 p),
          omega (arith, ltb-true l.a k t.0),
          omega (arith, leb-true l.b 7 t.1),
        )
    go false p true q =
        let t = and-true (ltb l.a i) (eqb l.b 0) (rw (p, q) at g) in (
          ⊎_elim (λ x. omega (arith, eqb→eq l.kind 1 x)) (λ x. omega (arith, eqb→eq l.kind 3 x))
              (or_e (eqb l.kind 1) (eqb l.kind 3) (true-T q)),
          omega (arith, ltb-true l.a i t.0),
          omega (arith, eqb-true l.b 0 t.1),
        )
    go false p false q =
        let t = and-true (leb l.kind 5) (ltb l.a i && ltb l.b i) (rw (p, q) at g) in
        let u = and-true (ltb l.a i) (ltb l.b i) t.1 in (
          omega (arith, leb-true l.kind 5 t.0),
          omega (arith, ltb-true l.a i u.0),
          omega (arith, ltb-true l.b i u.1),
        )

table_low : (k i : ℕ) (ls : List Line) → k ≤ 256 → i + length ls ≤ 256 → good_from k i ls ≡ true → (j : ℕ)
    → get_or (table_bytes ls) j 0 < 256
unfolding good_from table_bytes
table_low k i [] hk hi g j = omega arith
table_low k i (l ∷ ls) hk hi g zero =
    (line_low k i l hk (omega arith) (and-true (good_line k i l) (good_from k (i + 1) ls) g).0).0
table_low k i (l ∷ ls) hk hi g (suc zero) =
    (line_low k i l hk (omega arith) (and-true (good_line k i l) (good_from k (i + 1) ls) g).0).1
table_low k i (l ∷ ls) hk hi g (suc (suc zero)) =
    (line_low k i l hk (omega arith) (and-true (good_line k i l) (good_from k (i + 1) ls) g).0).2
table_low k i (l ∷ ls) hk hi g (suc (suc (suc j))) =
    table_low k (i + 1) ls hk (omega arith) (and-true (good_line k i l) (good_from k (i + 1) ls) g).1 j

-- ---- the watch that an accepted open left
module _ (w : ℕ) (text : List ℕ) (k : ℕ) (labels window : List ℕ) (some_byte : 0 < w) (eight : length labels ≡ 8)
    (bytes : (p : ℕ) → at labels p < 256) (f : Formula) (i : ℕ) (h6 : bad_window_length w (length window) ≡ false)
    (h5 : bad_processes k ≡ false) (h : read_rule text k ≡ formed i f) where
  abbrev table : List Line
  table = lines_at 0 f

  within : WithinLimits k f
  within = ((reader_accepts text k i f).0 h).3

  processes : (0 < k) × (k ≤ 8)
  unfolding bad_processes
  processes =
      let t = or-false_e (eqb k 0) (ltb 8 k) h5 in
      (omega (arith, eqb-false k 0 t.0), ltb-false 8 k t.1)

  pub opened_rule : Rule w k table (at labels)
  opened_rule =
      let g : good_table k table ≡ true = good_lines_at k processes.0 0 f within.below in
      let n : length table ≡ line_count f = length-lines_at 0 f in
      record {
        some_byte = some_byte;
        some_process = processes.0;
        eight_processes = processes.1;
        good = g;
        some_line = omega (arith, n, line_count_pos f);
        short = omega (arith, n, within.short);
        line_bytes = table_low k 0 table (omega (arith, processes.1)) (omega (arith, n, within.short)) g;
        labels_fit = bytes;
      }

  abbrev W : Watch
  W = opened (open_table w table k labels (length window))

  -- its window holds the one cut of zeros
  pub opened_start : Represents (world_of k 0 table (at labels)) [] (start_frontier 8 labels table ∷ [])
  opened_start =
      let P : Proper (world_of k 0 table (at labels)) Valid [] = record {
        some_process = processes.0;
        room = processes.1;
        rule = valid_rule k;
        by_rule = tt;
        good = opened_rule.good;
      } in
      subst (λ (ls : List ℕ). Represents (world_of k 0 table (at labels)) [] (start_frontier 8 ls table ∷ []))
      (list_of-at 8 labels eight) (start_represents (world_of k 0 table (at labels)) Valid P)

  one_frontier : 1 * frontier_length w ≤ length window
  unfolding bad_window_length
  one_frontier = omega (
    arith,
    ltb-false (length window) (frontier_length w)
        (or-false_e (ltb (length window) (frontier_length w))
        (ltb (1024 * frontier_length w) (length window) || not (eqb (length window % frontier_length w) 0)) h6).0,
  )

  -- ... and is as long as it was lent
  pub opened_long : length (window_bytes w (length window) (start_frontier 8 labels table ∷ [])) ≡ length window
  opened_long =
      length-window_bytes w (length window) (start_frontier 8 labels table ∷ [])
      (all_shaped w [] tt (λ e m. absurd (Memᴰ.not-nil m)) k 0 table (at labels) opened_rule.short bytes
      (start_frontier 8 labels table ∷ []) opened_start) one_frontier

  pub opened_right : WatchRight w k table (at labels) W
  unfolding open_table taken last_clock clock_of event
  opened_right = record {
    kept = start_frontier 8 labels table ∷ [];
    bytes_are =
        first_record-record_bytes w k table
        ∙ ap₂ (λ (c : Cut) (d : ℕ → Cut). record_bytes w
        (record { processes = k; table = table; closed = 0; kept = 1; counts = c; clocks = d; pending = [] }))
        no_counts no_clocks;
    window_is = ap (λ (t : ℕ). window_bytes w t (start_frontier 8 labels table ∷ [])) (sym opened_long);
    room = omega (arith, opened_long, one_frontier);
    few = omega arith;
    represents = opened_start;
    right = record {
      by_rule = tt;
      formed = λ e m. absurd (Memᴰ.not-nil m);
      untaken = λ e m. absurd (Memᴰ.not-nil m);
      was_ready = λ e m. absurd (Memᴰ.not-nil m);
      eight = λ e.
          ⊎_elim (λ m. absurd (Memᴰ.not-nil m))
          (⊎_elim (λ m. absurd (Memᴰ.not-nil m)) (λ m. absurd (Memᴰ.not-nil m)));
    };
    ordered = tt;
    clear = tt;
    faultless = λ e. ⊎_elim (λ m. absurd (Memᴰ.not-nil m)) (λ m. absurd (Memᴰ.not-nil m));
    storable = λ e. ⊎_elim (λ m. absurd (Memᴰ.not-nil m)) (λ m. absurd (Memᴰ.not-nil m));
    many = omega arith;
    closed_below = pow_pos k;
    names_open = λ e m. absurd (Memᴰ.not-nil m);
  }
    where
      no_counts : ◌≡◌ {A = Cut} (λ p. 0) (taken [])
      no_counts = fun_ext (λ p. refl)

      no_clocks : ◌≡◌ {A = ℕ → Cut} (λ p q. 0) (last_clock [])
      no_clocks = fun_ext (λ p. fun_ext (λ q. refl))
