-- A page after a list of calls: the window's frontiers are those of the kept cuts, and the bit of the last line is the
-- rule's truth.
use Rattle.std.specs.Prelude.{ℕ, ◌-◌, ◌*◌, ◌≤◌, ◌<◌, ◌≡◌, refl, Bool, true, false, cond, drop}
use Rattle.std.proofs.Common.{arith, ◌∙◌, true≢false, ltb-true, ltb-false}
use Rattle.std.proofs.Math.Path.{sym, ap}
use mathlib.Core.List.{List, [], ◌∷◌, ◌++◌, map}
use Rattle.std.proofs.Math.Dec.{ltb}
use Rattle.std.proofs.Math.ListN.{length, get_or, length-append, length-map}
use Rattle.codec.specs.Bit.{bit}
use Rattle.codec.specs.Little.{Bytes}
use Rattle.clocks.specs.Counts.{at}
use Rattle.clocks.specs.stored.CountsLaws.{at-list_of, length-list_of, get_d_list_of}
use Rattle.clocks.specs.declared.Event.{Event}
use Rattle.clocks.specs.Event.{Cut}
use Rattle.frontiers.specs.declared.Frontier.{Frontier}
use Rattle.frontiers.specs.Bytes.{frontier_at, frontiers}
use Rattle.window_laws.specs.FrontierOf.{frontier_of}
use Rattle.pactl.specs.declared.Line.{Line}
use Rattle.pactl.specs.Truth.{Property, line_truth, holds}
use Rattle.rules.specs.Line.{lines_at}
use Rattle.rules.specs.Formula.{Formula, meaning}
use Rattle.rules.specs.lines.LineLaws.{length-lines_at}
use Rattle.rules.specs.lines.LinesMean.{rule_means}
use Rattle.records.specs.Record.{process_count, line_total, kept_count}
use Rattle.refusals.specs.Refusals.{bad_window_length}
use Rattle.answers.specs.Result.{Result, refused, gives}
use Rattle.call_page.specs.Page.{short_page, Paged, page_turned_back, page_written, page_call}
use Rattle.call_page.specs.PageExact.{RowSays, Printed}
use Rattle.answers.specs.ToldLaws.{not-both}
use Rattle.call_page.specs.PageTheorem.{page_exact}
use Rattle.demands.specs.Run.{Watch}
use Rattle.demands.specs.World.{model_after, frontier_after}
use Rattle.demands.specs.statements.Page.{next_page, PageShows, PageShowsKept}
use Rattle.demands.specs.calls.KeptCutsLaws.{represented_cuts}
use Rattle.demands.specs.calls.MoveLaws.{window_bytes_lem}
use Rattle.demands.specs.calls.WatchingLaws.{says_processes}
use Rattle.demands.specs.lists.SoundRun.{Sound, every-list}
use Rattle.demands.specs.lists.Looked.{right_record, good_state, lines_read, kept_read, line_read}

-- ---- A row said of equal counts, and of an equal truth

row-alike : (k : ℕ) (c d : ℕ → ℕ) (t u : Bool) (page : List ℕ) (i : ℕ) → ((p : ℕ) → p < k → c p ≡ d p) → t ≡ u
    → RowSays k c t page i → RowSays k d u page i
row-alike k c d t u page i same e R = record {
  count = λ p l. rw (← same p l) (R.count p l);
  blank = R.blank;
  verdict = rw (← e) R.verdict;
}

-- The element behind so many others, after a map.
mapped_at : {A : Type 0} (F : Cut → A) (before : List Cut) (S : Cut) (behind : List Cut) (d : A)
    → get_or (map F (before ++ (S ∷ behind))) (length before) d ≡ F S
mapped_at F [] S behind d = refl
mapped_at F (C ∷ before) S behind d = mapped_at F before S behind d

-- ---- After a list of calls

-- What a page comes to where neither 6 nor 34 does: 44, or the rows of these frontiers.
abbrev pub printed : List ℕ → List Frontier → List ℕ → Paged
printed s fs page = cond (short_page (kept_count s) (length page)) (page_turned_back page 44) (page_written s fs page)

module _ (w k : ℕ) (f : Formula) (start : Cut) (Z : Watch) (S : Sound w k f start Z) where
  abbrev table : List Line
  table = lines_at 0 f

  abbrev ts : List Event
  ts = Z.ledger.history

  abbrev cuts : List Cut
  cuts = S.right.represents.cuts

  abbrev answer : List ℕ → Result
  answer page = (next_page w Z page).answer

  -- ---- As many rows as cuts
  kept_cuts_lem : kept_count Z.bytes ≡ length cuts
  unfolding frontiers
  kept_cuts_lem =
      sym (length-list_of (kept_count Z.bytes) (frontier_at w Z.window))
      ∙ ap length (kept_read w k f start Z S)
      ∙ length-map cuts (frontier_after k f start ts)

  -- ---- The ways it goes
  data Case (page : List ℕ) : Type 0 where
    wrong : bad_window_length w (length Z.window) ≡ true → answer page ≡ refused 6 → Case page
    short : bad_window_length w (length Z.window) ≡ false → length page < 93 * length cuts → answer page ≡ refused 44
        → Case page
    whole : bad_window_length w (length Z.window) ≡ false → 93 * length cuts ≤ length page
        → answer page ≡ gives (length cuts) → Case page

  short_is : (page : List ℕ)
      → short_page (kept_count Z.bytes) (length page) ≡ ltb (length page) (93 * length cuts)
  unfolding short_page
  short_is page = ap (λ (n : ℕ). ltb (length page) (93 * n)) kept_cuts_lem

  six : (page : List ℕ) → bad_window_length w (length Z.window) ≡ true → next_page w Z page ≡ page_turned_back page 6
  unfolding page_call
  six page h = rw (right_record w k f start Z S, h)

  pub judged : bad_window_length w (length Z.window) ≡ false → (page : List ℕ)
      → page_call w Z.bytes Z.window page
      ≡ printed Z.bytes (frontiers w Z.window (kept_count Z.bytes)) page
  unfolding page_call
  judged h page = rw (right_record w k f start Z S, h, good_state w k f start Z S)

  by : (page : List ℕ) (P : Paged) → next_page w Z page ≡ P → answer page ≡ P.answer
  by page P e = ap (λ (Q : Paged). Q.answer) e

  the_case : (page : List ℕ) → Case page
  the_case page = go (bad_window_length w (length Z.window)) refl (ltb (length page) (93 * length cuts)) refl
    where
      go : (a : Bool) → bad_window_length w (length Z.window) ≡ a → (b : Bool)
          → ltb (length page) (93 * length cuts) ≡ b → Case page
      go true h b i = wrong h (by page (page_turned_back page 6) (six page h))
      go false h true i =
          short h (ltb-true (length page) (93 * length cuts) i)
          (by page (page_turned_back page 44) (judged h page ∙ rw (short_is page ∙ i)))
      go false h false i =
          whole h (ltb-false (length page) (93 * length cuts) i)
          (by page (page_written Z.bytes (frontiers w Z.window (kept_count Z.bytes)) page)
          (judged h page ∙ rw (short_is page ∙ i))
          ∙ ap gives kept_cuts_lem)

  -- ---- The rows
  processes : process_count Z.bytes ≡ k
  processes = says_processes w k table start S.rule Z.ledger Z.bytes Z.window S.right

  bytes : Bytes Z.window
  bytes = window_bytes_lem w w k table start S.rule Z.ledger Z.bytes Z.window S.right

  -- the frontier at a place is that of the cut there
  frontier_there : (before : List Cut) (C : Cut) (behind : List Cut) → cuts ≡ before ++ (C ∷ behind)
      → frontier_at w Z.window (length before) ≡ frontier_after k f start ts C
  unfolding frontiers
  frontier_there before C behind e =
      let F = frontier_after k f start ts in
      let here : length before < kept_count Z.bytes =
      omega (arith, kept_cuts_lem, ap length e, length-append before (C ∷ behind)) in
      sym (get_d_list_of (kept_count Z.bytes) (frontier_at w Z.window) (length before) (F C) here)
      ∙ ap (λ (fs : List Frontier). get_or fs (length before) (F C)) (kept_read w k f start Z S ∙ ap (map F) e)
      ∙ mapped_at F before C behind (F C)

  count-there : (C : Cut) (p : ℕ) → p < 8 → at (frontier_after k f start ts C).counts p ≡ C p
  unfolding frontier_of
  count-there C p l = at-list_of 8 C p l

  -- the last line's bit is the rule's truth
  rule_read_lem : (C : Cut)
      → bit (frontier_after k f start ts C).values (line_total Z.bytes - 1)
      ≡ holds (model_after k f start ts) (meaning f) C
  rule_read_lem C =
      ap (λ (n : ℕ). bit (frontier_after k f start ts C).values (n - 1)) (lines_read w k f start Z S)
      ∙ line_read w k f start Z S (length table - 1) (omega (arith, S.rule.some_line)) C
      ∙ ap (λ (n : ℕ). line_truth (model_after k f start ts) table (n - 1) C) (length-lines_at 0 f)
      ∙ ap (λ (q : Property). q C) (rule_means (model_after k f start ts) f)

  module _ (narrow : w ≤ 4) (page : List ℕ) (n : ℕ) (q : answer page ≡ gives n) where
    shown : Printed w Z.bytes Z.window page (next_page w Z page)
    shown = page_exact w narrow Z.bytes Z.window page bytes n q

    row_shown : (before : List Cut) (C : Cut) (behind : List Cut) → cuts ≡ before ++ (C ∷ behind)
        → RowSays k C (holds (model_after k f start ts) (meaning f) C) (next_page w Z page).page (length before)
    row_shown before C behind e =
        let here : length before < kept_count Z.bytes =
        omega (arith, kept_cuts_lem, ap length e, length-append before (C ∷ behind)) in
        let g = frontier_at w Z.window (length before) in
        let is = frontier_there before C behind e in
        row-alike k (at g.counts) C (bit g.values (line_total Z.bytes - 1))
        (holds (model_after k f start ts) (meaning f) C) (next_page w Z page).page (length before)
        (λ p l. ap (λ (h : Frontier). at h.counts p) is ∙ count-there C p (omega (arith, S.rule.eight_processes)))
        (ap (λ (h : Frontier). bit h.values (line_total Z.bytes - 1)) is ∙ rule_read_lem C)
        (rw processes at (shown.each_row (length before) here))

    rest-there : drop (93 * length cuts) (next_page w Z page).page ≡ drop (93 * length cuts) page
    rest-there = rw kept_cuts_lem at shown.rest_stays

  pub page_shows_of : PageShows w k f start Z
  page_shows_of = record {
    cuts = cuts;
    cuts_are = represented_cuts k Z.ledger.closed ts table start S.right.kept S.right.represents;
    in_window = kept_read w k f start Z S;
    wrong_length = λ page. (wrong_there page (the_case page), wrong_back page (the_case page));
    too_short = λ h page. (short_there page (the_case page), short_back h page (the_case page));
    printed = λ h page n. (printed-there page n (the_case page), printed_back h page n (the_case page));
    never_34 = λ page q. not_34 page (the_case page) q;
    each_row = row_shown;
    rest_stays = rest-there;
  }
    where
      other : (m n : ℕ) → refused m ≡ refused n → m ≡ n
      other m n e = cc

      wrong_there : (page : List ℕ) → Case page → answer page ≡ refused 6
          → bad_window_length w (length Z.window) ≡ true
      wrong_there page (wrong h a) q = h
      wrong_there page (short h l a) q = absurd (omega (arith, other 44 6 (sym a ∙ q)))
      wrong_there page (whole h l a) q = absurd (not-both 6 (length cuts) (sym q ∙ a))

      wrong_back : (page : List ℕ) → Case page → bad_window_length w (length Z.window) ≡ true → answer page ≡ refused 6
      wrong_back page (wrong h a) q = a
      wrong_back page (short h l a) q = absurd (true≢false (sym q ∙ h))
      wrong_back page (whole h l a) q = absurd (true≢false (sym q ∙ h))

      short_there : (page : List ℕ) → Case page → answer page ≡ refused 44 → length page < 93 * length cuts
      short_there page (wrong h a) q = absurd (omega (arith, other 6 44 (sym a ∙ q)))
      short_there page (short h l a) q = l
      short_there page (whole h l a) q = absurd (not-both 44 (length cuts) (sym q ∙ a))

      short_back : bad_window_length w (length Z.window) ≡ false → (page : List ℕ) → Case page
          → length page < 93 * length cuts → answer page ≡ refused 44
      short_back good page (wrong h a) l = absurd (true≢false (sym h ∙ good))
      short_back good page (short h l a) m = a
      short_back good page (whole h l a) m = absurd (omega arith)

      printed-there : (page : List ℕ) (n : ℕ) → Case page → answer page ≡ gives n
          → (n ≡ length cuts) × (93 * length cuts ≤ length page)
      printed-there page n (wrong h a) q = absurd (not-both 6 n (sym a ∙ q))
      printed-there page n (short h l a) q = absurd (not-both 44 n (sym a ∙ q))
      printed-there page n (whole h l a) q = let z : n ≡ length cuts = cc in (z, l)

      printed_back : bad_window_length w (length Z.window) ≡ false → (page : List ℕ) (n : ℕ) → Case page
          → (n ≡ length cuts) × (93 * length cuts ≤ length page) → answer page ≡ gives n
      printed_back good page n (wrong h a) q = absurd (true≢false (sym h ∙ good))
      printed_back good page n (short h l a) q = absurd (omega (arith, q.1))
      printed_back good page n (whole h l a) q = rw q.0 a

      not_34 : (page : List ℕ) → Case page → answer page ≡ refused 34 → ⊥
      not_34 page (wrong h a) q = absurd (omega (arith, other 6 34 (sym a ∙ q)))
      not_34 page (short h l a) q = absurd (omega (arith, other 44 34 (sym a ∙ q)))
      not_34 page (whole h l a) q = not-both 34 (length cuts) (sym q ∙ a)

-- ---- Theorem
pub page_shows_kept : PageShowsKept
page_shows_kept = every-list _ page_shows_of
