-- A page, from the number that turns it back to the last row.
use Prim.Native.Nat.{ℕ, ◌+◌, ◌-◌, ◌*◌, ◌≤◌, ◌<◌}
use native.Mathlib.Omega.{arith}
use native.Mathlib.Nat.{zero-add}
use native.Mathlib.Numerals.{add-one}
use mathlib.Core.Path.{◌≡◌, refl, sym, ap, ◌∙◌}
use mathlib.Core.Bool.{Bool, cond, ◌||◌}
use mathlib.Core.List.{List, [], ◌∷◌, ◌++◌}
use lib.Dec.{eqb, lit<}
use lib.ListN.{length, get_or, take, drop, length-append}
use Rattle.std.proofs.Math.ListN.{get_or-map}
use Rattle.std.proofs.Common.{map, append-nil}
use borrow.Author.Tests.{lt-ltb, le-ltb, ltb-false, ne_eqb, eq-eqb}
use lib.Seq.{sets, sets-eq, take-suc}
use Rattle.codec.specs.Bit.{bit}
use Rattle.codec.specs.Little.{Bytes}
use Rattle.codec.specs.SetsLaws.{sets-append}
use Rattle.frontiers.specs.declared.Frontier.{Frontier}
use Rattle.frontiers.specs.Bytes.{frontiers}
use Rattle.records.specs.Record.{process_count, line_total, kept_count}
use Rattle.refusals.specs.Refusals.{bad_record_length, bad_window_length, room_of, bad_state}
use Rattle.refusals.specs.RefusalCode.{watch_fault}
use Rattle.refusals.specs.FaultLaws.{Good, fault_first, fault_passed, tests_good}
use Rattle.answers.specs.Result.{result_word}
use Rattle.answers.specs.Turns.{chosen_by, passed as passed_turn, end, turn}
use Rattle.call_page.specs.Page.{row, rows, short_page, Paged, page_turned_back, page_written, page_call}
use Rattle.call_page.specs.PageCode.{TenDigits, page_fault}
use Rattle.call_page.specs.RowLaws.{rows_behind, length-row, length-rows}

-- ---- The number

module _ (w : ℕ) (s window : List ℕ) (n : ℕ) where
  -- What a page asks for behind 6 and 34.
  abbrev last : ℕ
  last = cond (short_page (kept_count s) n) 44 0

  pub page_faulted : (fault : ℕ) → fault ≡ watch_fault w s (length window) → (fault ≡ 0 → ⊥)
      → fault ≡ page_fault w s window n
  unfolding page_fault
  page_faulted fault e some = e ∙ fault_first w s (length window) last (λ z. some (e ∙ z))

  passed : watch_fault w s (length window) ≡ 0 → page_fault w s window n ≡ last
  unfolding page_fault
  passed none = fault_passed w s (length window) last none

  pub page_short : watch_fault w s (length window) ≡ 0 → n < 93 * kept_count s → 44 ≡ page_fault w s window n
  unfolding short_page
  page_short none short = sym (passed none ∙ rw (lt-ltb n (93 * kept_count s) short))

  pub page_passed : watch_fault w s (length window) ≡ 0 → 93 * kept_count s ≤ n → 0 ≡ page_fault w s window n
  unfolding short_page
  page_passed none enough = sym (passed none ∙ rw (le-ltb n (93 * kept_count s) enough))

-- ---- The rows

-- The rows of the first i frontiers stand at the page's start, and have the length of so many.
pub record Rows (page₀ : List ℕ) (laid : List Frontier) (k line i : ℕ) (page : List ℕ) : Type 0 where
  pub stand : page ≡ sets page₀ 0 (rows k line (take i laid))
  pub long : length (rows k line (take i laid)) ≡ 93 * i

module _ (page₀ : List ℕ) (laid : List Frontier) (k line : ℕ) where
  pub no_row : Rows page₀ laid k line 0 page₀
  unfolding rows
  no_row = record { stand = refl; long = refl }

  module _ (i : ℕ) (l : i < length laid) where
    abbrev none : Frontier
    none = record { counts = []; labels = []; masks = []; values = 0 }

    abbrev f : Frontier
    f = get_or laid i none

    row_more : rows k line (take (i + 1) laid) ≡ rows k line (take i laid) ++ row k f.counts (bit f.values line)
    unfolding rows
    row_more =
        rw (add-one, take-suc laid i none l, rows_behind k line (take i laid) (f ∷ []))
        (ap (λ (r : List ℕ). rows k line (take i laid) ++ r) (append-nil (row k f.counts (bit f.values line))))

    -- One row more, where its counts and the rule's truth are read.
    pub next_row : (page page' counts : List ℕ) (values : ℕ) (holds : Bool)
        → Rows page₀ laid k line i page → TenDigits counts → counts ≡ get_or (map (λ (g : Frontier). g.counts) laid) i []
        → values ≡ get_or (map (λ (g : Frontier). g.values) laid) i 0 → holds ≡ bit values line
        → page' ≡ sets page (93 * i) (row k counts holds) → Rows page₀ laid k line (i + 1) page'
    next_row page page' counts values holds r ten c v h q =
        let before : List ℕ = rows k line (take i laid) in
        let new : List ℕ = row k counts holds in
        let counted : counts ≡ f.counts = c ∙ get_or-map (λ (g : Frontier). g.counts) laid i none in
        let valued : values ≡ f.values = v ∙ get_or-map (λ (g : Frontier). g.values) laid i none in
        let here : new ≡ row k f.counts (bit f.values line) = rw (h, valued, counted) in
        let more : rows k line (take (i + 1) laid) ≡ before ++ new = row_more ∙ ap (λ (u : List ℕ). before ++ u) (sym here) in
        let there : 93 * i ≡ 0 + length before = omega (arith, r.long) in
        record {
          stand =
              q ∙ ap (λ (u : List ℕ). sets u (93 * i) new) r.stand
              ∙ ap (λ (a : ℕ). sets (sets page₀ 0 before) a new) there
              ∙ sets-append page₀ 0 before new
              ∙ ap (sets page₀ 0) (sym more);
          long = rw (more, length-append before new) (omega (arith, r.long, length-row k counts holds ten));
        }

-- ---- The call

module _ (w : ℕ) (s window page : List ℕ) where
  abbrev fault : ℕ
  fault = page_fault w s window (length page)

  abbrev text : List ℕ
  text = rows (process_count s) (line_total s - 1) (frontiers w window (kept_count s))

  abbrev turned : ℕ → Paged
  turned n = page_turned_back page n

  abbrev whole : Paged
  whole = page_written s (frontiers w window (kept_count s)) page

  page_by : page_call w s window page ≡ cond (eqb fault 0) whole (turned fault)
  unfolding page_call page_fault
  page_by =
      chosen_by
      (turn (bad_record_length w (length s) || bad_window_length w (length window)) 6
      (turn (bad_state w (room_of w (length window)) s) 34
      (turn (short_page (kept_count s) (length page)) 44 end)))
      turned whole (lit< tt, (lit< tt, (lit< tt, tt)))

  pub page_turned : (n : ℕ) → n ≡ fault → (n ≡ 0 → ⊥)
      → (n ≡ result_word (page_call w s window page).answer) × (page ≡ (page_call w s window page).page)
  unfolding result_word
  page_turned n e h =
      let back : page_call w s window page ≡ turned n = page_by ∙ rw (← e, ne_eqb n 0 h) in
      (rw back, rw back)

  -- Where nothing turns it back: record and window are good, and the page is long enough.
  pub page_good : fault ≡ 0 → Good w s (length window) × (93 * kept_count s ≤ length page)
  unfolding page_fault short_page
  page_good h =
      let wrong = passed_turn (bad_record_length w (length s) || bad_window_length w (length window)) 6 _ (lit< tt) h in
      let state = passed_turn (bad_state w (room_of w (length window)) s) 34 _ (lit< tt) wrong.1 in
      let short = passed_turn (short_page (kept_count s) (length page)) 44 0 (lit< tt) state.1 in (
        tests_good w s (length window) wrong.0 state.0,
        ltb-false (length page) (93 * kept_count s) short.0,
      )

  pub page_written_lem : fault ≡ 0 → Bytes window → w ≤ 4 → (page' : List ℕ) → page' ≡ sets page 0 text
      → (65536 * kept_count s ≡ result_word (page_call w s window page).answer)
      × (page' ≡ (page_call w s window page).page)
  unfolding result_word
  page_written_lem h b narrow page' e =
      let done : page_call w s window page ≡ whole = page_by ∙ rw (eq-eqb fault 0 h) in
      let long : length text ≡ 93 * kept_count s =
      length-rows w window b narrow (process_count s) (line_total s - 1) (kept_count s) in
      let enough = (page_good h).1 in
      let laid : sets page 0 text ≡ text ++ drop (93 * kept_count s) page =
      sets-eq text page 0 (omega arith) ∙ rw (zero-add (length text), long) in
      (rw done, rw done (e ∙ laid))
