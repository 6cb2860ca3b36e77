-- A page, by the tests that decide its answer: what is true of every one.
use Rattle.std.specs.Prelude.{ℕ, ◌-◌, ◌*◌, ◌≤◌, ◌<◌, ◌≡◌, Bool, true, false, cond, ◌||◌, List, [], ◌∷◌, ◌++◌, length, drop}
use Rattle.std.proofs.Common.{arith, ◌∙◌, lit<, length-append, length-drop, drop_at, ltb-false}
use Rattle.std.proofs.Math.Path.{refl}
use Rattle.codec.specs.Ascii.{ascii}
use Rattle.codec.specs.Bit.{bit}
use Rattle.frontiers.specs.Bytes.{frontier_at, frontiers}
use Rattle.records.specs.Record.{process_count, line_total, kept_count}
use Rattle.refusals.specs.Refusals.{bad_record_length, bad_window_length, room_of, bad_state}
use Rattle.refusals.specs.RefusalLaws.{state-within}
use Rattle.answers.specs.Result.{Result, refused, gives}
use Rattle.answers.specs.Told.{Told}
use Rattle.answers.specs.ToldLaws.{not-both, refused_told, gives_told}
use Rattle.answers.specs.Turns.{by_test}
use Rattle.call_page.specs.Page.{word, rows, short_page, Paged, page_call, ending}
use Rattle.call_page.specs.PageExact.{Printed, PageIsExact, RefusedWritesNothing, PageTells}
use Rattle.call_page.specs.RowLaws.{few_digits, length-rows}
use Rattle.call_page.specs.ColumnLaws.{column_says, column_blank}
use Rattle.call_page.specs.PlaceLaws.{column-there, ending_there}

-- ---- The ways it goes

abbrev text : ℕ → List ℕ → List ℕ → List ℕ
text w s window = rows (process_count s) (line_total s - 1) (frontiers w window (kept_count s))

module _ (w : ℕ) (s window page : List ℕ) where
  -- What a page comes to.
  data Way (P : Paged) : Type 0 where
    turned : (n : ℕ) → 0 < n → n < 256 → P.answer ≡ refused n → P.page ≡ page → Way P
    whole : bad_state w (room_of w (length window)) s ≡ false → 93 * kept_count s ≤ length page
        → P.answer ≡ gives (kept_count s) → P.page ≡ text w s window ++ drop (93 * kept_count s) page → Way P

  the_way : Way (page_call w s window page)
  unfolding page_call short_page
  the_way =
      by_test Way (bad_record_length w (length s) || bad_window_length w (length window)) _ _
      (λ _. turned 6 (lit< tt) (lit< tt) refl refl) λ _.
      by_test Way (bad_state w (room_of w (length window)) s) _ _ (λ _. turned 34 (lit< tt) (lit< tt) refl refl) λ good.
      by_test Way (short_page (kept_count s) (length page)) _ _ (λ _. turned 44 (lit< tt) (lit< tt) refl refl) λ enough.
      whole good (ltb-false (length page) (93 * kept_count s) enough) refl refl

-- ---- On all bytes

ending_is : (truth : Bool) → ending truth ≡ cond truth (ascii " yes") (ascii " no ") ++ (10 ∷ [])
unfolding ending word
ending_is true = refl
ending_is false = refl

pub page_exact : PageIsExact
page_exact w narrow s window page b n q = go (the_way w s window page)
  where
    P : Paged
    P = page_call w s window page

    go : Way w s window page P → Printed w s window page P
    go (turned m some small a kept) = let z : ◌≡◌ {A = Result} (refused m) (gives n) = cc in absurd (not-both m n z)
    go (whole good enough a written) = record {
      all_rows = a;
      each_row = λ i l. record {
        count = λ p k.
            rw (
              written,
              column-there w window b narrow (process_count s) (line_total s - 1) (kept_count s) i l rest p
                  (omega (arith, few)),
            ) (column_says (process_count s) (frontier_at w window i).counts p k (few_digits w window b narrow i p));
        blank = λ p k m.
            rw written
            (column-there w window b narrow (process_count s) (line_total s - 1) (kept_count s) i l rest p m
            ∙ column_blank (process_count s) (frontier_at w window i).counts p k);
        verdict =
            rw written
            (ending_there w window b narrow (process_count s) (line_total s - 1) (kept_count s) i l rest
            ∙ ending_is (bit (frontier_at w window i).values (line_total s - 1)));
      };
      same_length =
          rw written (length-append (text w s window) rest
          ∙ rw (long, length-drop (93 * kept_count s) page) (omega arith));
      rest_stays = rw written (drop_at (text w s window) rest (93 * kept_count s) long);
    }
      where
        few : process_count s ≤ 8
        few = (state-within w (room_of w (length window)) s good).0

        rest : List ℕ
        rest = drop (93 * kept_count s) page

        long : length (text w s window) ≡ 93 * kept_count s
        long = length-rows w window b narrow (process_count s) (line_total s - 1) (kept_count s)

pub refused_writes_nothing : RefusedWritesNothing
refused_writes_nothing w s window page n q = go (the_way w s window page)
  where
    go : Way w s window page (page_call w s window page) → (page_call w s window page).page ≡ page
    go (turned m some small a kept) = kept
    go (whole good enough a written) =
        let z : ◌≡◌ {A = Result} (refused n) (gives (kept_count s)) = cc in
        absurd (not-both n (kept_count s) z)

-- ---- The word

pub page_tells : PageTells
page_tells w s window page = go (the_way w s window page)
  where
    go : Way w s window page (page_call w s window page) → Told (page_call w s window page).answer
    go (turned m some small a kept) = rw a (refused_told m some small)
    go (whole good enough a written) =
        let few = state-within w (room_of w (length window)) s good in
        rw a (gives_told (kept_count s) (omega (arith, few.3)))
