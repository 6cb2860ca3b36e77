-- Watches that end alike print alike: a page's rows are those of the kept frontiers and of the record, which are the
-- same.
use Rattle.std.specs.Prelude.{ℕ, ◌≡◌, false, List, length}
use Rattle.std.proofs.Common.{sym, ap, subst, ◌∙◌}
use Rattle.clocks.specs.Event.{Cut}
use Rattle.clocks.specs.Counts.{at}
use Rattle.frontiers.specs.declared.Frontier.{Frontier}
use Rattle.frontiers.specs.Bytes.{frontiers}
use Rattle.rules.specs.Formula.{Formula}
use Rattle.rules.specs.Reader.{formed}
use Rattle.records.specs.Record.{kept_count}
use Rattle.refusals.specs.Refusals.{bad_window_length}
use Rattle.demands.specs.Run.{Watch}
use Rattle.demands.specs.lists.SoundRun.{Sound}
use Rattle.demands.specs.lists.Page.{printed, judged}
use Rattle.demands.specs.lists.OrderIndependent.{alike}
use Rattle.demands.specs.forms.Moves.{written_sound}
use Rattle.demands.specs.statements.OrderIndependent.{Alike}
use Rattle.demands.specs.statements.Page.{next_page, PagesAlike}

prints_alike : (w k : ℕ) (f : Formula) (start : Cut) (Y Z : Watch) → Sound w k f start Y → Sound w k f start Z
    → Alike w k f start Y Z
    → bad_window_length w (length Y.window) ≡ false → bad_window_length w (length Z.window) ≡ false
    → (page : List ℕ) → next_page w Y page ≡ next_page w Z page
prints_alike w k f start Y Z S T' same h h' page =
    judged w k f start Y S h page
    ∙ ap (λ (fs : List Frontier). printed Y.bytes fs page) same.same_frontiers
    ∙ ap (λ (s : List ℕ). printed s (frontiers w Z.window (kept_count Z.bytes)) page) same.same_record
    ∙ sym (judged w k f start Z T' h' page)

-- ---- Theorem
pub pages_alike : PagesAlike
pages_alike text k labels eight w Y Z y z q q' same shut =
    let a = written_sound text k labels eight w Y y in
    let b = written_sound text k labels eight w Z z in
    let r : formed a.1 a.0 ≡ formed b.1 b.0 = sym a.2 ∙ b.2 in
    let e : a.0 ≡ b.0 = cc in
    let T' : Sound w k a.0 (at labels) Z = subst (λ (g : Formula). Sound w k g (at labels) Z) (sym e) b.3 in
    prints_alike w k a.0 (at labels) Y Z a.3 T' (alike w k a.0 (at labels) Y Z a.3 T' q q' same shut)
