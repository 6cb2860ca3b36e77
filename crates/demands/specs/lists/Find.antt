-- Find after a list of calls: the window's frontiers are those of the kept cuts, and bit i of a frontier's values is
-- the truth of line i.
use Rattle.std.specs.Prelude.{ℕ, suc, ◌≤◌, ◌<◌, ◌≡◌, Bool, cond, ◌↔◌, ◌≢◌, leb, length, get_or, take, drop}
use Rattle.std.proofs.Common.{arith, sym, ap, subst, ◌∙◌, ⊎_elim, length-take-le}
use Rattle.std.proofs.Math.Path.{refl}
use Rattle.std.proofs.Math.Bool.{true, false}
use mathlib.Core.List.{List, map, Memᴰ}
use mathlib.Core.List.Memᴰ as member
use Rattle.std.proofs.lemmas.List.{length-map}
use Rattle.std.proofs.Math.Seq.{split_at}
use borrow.Author.Tests.{le-leb, lt-leb, leb-true, leb-false}
use Rattle.frontiers.specs.declared.Frontier.{Frontier}
use Rattle.pactl.specs.declared.Line.{Line}
use Rattle.clocks.specs.declared.Event.{Event}
use Rattle.codec.specs.Bit.{bit}
use Rattle.frontiers.specs.Bytes.{frontiers}
use Rattle.frontiers.specs.ListLaws.{place_member, member_place}
use Rattle.window.specs.Lists.{get_d_mapped}
use Rattle.window_laws.specs.FrontierOf.{frontier_of}
use Rattle.rules.specs.Line.{lines_at}
use Rattle.rules.specs.Formula.{Formula}
use Rattle.pactl.specs.Truth.{Property}
use Rattle.clocks.specs.Event.{Cut}
use Rattle.records.specs.Record.{kept_count, line_total}
use Rattle.refusals.specs.Refusals.{bad_window_length}
use Rattle.answers.specs.Answer.{Answer, turned_back, found, absent}
use Rattle.numbers.specs.Refusal.{no_line_number}
use Rattle.call_find.specs.Find.{find_from, find_call}
use Rattle.demands.specs.Run.{Watch}
use Rattle.demands.specs.World.{world_of}
use Rattle.demands.specs.statements.Find.{FirstAt, line_of, FindExact, FindIsExact}
use Rattle.demands.specs.calls.ListPlaces.{member_take, which_first}
use Rattle.demands.specs.calls.KeptCutsLaws.{represented_cuts}
use Rattle.demands.specs.calls.WatchingLaws.{never_34}
use Rattle.call_find.specs.FindLaws.{Finding, finding, first, nowhere}
use Rattle.demands.specs.lists.SoundRun.{Sound, every-list}
use Rattle.demands.specs.lists.Looked.{right_record, good_state, lines_read, kept_read, line_read}

-- ---- The first cut is one
first_unique : (has : Property) (cuts : List Cut) (i j : ℕ) → FirstAt has cuts i → FirstAt has cuts j → i ≡ j
first_unique has cuts i j x y = ⊎_elim (λ q. sym x.place ∙ ap length q.0 ∙ y.place)
    (⊎_elim
    (λ m. absurd (clash (y.none_before x.cut m) x.here))
    (λ m. absurd (clash (x.none_before y.cut m) y.here)))
    (which_first x.earlier x.later y.earlier y.later x.cut y.cut (sym x.cuts_are ∙ y.cuts_are))
  where
    clash : {b : Bool} → b ≡ false → b ≡ true → ⊥
    clash p q = let z : ◌≡◌ {A = Bool} false true = sym p ∙ q in let u : ◌≡◌ {A = ℕ} 0 1 = cc in omega arith

-- ---- Frontiers of cuts, a bit of whose values is a property
module _ (line : ℕ) (F : Cut → Frontier) (has : Property)
    (says : (S : Cut) → bit (F S).values line ≡ has S) (cuts : List Cut) where
  zero_cut : Cut
  zero_cut p = 0

  data Case : Type 0 where
    here : (i : ℕ) → find_from line 0 (map F cuts) ≡ found i → FirstAt has cuts i → Case
    nowhere-here : find_from line 0 (map F cuts) ≡ absent → ((S : Cut) → Memᴰ S cuts → has S ≡ false) → Case

  -- the truth at a place, from the frontier there
  at_place : (j : ℕ) (b : Bool) → j < length cuts → bit (get_or (map F cuts) j (F zero_cut)).values line ≡ b
      → has (get_or cuts j zero_cut) ≡ b
  at_place j b l q =
      sym (says (get_or cuts j zero_cut))
      ∙ ap (λ (g : Frontier). bit g.values line) (sym (get_d_mapped F cuts j zero_cut (F zero_cut) l)) ∙ q

  found_case : Case
  found_case = go (finding line 0 (map F cuts) (F zero_cut))
    where
      go : Finding line 0 (map F cuts) (F zero_cut) → Case
      go (first j l q t n) =
          let m : j < length cuts = omega (arith, l, length-map cuts F) in
          here j (q ∙ ap found (omega arith))
          (record {
            earlier = take j cuts;
            cut = get_or cuts j zero_cut;
            later = drop (suc j) cuts;
            cuts_are = split_at cuts j zero_cut m;
            place = length-take-le j cuts (omega arith);
            here = at_place j true m t;
            none_before = λ C c.
                let p = member_take cuts j zero_cut C c in
                subst (λ (D : Cut). has D ≡ false) p.3 (at_place p.0 false p.2 (n p.0 p.1));
          })
      go (nowhere q n) = nowhere-here q (λ C c.
          let p = member_place cuts C zero_cut c in
          let m : p.0 < length (map F cuts) = omega (arith, p.1, length-map cuts F) in
          let b = n _ (place_member (map F cuts) p.0 (F zero_cut) m) in
          subst (λ (D : Cut). has D ≡ false) p.2 (at_place p.0 false p.1 b))

  first_exactly : (i : ℕ) → (find_from line 0 (map F cuts) ≡ found i) ↔ FirstAt has cuts i
  first_exactly i = (there found_case, back found_case)
    where
      there : Case → find_from line 0 (map F cuts) ≡ found i → FirstAt has cuts i
      there (here j q x) r = let z : j ≡ i = cc in rw (← z) x
      there (nowhere-here q n) r = let z : ◌≡◌ {A = ℕ} 0 1 = cc in absurd (omega arith)

      back : Case → FirstAt has cuts i → find_from line 0 (map F cuts) ≡ found i
      back (here j q x) y = q ∙ ap found (first_unique has cuts j i x y)
      back (nowhere-here q n) y =
          let m : Memᴰ y.cut cuts = rw y.cuts_are (member.append_right y.earlier (Memᴰ.head refl)) in
          let z : ◌≡◌ {A = Bool} false true = sym (n y.cut m) ∙ y.here in
          let u : ◌≡◌ {A = ℕ} 0 1 = cc in absurd (omega arith)

  none_exactly : (find_from line 0 (map F cuts) ≡ absent) ↔ ((S : Cut) → Memᴰ S cuts → has S ≡ false)
  none_exactly = (there found_case, back found_case)
    where
      there : Case → find_from line 0 (map F cuts) ≡ absent → (S : Cut) → Memᴰ S cuts → has S ≡ false
      there (here j q x) r = let z : ◌≡◌ {A = ℕ} 0 1 = cc in absurd (omega arith)
      there (nowhere-here q n) r = n

      back : Case → ((S : Cut) → Memᴰ S cuts → has S ≡ false) → find_from line 0 (map F cuts) ≡ absent
      back (here j q x) n =
          let m : Memᴰ x.cut cuts = rw x.cuts_are (member.append_right x.earlier (Memᴰ.head refl)) in
          let z : ◌≡◌ {A = Bool} false true = sym (n x.cut m) ∙ x.here in
          let u : ◌≡◌ {A = ℕ} 0 1 = cc in absurd (omega arith)
      back (nowhere-here q n) r = q

  -- it is no refusal
  no_refusal : (n : ℕ) → find_from line 0 (map F cuts) ≢ turned_back n 0
  no_refusal n r = go found_case
    where
      go : Case → ⊥
      go (here j q x) = let z : ◌≡◌ {A = ℕ} 0 1 = cc in absurd (omega arith)
      go (nowhere-here q m) = let z : ◌≡◌ {A = ℕ} 0 1 = cc in absurd (omega arith)

-- ---- After a list of calls

-- What a find comes to where neither 6 nor 34 does: 11, or the search.
abbrev pub answered : ℕ → List ℕ → List Frontier → Answer
answered line s fs = cond (leb (line_total s) line) (turned_back no_line_number 0) (find_from line 0 fs)

module _ (w k : ℕ) (f : Formula) (start : Cut) (Z : Watch) (S : Sound w k f start Z) where
  abbrev table : List Line
  table = lines_at 0 f

  abbrev ts : List Event
  ts = Z.ledger.history

  abbrev frontier : Cut → Frontier
  frontier = frontier_of (world_of k 0 table start) ts

  says : (line : ℕ) → line < length table → (C : Cut) → bit (frontier C).values line ≡ line_of k f start Z line C
  says = line_read w k f start Z S

  abbrev cuts : List Cut
  cuts = S.right.represents.cuts

  abbrev answer : ℕ → Answer
  answer line = find_call w line Z.bytes Z.window

  -- the three ways it goes
  six : bad_window_length w (length Z.window) ≡ true → (line : ℕ) → answer line ≡ turned_back 6 0
  unfolding find_call
  six h line = rw (right_record w k f start Z S, h)

  pub searched : bad_window_length w (length Z.window) ≡ false → (line : ℕ)
      → find_call w line Z.bytes Z.window
      ≡ answered line Z.bytes (frontiers w Z.window (kept_count Z.bytes))
  unfolding find_call
  searched h line = rw (right_record w k f start Z S, h, good_state w k f start Z S) refl

  eleven : bad_window_length w (length Z.window) ≡ false → (line : ℕ) → length table ≤ line
      → answer line ≡ turned_back 11 0
  eleven h line l = searched h line ∙ rw (lines_read w k f start Z S, le-leb (length table) line l) refl

  looks : bad_window_length w (length Z.window) ≡ false → (line : ℕ) → line < length table
      → answer line ≡ find_from line 0 (map frontier cuts)
  unfolding frontier_of
  looks h line l =
      searched h line
      ∙ rw (lines_read w k f start Z S, lt-leb (length table) line l)
      (ap (find_from line 0) (kept_read w k f start Z S))

  looks_somewhere : bad_window_length w (length Z.window) ≡ false → (line : ℕ) → line < length table → (n : ℕ)
      → answer line ≢ turned_back n 0
  looks_somewhere h line l n q =
      no_refusal line frontier (line_of k f start Z line) (says line l) cuts n (sym (looks h line l) ∙ q)

  other : (line n : ℕ) → bad_window_length w (length Z.window) ≡ false → answer line ≡ turned_back n 0 → n ≡ 11
  other line n h q = go (leb (length table) line) refl
    where
      go : (b : Bool) → leb (length table) line ≡ b → n ≡ 11
      go true b = let e = eleven h line (leb-true (length table) line b) in cc
      go false b = absurd (looks_somewhere h line (leb-false (length table) line b) n q)

  pub find_exact_of : FindExact w k f start Z
  unfolding frontier_of
  find_exact_of = record {
    cuts = cuts;
    cuts_are = represented_cuts k Z.ledger.closed ts table start S.right.kept S.right.represents;
    in_window = kept_read w k f start Z S;
    wrong_length = λ line. ((λ q. is_wrong line q (bad_window_length w (length Z.window)) refl), λ h. six h line);
    no_line = λ h line. ((λ q. too_far h line q (leb (length table) line) refl), eleven h line);
    first = λ h line l i.
        rw (looks h line l) (first_exactly line frontier (line_of k f start Z line) (says line l) cuts i);
    none = λ h line l. rw (looks h line l) (none_exactly line frontier (line_of k f start Z line) (says line l) cuts);
    never_34 = λ line q. not_34 line q (bad_window_length w (length Z.window)) refl;
  }
    where
      is_wrong : (line : ℕ) → answer line ≡ turned_back 6 0 → (b : Bool) → bad_window_length w (length Z.window) ≡ b
          → b ≡ true
      is_wrong line q true h = refl
      is_wrong line q false h = absurd (omega (arith, other line 6 h q))

      too_far : bad_window_length w (length Z.window) ≡ false → (line : ℕ) → answer line ≡ turned_back 11 0
          → (b : Bool) → leb (length table) line ≡ b → length table ≤ line
      too_far h line q true b = leb-true (length table) line b
      too_far h line q false b = absurd (looks_somewhere h line (leb-false (length table) line b) 11 q)

      not_34 : (line : ℕ) → answer line ≡ turned_back 34 0 → (b : Bool) → bad_window_length w (length Z.window) ≡ b → ⊥
      not_34 line q true h = let e = six h line in let z : ◌≡◌ {A = ℕ} 6 34 = cc in omega arith
      not_34 line q false h = omega (arith, other line 34 h q)

-- ---- Theorem
pub find_first : FindIsExact
find_first = every-list _ find_exact_of
