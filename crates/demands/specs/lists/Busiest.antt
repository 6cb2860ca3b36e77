-- Watches of events of single processes without messages: their kept cuts are the cuts that reach a taken count, and
-- these are counted.
use Rattle.std.specs.Prelude.{ℕ, ◌+◌, ◌≤◌, ◌<◌, ◌≡◌, refl, ◌↔◌, length}
use Rattle.std.proofs.Common.{arith, sym, ap, subst, ◌∙◌, ⊎_elim}
use mathlib.Core.List.Memᴰ
use mathlib.Core.List.{List, [], ◌∷◌, reverse, reverse-cons, Memᴰ}
use Rattle.clocks.specs.declared.Event.{Event}
use Rattle.clocks.specs.Event.{Cut, Ready}
use Rattle.clocks.specs.History.{taken, Consistent, In}
use Rattle.clocks.specs.Causal.{Causal}
use Rattle.clocks.specs.Valid.{History}
use Rattle.clocks.specs.Counts.{at, list_of}
use Rattle.clocks.specs.cuts.SameEvents.{Same, same_taken}
use Rattle.clocks.specs.stored.CountsLaws.{length-list_of, list_of-same, at-list_of-all}
use Rattle.clocks.specs.validity.ClockRule.{history_causal, taken-silent}
use Rattle.rules.specs.Formula.{Formula}
use Rattle.rules.specs.Line.{lines_at}
use Rattle.records.specs.Record.{kept_count}
use Rattle.answers.specs.Answer.{turned_back}
use Rattle.call_busiest.specs.Sharing.{share, shares, product, sharing_keeps}
use Rattle.call_busiest.specs.SharingLaws.{kept_sum}
use Rattle.call_busiest.specs.Busiest.{busiest_day}
use Rattle.call_busiest.specs.BusiestExact.{Day}
use Rattle.sharing_laws.specs.Alone.{AllAlone}
use Rattle.sharing_laws.specs.AloneLaws.{alone_consistent, alone_total}
use Rattle.sharing_laws.specs.Best.{even_is_best}
use Rattle.sharing_laws.specs.CutLists.{reaching, reaching_exactly, length_reaching, sorted_reaching}
use Rattle.sharing_laws.specs.DayLaws.{day_history, day_alone, day_taken}
use Rattle.demands.specs.Ledger.{Ledger, Settled, occurrences, accounted}
use Rattle.demands.specs.Run.{Watch}
use Rattle.demands.specs.World.{Valid, KeptNumber, Stays}
use Rattle.demands.specs.Watching.{Eight, Kept_right}
use Rattle.demands.specs.EveryList.{EndsQuiet, RightLengths, next_take}
use Rattle.demands.specs.statements.Busiest.{Gives, listed, Plain, BusiestKept, BusiestIsKept}
use Rattle.demands.specs.statements.TakeAnswers.{allowed_next}
use Rattle.demands.specs.calls.KeptCutsLaws.{number_unique, represented_number, none_closed}
use Rattle.demands.specs.calls.ValidRule.{valid_rule}
use Rattle.demands.specs.calls.WatchingLaws.{says_kept}
use Rattle.demands.specs.lists.LedgerBalance.{occurs_append}
use Rattle.demands.specs.lists.Delivery.{same-taken_events, same_pending}
use Rattle.demands.specs.lists.SoundRun.{Sound, every-list}
use Rattle.demands.specs.lists.TakeAnswers.{take_exact_of}
use Rattle.demands.specs.lists.DayListed.{there, value, storable, read, in_reverse}

-- ---- How many cuts are kept

module _ (k : ℕ) (some : 0 < k) (eight : k ≤ 8) (ts : List Event) (h : History k Valid ts) (alone : AllAlone ts) where
  abbrev counts : List ℕ
  counts = list_of k (taken ts)

  taken_at : (p : ℕ) → at counts p ≡ taken ts p
  taken_at p = ap (λ (C : Cut). C p) (at-list_of-all k (taken ts) (taken-silent k Valid ts h))

  pub alone_number : KeptNumber k 0 ts (sharing_keeps (list_of k (taken ts)))
  alone_number = (
    reaching counts,
    record {
      ascending = sorted_reaching 8 counts (rw (length-list_of k (taken ts)) eight);
      exactly = λ S. (in_there S, in_back S);
    },
    length_reaching counts,
  )
    where
      causal : Causal ts
      causal = history_causal k Valid (valid_rule k) ts h

      in_there : (S : Cut) → Memᴰ S (reaching counts) → Consistent ts S × Stays k 0 ts S
      in_there S m =
          let r = (reaching_exactly counts S).0 m in (
            alone_consistent ts causal alone S (λ p. omega (arith, r.0 p, taken_at p)),
            (none_closed k some ts S).1
                (r.1.0, rw (length-list_of k (taken ts)) at r.1.1, r.1.2 ∙ taken_at r.1.0),
          )

      in_back : (S : Cut) → Consistent ts S × Stays k 0 ts S → Memᴰ S (reaching counts)
      in_back S c =
          let r = (none_closed k some ts S).0 c.1 in
          (reaching_exactly counts S).1 (
            (λ p. omega (arith, c.0.within p, taken_at p)),
            (r.0, rw (length-list_of k (taken ts)) r.1, r.2 ∙ sym (taken_at r.0)),
          )

  -- No more than an even sharing of as many events.
  pub alone_most : (n : ℕ) → length ts ≤ n → sharing_keeps (list_of k (taken ts)) ≤ sharing_keeps (shares k n)
  alone_most n l =
      (even_is_best k n some).best counts (length-list_of k (taken ts)) (omega (arith, alone_total k Valid ts h alone))

-- ---- The ledger of a day that was taken whole

module _ (k n : ℕ) (d : Day k n) where
  abbrev day_ledger : Ledger
  day_ledger = record { history = reverse (busiest_day k n); pending = []; falsified = []; closed = 0 }

  day-eight : (e : Event) → In e (reverse (busiest_day k n)) → Eight e
  day-eight e m =
      let fits = storable 2 (omega arith) k n d e ((in_reverse e (busiest_day k n)).1 m) in
      record { counts = fits.eight_counts; labels = fits.eight_labels }

  day_right : Kept_right k Valid day_ledger
  day_right = record {
    by_rule = day_history k d.eight_processes (share k n);
    formed = λ e m. absurd (Memᴰ.not-nil m);
    untaken = λ e m. absurd (Memᴰ.not-nil m);
    was_ready = λ e m. absurd (Memᴰ.not-nil m);
    eight = λ e m.
        ⊎_elim (day-eight e) (⊎_elim (λ z. absurd (Memᴰ.not-nil z)) (λ z. absurd (Memᴰ.not-nil z))) m;
  }

  day_quiet : Settled day_ledger
  day_quiet e m = absurd (Memᴰ.not-nil m)

occurs_reverse : (e : Event) (es : List Event) → occurrences e (reverse es) ≡ occurrences e es
unfolding occurrences
occurs_reverse e [] = refl
occurs_reverse e (f ∷ fs) =
    rw (reverse-cons f fs, occurs_append e (reverse fs) (f ∷ [])) (omega (arith, occurs_reverse e fs))

no_members : (es : List Event) → ((e : Event) → Memᴰ e es → ⊥) → es ≡ []
no_members [] h = refl
no_members (e ∷ es) h = absurd (h e (Memᴰ.head refl))

-- ---- After a list of calls

module _ (w k : ℕ) (f : Formula) (start : Cut) (Z : Watch) (S : Sound w k f start Z) where
  abbrev ts : List Event
  ts = Z.ledger.history

  by_rule : History k Valid ts
  by_rule = S.right.right.by_rule

  -- The record's number is that of the kept cuts.
  number_read : Z.ledger.closed ≡ 0 → KeptNumber k 0 ts (kept_count Z.bytes)
  number_read none =
      rw (← none, says_kept w k (lines_at 0 f) start S.rule Z.ledger Z.bytes Z.window S.right)
      (represented_number k Z.ledger.closed ts (lines_at 0 f) start S.right.kept S.right.represents)

  by_counts : Plain Z → kept_count Z.bytes ≡ sharing_keeps (list_of k (taken ts))
  by_counts P =
      number_unique k 0 ts (kept_count Z.bytes) (sharing_keeps (list_of k (taken ts))) (number_read P.none_closed)
      (alone_number k S.rule.some_process S.rule.eight_processes ts by_rule P.taken_alone)

  -- ---- Exactly the events of a list
  module _ (none : Z.ledger.closed ≡ 0) (v : ℕ) (wide : 2 ≤ v) (n : ℕ) (events : List ℕ) (m : ℕ)
      (given : Gives v k n events m) where
    d : Day k n
    d = there v k n events m given

    same_kept : Same ts (reverse (busiest_day k n)) → kept_count Z.bytes ≡ m
    same_kept s =
        let days : List Event = reverse (busiest_day k n) in
        let past : History k Valid days = day_history k d.eight_processes (share k n) in
        let plain : Plain Z = record {
          none_closed = none;
          taken_alone = λ e i. day_alone k d.eight_processes (share k n) e (s.there e i);
        } in
        let counted : taken ts ≡ taken days =
        same_taken ts days (history_causal k Valid (valid_rule k) ts by_rule)
        (history_causal k Valid (valid_rule k) days past) s in
        by_counts plain
        ∙ ap sharing_keeps
        (list_of-same k (taken ts) (share k n)
        (λ p l. ap (λ (C : Cut). C p) counted ∙ day_taken k d.eight_processes (share k n) p l))
        ∙ sym (value v k n events m given)

    listed_kept : ((e : Event) → In e ts ↔ Memᴰ e (listed v k n events)) → kept_count Z.bytes ≡ m
    listed_kept h =
        let e = read v wide k n events m given in
        same_kept
        (record {
          there = λ x i. (in_reverse x (busiest_day k n)).0 (rw e at ((h x).0 i));
          back = λ x i. (h x).1 (rw e ((in_reverse x (busiest_day k n)).1 i));
        })

    settled_kept : ((e : Event) → occurrences e Z.accepted ≡ occurrences e (listed v k n events)) → EndsQuiet Z
        → (Z.ledger.pending ≡ []) × (kept_count Z.bytes ≡ m)
    unfolding occurrences
    settled_kept h quiet = (
      no_members Z.ledger.pending (λ e i. Memᴰ.not-nil ((pending e).1 i)),
      same_kept (record { there = both.back; back = both.there }),
    )
      where
        settled : Settled Z.ledger
        settled = S.reporting.quiet quiet.0 quiet.1

        alike : (e : Event) → accounted e (day_ledger k n d) ≡ accounted e Z.ledger
        alike e =
            omega (
              arith,
              occurs_reverse e (busiest_day k n),
              ap (λ (es : List Event). occurrences e es) (read v wide k n events m given),
              h e,
              S.balanced.each e,
            )

        both : Same (reverse (busiest_day k n)) ts
        both =
            same-taken_events k Valid (valid_rule k) (day_ledger k n d) Z.ledger (day_right k n d) S.right.right
            (day_quiet k n d) settled alike

        pending : (e : Event) → Memᴰ e [] ↔ Memᴰ e Z.ledger.pending
        pending =
            same_pending k Valid (valid_rule k) (day_ledger k n d) Z.ledger (day_right k n d) S.right.right
            (day_quiet k n d) settled alike

  -- ---- Room enough
  most : Plain Z → (v n : ℕ) (events : List ℕ) (m : ℕ) → Gives v k n events m → length ts ≤ n
      → kept_count Z.bytes ≤ m
  most P v n events m g l =
      omega (
        arith,
        by_counts P,
        value v k n events m g,
        alone_most k S.rule.some_process S.rule.eight_processes ts by_rule P.taken_alone n l,
      )

  -- With one event more, too.
  next_most : Plain Z → AllAlone Z.ledger.pending → (n : ℕ) → length ts < n → (e : Event)
      → Memᴰ e Z.ledger.pending → Ready e (taken ts) → Valid ts e
      → (N : ℕ) → KeptNumber k Z.ledger.closed (e ∷ ts) N → N ≤ sharing_keeps (shares k n)
  next_most P others n l e i ready true_clock N kept =
      let next : History k Valid (e ∷ ts) =
      (record { formed = S.right.right.formed e i; ready = ready; true_clock = true_clock }, by_rule) in
      let alone : AllAlone (e ∷ ts) =
      λ x j. ⊎_elim (λ y. rw y (others e i)) (P.taken_alone x) (Memᴰ.cases_cons j) in
      let K = sharing_keeps (list_of k (taken (e ∷ ts))) in
      omega (
        arith,
        number_unique k 0 (e ∷ ts) N K
            (subst (λ (c : ℕ). KeptNumber k c (e ∷ ts) N) P.none_closed kept)
            (alone_number k S.rule.some_process S.rule.eight_processes (e ∷ ts) next alone),
        alone_most k S.rule.some_process S.rule.eight_processes (e ∷ ts) next alone n l,
      )

  enough : Plain Z → AllAlone Z.ledger.pending → (v n : ℕ) (events : List ℕ) (m : ℕ) → Gives v k n events m
      → length ts < n → (limit more : ℕ) (scratch : List ℕ) → RightLengths w Z more scratch
      → m ≤ allowed_next w Z limit more → (next_take w Z limit more scratch).answer ≡ turned_back 36 0 → ⊥
  enough P others v n events m g l limit more scratch right room q =
      let full = ((take_exact_of w k f start Z S).right_lengths limit more scratch right).full_exactly.0 q in
      let over = full.1 full.0.0 full.0.1 full.0.2 in
      omega (
        arith,
        next_most P others n l full.0.0 full.0.1 full.0.2 over.0 over.1.0 over.1.1,
        over.1.2,
        value v k n events m g,
      )

  pub busiest_kept_of : BusiestKept w k f start Z
  busiest_kept_of = record {
    kept_by_counts = by_counts;
    kept_by_products = λ P.
        ap (λ (n : ℕ). n + product (list_of k (taken ts))) (by_counts P) ∙ kept_sum (list_of k (taken ts));
    never_more = most;
    day_kept = listed_kept;
    day_settled = settled_kept;
    room_enough = enough;
  }

-- ---- Theorem
pub busiest_kept : BusiestIsKept
busiest_kept = every-list _ busiest_kept_of
