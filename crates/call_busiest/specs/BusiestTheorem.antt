-- A call for a busiest day, by what it comes to: what is true of every one.
use Rattle.std.specs.Prelude.{ℕ, ◌*◌, ◌≤◌, ◌<◌, ◌≡◌, refl, Bool, true, false, List, ◌⊎◌, ◌≢◌, length}
use Rattle.std.proofs.Math.Decide.{dec_lt, ℕ_discrete}
use Rattle.std.proofs.Common.{arith, sym, ap, ◌∙◌, true≢false, lit<}
use Rattle.std.proofs.Math.Logic.{inl, inr}
use borrow.Author.Tests.{ne_eqb, le-ltb}
use Rattle.records.specs.Record.{event_length}
use Rattle.refusals.specs.Refusals.{bad_processes}
use Rattle.refusals.specs.RefusalLaws.{processes_within}
use Rattle.answers.specs.Result.{refused, gives}
use Rattle.answers.specs.Told.{Told}
use Rattle.answers.specs.ToldLaws.{not-both, refused_told, gives_told}
use Rattle.call_busiest.specs.Sharing.{share, shares, sharing_keeps}
use Rattle.call_busiest.specs.SharingLaws.{total-shares}
use Rattle.call_busiest.specs.DayBytes.{length-day}
use Rattle.call_busiest.specs.Busiest.{Listed, day_turned_back, day_written, busiest_call}
use Rattle.call_busiest.specs.BusiestLaws.{processes_turned, events_turned, busy_turned, length-turned, all-written}
use Rattle.call_busiest.specs.BusiestExact.{Day, Exact, BusiestIsExact}

module _ (w k n : ℕ) (events : List ℕ) where
  abbrev call : Listed
  call = busiest_call w k n events

  abbrev K : ℕ
  K = sharing_keeps (shares k n)

  abbrev NoDay : Type 0
  NoDay = (k ≡ 0) ⊎ ((8 < k) ⊎ (65535 < n))

  data Way : Type 0 where
    no_day : NoDay → call ≡ day_turned_back events 45 → Way
    busy : Day k n → 1024 < K → call ≡ day_turned_back events 46 → Way
    length_wrong : Day k n → K ≤ 1024 → length events ≢ n * event_length w → call ≡ day_turned_back events 6 → Way
    whole : Day k n → K ≤ 1024 → length events ≡ n * event_length w → call ≡ day_written w k n → Way

  bad_processes_lem : bad_processes k ≡ true → NoDay
  unfolding bad_processes
  bad_processes_lem h = go (ℕ_discrete k 0) (dec_lt 8 k)
    where
      go : Dec (k ≡ 0) → Dec (8 < k) → NoDay
      go (yes e) d = inl e
      go (no e) (yes l) = inr (inl l)
      go (no e) (no l) = absurd (true≢false (sym h ∙ rw (ne_eqb k 0 e, le-ltb 8 k (omega arith))))

  the_way : Way
  the_way = go (bad_processes k) refl (dec_lt 65535 n) (dec_lt 1024 K) (ℕ_discrete (length events) (n * event_length w))
    where
      day : bad_processes k ≡ false → n ≤ 65535 → Day k n
      day g l =
          let within = processes_within k g in
          record { some_process = within.0; eight_processes = within.1; few_events = l }

      go : (b : Bool) → bad_processes k ≡ b → Dec (65535 < n) → Dec (1024 < K)
          → Dec (length events ≡ n * event_length w) → Way
      go true h d e f = no_day (bad_processes_lem h) (processes_turned w k n events h)
      go false g (yes l) e f = no_day (inr (inr l)) (events_turned w k n events g l)
      go false g (no l) (yes m) f =
          let few : n ≤ 65535 = omega arith in
          busy (day g few) m (busy_turned w k n events g few m)
      go false g (no l) (no m) (no o) =
          let few : n ≤ 65535 = omega arith in
          let room : K ≤ 1024 = omega arith in
          length_wrong (day g few) room o (length-turned w k n events g few room o)
      go false g (no l) (no m) (yes s) =
          let few : n ≤ 65535 = omega arith in
          let room : K ≤ 1024 = omega arith in
          whole (day g few) room s (all-written w k n events g few room s)

  -- ---- What is true of every way

  no_day-day : NoDay → Day k n → ⊥
  no_day-day (inl e) d = omega (arith, d.some_process)
  no_day-day (inr (inl l)) d = omega (arith, d.eight_processes)
  no_day-day (inr (inr l)) d = omega (arith, d.few_events)

  answers : (L : Listed) → call ≡ L → call.answer ≡ L.answer
  answers L e = ap (λ (M : Listed). M.answer) e

  leaves : (L : Listed) → call ≡ L → call.events ≡ L.events
  leaves L e = ap (λ (M : Listed). M.events) e

  -- Turned back by one number, it is not by another, and gives nothing.
  other_number : (a b : ℕ) → call ≡ day_turned_back events a → call.answer ≡ refused b → a ≡ b
  other_number a b e q = let same : refused a ≡ refused b = sym (answers (day_turned_back events a) e) ∙ q in cc

  gives_none : (a m : ℕ) → call ≡ day_turned_back events a → call.answer ≡ gives m → ⊥
  gives_none a m e q = not-both a m (sym (answers (day_turned_back events a) e) ∙ q)

  turned_told : (a : ℕ) → 0 < a → a < 256 → call ≡ day_turned_back events a → Told call.answer
  turned_told a some small e = rw (answers (day_turned_back events a) e) (refused_told a some small)

  exact : Way → Exact w k n events call
  exact (no_day x e) = record {
    no_day = (λ q. x, λ y. answers (day_turned_back events 45) e);
    too_busy = (λ q. absurd (omega (arith, other_number 45 46 e q)), λ h. absurd (no_day-day x h.0));
    wrong_length = (λ q. absurd (omega (arith, other_number 45 6 e q)), λ h. absurd (no_day-day x h.0));
    given = λ m. (λ q. absurd (gives_none 45 m e q), λ h. absurd (no_day-day x h.0));
    refused_leaves = λ m q. leaves (day_turned_back events 45) e;
    given_writes = λ m q. absurd (gives_none 45 m e q);
    same_length = ap length (leaves (day_turned_back events 45) e);
    told = turned_told 45 (lit< tt) (lit< tt) e;
  }
  exact (busy d l e) = record {
    no_day = (λ q. absurd (omega (arith, other_number 46 45 e q)), λ x. absurd (no_day-day x d));
    too_busy = (λ q. (d, l), λ h. answers (day_turned_back events 46) e);
    wrong_length = (λ q. absurd (omega (arith, other_number 46 6 e q)), λ h. absurd (omega (arith, h.1)));
    given = λ m. (λ q. absurd (gives_none 46 m e q), λ h. absurd (omega (arith, h.1)));
    refused_leaves = λ m q. leaves (day_turned_back events 46) e;
    given_writes = λ m q. absurd (gives_none 46 m e q);
    same_length = ap length (leaves (day_turned_back events 46) e);
    told = turned_told 46 (lit< tt) (lit< tt) e;
  }
  exact (length_wrong d l o e) = record {
    no_day = (λ q. absurd (omega (arith, other_number 6 45 e q)), λ x. absurd (no_day-day x d));
    too_busy = (λ q. absurd (omega (arith, other_number 6 46 e q)), λ h. absurd (omega (arith, h.1)));
    wrong_length = (λ q. (d, l, o), λ h. answers (day_turned_back events 6) e);
    given = λ m. (λ q. absurd (gives_none 6 m e q), λ h. absurd (o h.2));
    refused_leaves = λ m q. leaves (day_turned_back events 6) e;
    given_writes = λ m q. absurd (gives_none 6 m e q);
    same_length = ap length (leaves (day_turned_back events 6) e);
    told = turned_told 6 (lit< tt) (lit< tt) e;
  }
  exact (whole d l s e) = record {
    no_day = (λ q. absurd (not-both 45 K (sym q ∙ given)), λ x. absurd (no_day-day x d));
    too_busy = (λ q. absurd (not-both 46 K (sym q ∙ given)), λ h. absurd (omega (arith, h.1)));
    wrong_length = (λ q. absurd (not-both 6 K (sym q ∙ given)), λ h. absurd (h.2 s));
    given = λ m. (λ q. (d, l, s, value m q), λ h. rw h.3 given);
    refused_leaves = λ m q. absurd (not-both m K (sym q ∙ given));
    given_writes = λ m q. leaves (day_written w k n) e;
    same_length =
        ap length (leaves (day_written w k n) e) ∙ length-day w (share k n) k
        ∙ ap (λ (m : ℕ). m * event_length w) (total-shares k n d.some_process) ∙ sym s;
    told = rw given (gives_told K (omega arith));
  }
    where
      given : call.answer ≡ gives K
      given = answers (day_written w k n) e

      value : (m : ℕ) → call.answer ≡ gives m → m ≡ K
      value m q = let same : gives K ≡ gives m = sym given ∙ q in let z : K ≡ m = cc in sym z

-- ---- Theorem

pub busiest_exact : BusiestIsExact
busiest_exact w k n events = exact w k n events (the_way w k n events)
