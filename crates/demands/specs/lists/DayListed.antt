-- The list of a busiest day, read back: its events are the day's, each of a single process without messages, and a
-- history in their order.
use Rattle.std.specs.Prelude.{ℕ, suc, ◌*◌, ◌^◌, ◌≤◌, ◌<◌, ◌≡◌, refl, cond, ◌↔◌, eqb, length, get_or, take, drop}
use Rattle.std.proofs.Common.{zero-add, arith, sym, ap, ◌∙◌, ⊎_elim}
use mathlib.Core.List.Memᴰ
use mathlib.Core.List.{List, [], ◌∷◌, ◌++◌, reverse, reverse-cons, append-nil, Memᴰ}
use Rattle.std.proofs.lemmas.List.{length-replicate}
use Rattle.std.proofs.Math.Pow.{pow-lt}
use Rattle.clocks.specs.declared.Event.{Event}
use Rattle.clocks.specs.Event.{count}
use Rattle.clocks.specs.Counts.{at, list_of}
use Rattle.clocks.specs.stored.CountsLaws.{length-list_of, filled}
use Rattle.frontiers.specs.ListLaws.{place_member}
use Rattle.records.specs.Record.{event_length, event_from, event_bytes, events_bytes}
use Rattle.call_busiest.specs.Sharing.{share, shares, sharing_keeps}
use Rattle.call_busiest.specs.SharingLaws.{share-within, total-shares}
use Rattle.call_busiest.specs.DayBytes.{number_fits}
use Rattle.call_busiest.specs.Busiest.{single, busiest_day}
use Rattle.call_busiest.specs.BusiestExact.{Day}
use Rattle.call_busiest.specs.BusiestTheorem.{busiest_exact}
use Rattle.sharing_laws.specs.DayLaws.{single_most, day_history, day_alone, day_member, length-day}
use Rattle.demands.specs.statements.Busiest.{Gives, listed, DayIsListed}
use Rattle.demands.specs.bytes.BlockLaws.{blocks, events_bytes-blocks, block_apart, length_before}
use Rattle.demands.specs.bytes.PlaceLaws.{Bytes-zeros}
use Rattle.demands.specs.bytes.RecordBlocks.{AllStorable, even_pending}
use Rattle.demands.specs.bytes.Sized.{Storable}
use Rattle.demands.specs.bytes.StoredLaws.{event_from_bytes}

-- ---- Events that stand one behind the other

events_read : (v : ℕ) (es : List Event) → AllStorable v es
    → list_of (length es) (λ i. event_from v (events_bytes v es) (i * event_length v)) ≡ es
events_read v es fit = sym (filled (length es) _ none es refl (λ i l. sym (one i l)))
  where
    none : Event
    none = record { mask = 0; clock = []; labels = [] }

    one : (i : ℕ) → i < length es → event_from v (events_bytes v es) (i * event_length v) ≡ get_or es i none
    one i l =
        let e = get_or es i none in
        let before : List ℕ = blocks (event_bytes v) (take i es) in
        let behind : List ℕ = blocks (event_bytes v) (drop (suc i) es) ++ [] in
        let split : events_bytes v es ≡ ([] ++ before) ++ (event_bytes v e ++ behind) =
        events_bytes-blocks v es ∙ sym (append-nil (blocks (event_bytes v) es))
        ∙ block_apart (event_bytes v) es i none l [] [] in
        ap (λ (s : List ℕ). event_from v s (i * event_length v)) split
        ∙ event_from_bytes v e (fit e (place_member es i none l)) ([] ++ before) behind (i * event_length v)
        (length_before (event_bytes v) (event_length v) es (even_pending v es fit) i (omega arith) [] 0 refl
        ∙ zero-add (i * event_length v))

-- ---- The list of a call

single_storable : (v p n : ℕ) → p < 8 → n < 256 ^ v → Storable v (single p n)
unfolding single count
single_storable v p n l fits = record {
  mask_fits = pow-lt {j = 8} l;
  eight_counts = length-list_of 8 (λ q. cond (eqb q p) n 0);
  counts_fit = λ q. le-lt (single_most p n l q) fits;
  eight_labels = length-replicate {A = ℕ} 8 0;
  labels_fit = Bytes-zeros 8;
}
  where
    le-lt : {a b c : ℕ} → a ≤ b → b < c → a < c
    le-lt x y = omega arith

module _ (v k n : ℕ) (events : List ℕ) (m : ℕ) (given : Gives v k n events m) where
  pub there : Day k n
  there = (((busiest_exact v k n events).given m).0 given).0

  pub value : m ≡ sharing_keeps (shares k n)
  value = (((busiest_exact v k n events).given m).0 given).3

module _ (v : ℕ) (wide : 2 ≤ v) (k n : ℕ) (d : Day k n) where
  pub storable : AllStorable v (busiest_day k n)
  storable e i =
      let r = day_member (share k n) k e i in
      let few : r.1 < n =
      omega (arith, r.3, share-within (share k n) r.0 k r.2, total-shares k n d.some_process) in
      let fits = number_fits v (suc r.1) wide (omega (arith, d.few_events)) in
      rw r.4 (single_storable v r.0 (suc r.1) (omega (arith, r.2, d.eight_processes)) fits)

module _ (v : ℕ) (wide : 2 ≤ v) (k n : ℕ) (events : List ℕ) (m : ℕ) (given : Gives v k n events m) where
  d : Day k n
  d = there v k n events m given

  pub read : listed v k n events ≡ busiest_day k n
  read =
      let many : length (busiest_day k n) ≡ n = length-day (share k n) k ∙ total-shares k n d.some_process in
      ap (λ (s : List ℕ). list_of n (λ i. event_from v s (i * event_length v)))
      ((busiest_exact v k n events).given_writes m given)
      ∙ ap (λ (l : ℕ). list_of l (λ i. event_from v (events_bytes v (busiest_day k n)) (i * event_length v))) (sym many)
      ∙ events_read v (busiest_day k n) (storable v wide k n d)

-- ---- Turned round

module _ {A : Type 0} where
  pub in_reverse : (x : A) (xs : List A) → Memᴰ x xs ↔ Memᴰ x (reverse xs)
  in_reverse x [] = (λ m. m, λ m. m)
  in_reverse x (y ∷ ys) =
      let rest = in_reverse x ys in (
        λ m.
            rw (reverse-cons y ys)
            (⊎_elim (λ e. Memᴰ.append_right (reverse ys) (Memᴰ.head e))
            (λ i. Memᴰ.append_left (y ∷ []) (rest.0 i)) (Memᴰ.cases_cons m)),
        λ m.
            ⊎_elim (λ i. Memᴰ.tail (rest.1 i))
            (λ i.
            ⊎_elim (λ e. Memᴰ.head e) (λ z. absurd (Memᴰ.not-nil z)) (Memᴰ.cases_cons i))
            (Memᴰ.append_cases (reverse ys) (rw (reverse-cons y ys) at m)),
      )

pub day_is_listed : DayIsListed
day_is_listed v wide k n events m given =
    let d = there v k n events m given in
    let e = read v wide k n events m given in
    record {
      are = e;
      alone = rw e (λ x i. day_alone k d.eight_processes (share k n) x ((in_reverse x (busiest_day k n)).0 i));
      history = rw e (day_history k d.eight_processes (share k n));
    }
