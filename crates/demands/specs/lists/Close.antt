-- What the next close after a list of calls answers, and exactly when; and which offers are shut out.
use Rattle.std.specs.Prelude.{ℕ, ◌^◌, ◌≤◌, ◌<◌, ◌≡◌, Bool, false, cond, ◌&&◌, ◌||◌, List, ◌⊎◌, ◌↔◌, ◌≢◌, leb, length}
use Rattle.std.proofs.Common.{arith, sym, subst, ◌∙◌, pow_mono, leb-true, leb-false}
use Rattle.std.proofs.Math.Path.{refl, ap}
use Rattle.std.proofs.Math.Bool.{true}
use Rattle.std.proofs.Math.Logic.{inl, inr}
use Rattle.std.proofs.Math.Dec.{T}
use Rattle.codec.specs.Bit.{bit}
use Rattle.codec.specs.BitLaws.{bit-or, bit_power}
use Rattle.pactl.specs.declared.Line.{Line}
use Rattle.clocks.specs.declared.Event.{Event}
use Rattle.clocks.specs.Event.{Cut, involved}
use Rattle.clocks.specs.Refusal.{Faultless}
use Rattle.clocks.specs.cuts.EventLaws.{T_true, true-T}
use Rattle.clocks.specs.stored.BoundedLaws.{and-true, or_e, or-false_e, any_e, any_of_i, any_of_e}
use Rattle.clocks.specs.stored.RefusalLaws.{mask_fine}
use Rattle.rules.specs.Formula.{Formula}
use Rattle.rules.specs.Line.{lines_at}
use Rattle.records.specs.Record.{process_count, closed_mask, pending_events}
use Rattle.refusals.specs.Refusals.{bad_window_length, not_open, named_by, names_closed}
use Rattle.answers.specs.Answer.{Answer, turned_back, process_closed}
use Rattle.call_close.specs.Close.{Closed, closing, close_process, close_call}
use Rattle.call_offer.specs.Offer.{offered_event, offer_call}
use Rattle.call_offer.specs.OfferCases.{named_case}
use Rattle.demands.specs.Ledger.{Ledger}
use Rattle.demands.specs.Run.{offers, closes, Passed, Watch, closed_ledger, after}
use Rattle.demands.specs.World.{Open, KeptNumber}
use Rattle.demands.specs.EveryList.{NamesClosed}
use Rattle.demands.specs.statements.Close.{next_close, RightWindow, NamesProcess, closed_with, CloseExact, CloseIsExact}
use Rattle.demands.specs.calls.CloseLaws.{gs, closed_are, closed_represents, still_open, other_open}
use Rattle.demands.specs.calls.KeptCutsLaws.{number_unique, represented_number}
use Rattle.demands.specs.calls.OfferLaws.{offered_faultless}
use Rattle.demands.specs.calls.WatchingLaws.{says_processes, says_closed, says_pending, never_34}
use Rattle.demands.specs.lists.Again.{is_closed_lem}
use Rattle.demands.specs.lists.SoundRun.{Sound, every-list}
use Rattle.demands.specs.lists.Looked.{right_record, good_state}

module _ (w k : ℕ) (f : Formula) (start : Cut) (Z : Watch) (S : Sound w k f start Z) where
  abbrev table : List Line
  table = lines_at 0 f

  abbrev L : Ledger
  L = Z.ledger

  abbrev answer : ℕ → Answer
  answer p = (next_close w Z p).answer

  -- ---- The conditions of 41 and 42 by the ledger
  not_open_here : (p : ℕ) → not_open (process_count Z.bytes) (closed_mask Z.bytes) p ≡ not_open k L.closed p
  not_open_here p = rw (
    says_processes w k table start S.rule L Z.bytes Z.window S.right,
    says_closed w k table start S.rule L Z.bytes Z.window S.right,
  )

  named_here : (p : ℕ) → named_by p (pending_events w Z.bytes) ≡ named_by p L.pending
  named_here p = rw (says_pending w k table start S.rule L Z.bytes Z.window S.right)

  -- ---- What it comes to
  data Answered (p : ℕ) : Type 0 where
    barred : answer p ≡ turned_back 41 0 → (k ≤ p) ⊎ (bit L.closed p ≡ true) → Answered p
    waited_for : answer p ≡ turned_back 42 0 → p < k → Open L.closed p → NamesProcess p L → Answered p
    shut : (n : ℕ) → answer p ≡ process_closed n → p < k → Open L.closed p → (NamesProcess p L → ⊥)
        → KeptNumber k (closing L.closed p) L.history n → Answered p

  back : ℕ → Closed
  back n = record { answer = turned_back n 0; bytes = Z.bytes; window = Z.window }

  wrong : bad_window_length w (length Z.window) ≡ true → (p : ℕ) → next_close w Z p ≡ back 6
  unfolding close_call back
  wrong h p = rw (right_record w k f start Z S, h)

  six : bad_window_length w (length Z.window) ≡ true → (p : ℕ) → answer p ≡ turned_back 6 0
  unfolding back
  six h p = ap (λ (c : Closed). c.answer) (wrong h p)

  judged : RightWindow w Z → (p : ℕ)
      → next_close w Z p
      ≡ cond (not_open k L.closed p) (back 41)
      (cond (named_by p L.pending) (back 42) (close_process w p Z.bytes Z.window))
  unfolding close_call back
  judged h p = rw (right_record w k f start Z S, h, good_state w k f start Z S, not_open_here p, named_here p)

  answered : RightWindow w Z → (p : ℕ) → Answered p
  unfolding back not_open named_by
  answered h p = go (not_open k L.closed p) refl (named_by p L.pending) refl
    where
      first : not_open k L.closed p ≡ true → (k ≤ p) ⊎ (bit L.closed p ≡ true)
      first q = go_first (or_e (leb k p) (bit L.closed p) (true-T q))
        where
          go_first : T (leb k p) ⊎ T (bit L.closed p) → (k ≤ p) ⊎ (bit L.closed p ≡ true)
          go_first (inl t) = inl (leb-true k p (T_true (leb k p) t))
          go_first (inr t) = inr (T_true (bit L.closed p) t)

      fine : not_open k L.closed p ≡ false → (p < k) × Open L.closed p
      fine q = let u = or-false_e (leb k p) (bit L.closed p) q in (leb-false k p u.0, u.1)

      member : named_by p L.pending ≡ true → NamesProcess p L
      member q =
          let e = any_of_e (λ (g : Event). involved g p) L.pending (true-T q) in
          (e.0, e.1, T_true (involved e.0 p) e.2)

      none : named_by p L.pending ≡ false → NamesProcess p L → ⊥
      none q n = subst T q (any_of_i (λ (g : Event). involved g p) L.pending n.0 n.1 (true-T n.2))

      said : (c : Closed) → next_close w Z p ≡ c → answer p ≡ c.answer
      said c q = ap (λ (x : Closed). x.answer) q

      go : (a : Bool) → not_open k L.closed p ≡ a → (b : Bool) → named_by p L.pending ≡ b → Answered p
      go true x b y = barred (said (back 41) (judged h p ∙ rw x)) (first x)
      go false x true y =
          waited_for (said (back 42) (judged h p ∙ rw (x, y))) (fine x).0 (fine x).1 (member y)
      go false x false y =
          let X = S.right in
          let h41 = not_open_here p ∙ x in
          let h42 = named_here p ∙ y in
          let goes : next_close w Z p ≡ close_process w p Z.bytes Z.window = judged h p ∙ rw (x, y) in
          let whole = goes ∙ closed_are w k table start S.rule L Z.bytes Z.window X p h41 h42 in
          shut (length (gs w k table start S.rule L Z.bytes Z.window X p h41 h42))
          (ap (λ (c : Closed). c.answer) whole) (fine x).0 (fine x).1 (none y)
          (represented_number k (closing L.closed p) L.history table start
          (gs w k table start S.rule L Z.bytes Z.window X p h41 h42)
          (closed_represents w k table start S.rule L Z.bytes Z.window X p h41 h42))

  -- 41's condition and that of the others exclude each other
  clash : (p : ℕ) → (k ≤ p) ⊎ (bit L.closed p ≡ true) → p < k → Open L.closed p → ⊥
  clash p (inl l) m o = omega arith
  clash p (inr b) m o = let z : ◌≡◌ {A = Bool} true false = sym b ∙ o in let y : ◌≡◌ {A = ℕ} 0 1 = cc in omega arith

  not_open_exactly : RightWindow w Z → (p : ℕ)
      → (answer p ≡ turned_back 41 0) ↔ ((k ≤ p) ⊎ (bit L.closed p ≡ true))
  not_open_exactly h p = (there (answered h p), onward (answered h p))
    where
      there : Answered p → answer p ≡ turned_back 41 0 → (k ≤ p) ⊎ (bit L.closed p ≡ true)
      there (barred a c) q = c
      there (waited_for a l o n) q = let z : ◌≡◌ {A = ℕ} 42 41 = cc in absurd (omega arith)
      there (shut n a l o u x) q = let z : ◌≡◌ {A = ℕ} 0 1 = cc in absurd (omega arith)

      onward : Answered p → (k ≤ p) ⊎ (bit L.closed p ≡ true) → answer p ≡ turned_back 41 0
      onward (barred a c) d = a
      onward (waited_for a l o n) d = absurd (clash p d l o)
      onward (shut n a l o u x) d = absurd (clash p d l o)

  named_exactly : RightWindow w Z → (p : ℕ)
      → (answer p ≡ turned_back 42 0) ↔ ((p < k) × Open L.closed p × NamesProcess p L)
  named_exactly h p = (there (answered h p), onward (answered h p))
    where
      there : Answered p → answer p ≡ turned_back 42 0 → (p < k) × Open L.closed p × NamesProcess p L
      there (barred a c) q = let z : ◌≡◌ {A = ℕ} 42 41 = cc in absurd (omega arith)
      there (waited_for a l o n) q = (l, o, n)
      there (shut n a l o u x) q = let z : ◌≡◌ {A = ℕ} 0 1 = cc in absurd (omega arith)

      onward : Answered p → (p < k) × Open L.closed p × NamesProcess p L → answer p ≡ turned_back 42 0
      onward (barred a c) d = absurd (clash p c d.0 d.1)
      onward (waited_for a l o n) d = a
      onward (shut n a l o u x) d = absurd (u d.2)

  shut_exactly : RightWindow w Z → (p n : ℕ)
      → (answer p ≡ process_closed n)
      ↔ ((p < k) × Open L.closed p × (NamesProcess p L → ⊥) × KeptNumber k (closing L.closed p) L.history n)
  shut_exactly h p n = (there (answered h p), onward (answered h p))
    where
      there : Answered p → answer p ≡ process_closed n
          → (p < k) × Open L.closed p × (NamesProcess p L → ⊥) × KeptNumber k (closing L.closed p) L.history n
      there (barred a c) q = let z : ◌≡◌ {A = ℕ} 0 1 = cc in absurd (omega arith)
      there (waited_for a l o m) q = let z : ◌≡◌ {A = ℕ} 0 1 = cc in absurd (omega arith)
      there (shut m a l o u x) q =
          let z : m ≡ n = cc in
          (l, o, u, subst (KeptNumber k (closing L.closed p) L.history) z x)

      onward : Answered p
          → (p < k) × Open L.closed p × (NamesProcess p L → ⊥) × KeptNumber k (closing L.closed p) L.history n
          → answer p ≡ process_closed n
      onward (barred a c) d = absurd (clash p c d.0 d.1)
      onward (waited_for a l o m) d = absurd (d.2 m)
      onward (shut m a l o u x) d =
          a ∙ ap process_closed (number_unique k (closing L.closed p) L.history m n x d.3)

  one_of_these : RightWindow w Z → (p : ℕ)
      → (answer p ≡ turned_back 41 0) ⊎ ((answer p ≡ turned_back 42 0) ⊎ ((n : ℕ) × (answer p ≡ process_closed n)))
  one_of_these h p = go (answered h p)
    where
      go : Answered p
          → (answer p ≡ turned_back 41 0) ⊎ ((answer p ≡ turned_back 42 0) ⊎ ((n : ℕ) × (answer p ≡ process_closed n)))
      go (barred a c) = inl a
      go (waited_for a l o n) = inr (inl a)
      go (shut n a l o u x) = inr (inr (n, a))

  -- 6 exactly if the window's length is wrong, and never 34
  other_number : RightWindow w Z → (p n : ℕ) → n ≢ 41 → n ≢ 42 → answer p ≢ turned_back n 0
  other_number h p n x y q = go (answered h p)
    where
      go : Answered p → ⊥
      go (barred a c) = x cc
      go (waited_for a l o m) = y cc
      go (shut m a l o u z) = let v : ◌≡◌ {A = ℕ} 0 1 = cc in omega arith

  six_exactly : (p : ℕ) → (answer p ≡ turned_back 6 0) ↔ (bad_window_length w (length Z.window) ≡ true)
  six_exactly p = (there (bad_window_length w (length Z.window)) refl, λ h. six h p)
    where
      there : (b : Bool) → bad_window_length w (length Z.window) ≡ b → answer p ≡ turned_back 6 0 → b ≡ true
      there true h q = refl
      there false h q = absurd (other_number h p 6 (λ z. omega arith) (λ z. omega arith) q)

  not_34 : (p : ℕ) → answer p ≢ turned_back 34 0
  not_34 p q = go (bad_window_length w (length Z.window)) refl
    where
      go : (b : Bool) → bad_window_length w (length Z.window) ≡ b → ⊥
      go true h = let e = six h p in let z : ◌≡◌ {A = ℕ} 6 34 = cc in omega arith
      go false h = other_number h p 34 (λ z. omega arith) (λ z. omega arith) q

  ledger_then_lem : (p n : ℕ) → answer p ≡ process_closed n → (after w (closes p) Z).ledger ≡ closed_with L p
  unfolding after closed_ledger
  ledger_then_lem p n q = ap (closed_ledger p L) q

  one_closed : (p q : ℕ) → Open (closing L.closed p) q ↔ ((q ≢ p) × Open L.closed q)
  one_closed p q = (
    (λ h. ((λ e. itself_not (rw e at h)), still_open L.closed p q h)),
    λ h. other_open L.closed p q h.0 h.1,
  )
    where
      either : (b : Bool) → b || true ≡ true
      either true = refl
      either false = refl

      shut_itself : bit (closing L.closed p) p ≡ true
      shut_itself = rw (bit-or L.closed (2 ^ p) p, bit_power p) (either (bit L.closed p))

      itself_not : Open (closing L.closed p) p → ⊥
      itself_not h =
          let z : ◌≡◌ {A = Bool} true false = sym shut_itself ∙ h in
          let y : ◌≡◌ {A = ℕ} 0 1 = cc in omega arith

  -- ---- Offers
  shut_out_exactly : (mask : ℕ) (clock labels : List ℕ) → Passed w (offers mask clock labels)
      → ((offer_call w mask clock labels Z.bytes).answer ≡ turned_back 42 0)
      ↔ ((mask < 256) × Faultless k (offered_event mask clock labels) × NamesClosed Z (offered_event mask clock labels))
  unfolding names_closed
  shut_out_exactly mask clock labels passed = (
    there,
    λ c. is_closed_lem w k f start Z S mask clock labels passed c.0 c.1 c.2.0 c.2.1 c.2.2,
  )
    where
      e : Event
      e = offered_event mask clock labels

      there : (offer_call w mask clock labels Z.bytes).answer ≡ turned_back 42 0
          → (mask < 256) × Faultless k (offered_event mask clock labels) × NamesClosed Z (offered_event mask clock labels)
      there q =
          let n = named_case w mask clock labels Z.bytes q in
          let says = says_processes w k table start S.rule L Z.bytes Z.window S.right in
          let closed = says_closed w k table start S.rule L Z.bytes Z.window S.right in
          let l = ((mask_fine k mask passed.0).0 (rw says at n.h7)).1 in
          let named : names_closed L.closed (offered_event mask clock labels) ≡ true = rw closed at n.h42 in
          let p = any_e 8 (λ x. involved (offered_event mask clock labels) x && bit L.closed x) (true-T named) in
          let both = and-true (involved (offered_event mask clock labels) p.0) (bit L.closed p.0)
          (T_true _ p.2) in (
            omega (arith, l, pow_mono S.rule.eight_processes),
            offered_faultless w k table start S.rule L Z.bytes Z.window S.right mask clock labels passed
                (rw says at n.h7) (rw says at n.h8) n.h9,
            (p.0, both.0, both.1),
          )

  pub close_exact_of : CloseExact w k f start Z
  close_exact_of = record {
    wrong_length = six_exactly;
    not_open = not_open_exactly;
    named = named_exactly;
    closes_exactly = shut_exactly;
    no_other = one_of_these;
    ledger_closed = ledger_then_lem;
    never_34 = not_34;
    closes_one = one_closed;
    shut_out = shut_out_exactly;
  }

-- ---- Theorem
pub close_exact : CloseIsExact
close_exact = every-list _ close_exact_of
