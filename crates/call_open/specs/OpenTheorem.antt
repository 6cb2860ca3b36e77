-- An open, by what it comes to: what is true of every one.
use Rattle.std.specs.Prelude.{ℕ, ◌*◌, ◌%◌, ◌≤◌, ◌<◌, Bool, not, ◌||◌, List, ◌⊎◌, ◌≢◌, ltb, leb, eqb}
use Rattle.std.proofs.Math.Decide.{dec_le, dec_lt, ℕ_discrete}
use Rattle.std.proofs.Common.{arith, subst, ◌∙◌, inl, inr}
use Rattle.std.proofs.Math.Path.{◌≡◌, refl, sym, ap}
use Rattle.std.proofs.Math.Bool.{true, false, true≢false}
use Rattle.std.proofs.Math.ListN.{length}
use borrow.Author.Tests.{eq-eqb, ne_eqb, eqb-true, le-ltb, ltb-false, le-leb, lt-leb, leb-true, not-false}
use Rattle.clocks.specs.Counts.{at}
use Rattle.clocks.specs.Refusal.{bad_start_label, bad_start}
use Rattle.clocks.specs.cuts.EventLaws.{true-T, T_true}
use Rattle.clocks.specs.stored.BoundedLaws.{and-true, or-false_e, any_e}
use Rattle.clocks.specs.stored.BoundedTurns.{any_stop, any-false_i, any-false_e}
use Rattle.frontiers.specs.Bytes.{frontier_length}
use Rattle.records.specs.Record.{record_length}
use Rattle.refusals.specs.Refusals.{bad_record_length, bad_window_length, bad_processes}
use Rattle.refusals.specs.RefusalLaws.{right_length, processes_within}
use Rattle.rules.specs.Formula.{Formula}
use Rattle.rules.specs.Line.{lines_at}
use Rattle.rules.specs.Reader.{Reading, read_rule, formed, faulty}
use Rattle.rules.specs.grammar.GrammarTheorem.{reader_first_fault, reader_faultless}
use Rattle.answers.specs.Answer.{Answer, turned_back, state, nothing_ready, held, again, found, absent, process_closed, state_of}
use Rattle.call_open.specs.Open.{Opened, open_table, open_read, open_call}
use Rattle.call_open.specs.OpenExact.{RightBuffers, SomeProcesses, NoneLabelled, Readable, IsOpened, OpenExact, OpenIsExact}
use Rattle.call_open.specs.OpenReplyLaws.{rule_number}

-- ---- The tests, by what they ask for

module _ (w : ℕ) (s window : List ℕ) where
  abbrev wrong : Bool
  wrong = bad_record_length w (length s) || bad_window_length w (length window)

  pub lengths_i : RightBuffers w s window → wrong ≡ false
  unfolding bad_record_length bad_window_length
  lengths_i h =
      rw (
        eq-eqb (length s) (record_length w) h.whole_record,
        le-ltb (length window) (frontier_length w) h.some_frontier,
        le-ltb (1024 * frontier_length w) (length window) h.few_frontiers,
        eq-eqb (length window % frontier_length w) 0 h.whole_frontiers,
      )

  pub lengths_e : wrong ≡ false → RightBuffers w s window
  unfolding bad_window_length
  lengths_e h =
      let n = length window in
      let parts = or-false_e (bad_record_length w (length s)) (bad_window_length w n) h in
      let some = or-false_e (ltb n (frontier_length w)) _ parts.1 in
      let few = or-false_e (ltb (1024 * frontier_length w) n) _ some.1 in
      record {
        whole_record = right_length w (length s) parts.0;
        some_frontier = ltb-false n (frontier_length w) some.0;
        few_frontiers = ltb-false (1024 * frontier_length w) n few.0;
        whole_frontiers = eqb-true (n % frontier_length w) 0 (not-false _ few.1);
      }

processes_i : (k : ℕ) → SomeProcesses k → bad_processes k ≡ false
unfolding bad_processes
processes_i k h =
    let some : k ≡ 0 → ⊥ = λ e. omega (arith, h.0) in
    rw (ne_eqb k 0 some, le-ltb 8 k h.1)

-- Some process from k up has a start label.
abbrev Labelled : ℕ → List ℕ → Type 0
Labelled k labels = (p : ℕ) × (k ≤ p) × (p < 8) × (at labels p ≢ 0)

module _ (k : ℕ) (labels : List ℕ) where
  labels_i : NoneLabelled k labels → bad_start k labels ≡ false
  unfolding bad_start
  labels_i h = any-false_i 8 (bad_start_label k labels) (λ p l. go p l (dec_le k p))
    where
      go : (p : ℕ) → p < 8 → Dec (k ≤ p) → bad_start_label k labels p ≡ false
      go p l (yes m) = rw (le-leb k p m, eq-eqb (at labels p) 0 (h p m l))
      go p l (no m) = rw (lt-leb k p (omega arith))

  labels_e : bad_start k labels ≡ false → NoneLabelled k labels
  unfolding bad_start
  labels_e h p m l =
      let here : bad_start_label k labels p ≡ false = any-false_e 8 (bad_start_label k labels) h p l in
      eqb-true (at labels p) 0 (not-false _ (rw (le-leb k p m) at here))

  labelled_i : Labelled k labels → bad_start k labels ≡ true
  unfolding bad_start
  labelled_i x =
      any_stop 8 x.0 (bad_start_label k labels) x.2
      (rw (le-leb k x.0 x.1, ne_eqb (at labels x.0) 0 x.3))

  labelled_e : bad_start k labels ≡ true → Labelled k labels
  unfolding bad_start
  labelled_e h =
      let x = any_e 8 (bad_start_label k labels) (true-T h) in
      let p = x.0 in
      let both = and-true (leb k p) (not (eqb (at labels p) 0)) (T_true _ x.2) in
      (p, leb-true k p both.0, x.1, λ e. true≢false (sym both.1 ∙ rw (eq-eqb (at labels p) 0 e)))

-- ---- What it comes to

module _ (w : ℕ) (text : List ℕ) (k : ℕ) (labels s window : List ℕ) where
  abbrev call : Opened
  call = open_call w text k labels s window

  abbrev back : ℕ → ℕ → Opened
  back n place = record { answer = turned_back n place; bytes = s; window = window }

  -- By what it asks for.
  six : (RightBuffers w s window → ⊥) → call ≡ back 6 0
  unfolding open_call
  six h = go (wrong w s window) refl
    where
      go : (b : Bool) → wrong w s window ≡ b → call ≡ back 6 0
      go true e = rw e
      go false e = absurd (h (lengths_e w s window e))

  five : RightBuffers w s window → (k ≡ 0) ⊎ (8 < k) → call ≡ back 5 0
  unfolding open_call
  five r h = go (bad_processes k) refl h
    where
      go : (b : Bool) → bad_processes k ≡ b → (k ≡ 0) ⊎ (8 < k) → call ≡ back 5 0
      go true e x = rw (lengths_i w s window r, e)
      go false e (inl x) = absurd (omega (arith, (processes_within k e).0))
      go false e (inr x) = absurd (omega (arith, (processes_within k e).1))

  nine : RightBuffers w s window → SomeProcesses k → Labelled k labels → call ≡ back 9 0
  unfolding open_call
  nine r p h = rw (lengths_i w s window r, processes_i k p, labelled_i k labels h)

  reads : Readable w k labels s window → call ≡ open_read w k labels s window (read_rule text k)
  unfolding open_call
  reads r =
      rw (lengths_i w s window r.lengths, processes_i k r.processes, labels_i k labels r.labelled)

  reads_refused : Readable w k labels s window → (n i : ℕ) → read_rule text k ≡ faulty n i → call ≡ back n i
  unfolding open_read
  reads_refused r n i e = reads r ∙ ap (open_read w k labels s window) e

  reads_formed : Readable w k labels s window → (i : ℕ) (f : Formula) → read_rule text k ≡ formed i f
      → call ≡ open_table w (lines_at 0 f) k labels (length window)
  unfolding open_read
  reads_formed r i f e = reads r ∙ ap (open_read w k labels s window) e

  data Way : Type 0 where
    lengths_wrong : (RightBuffers w s window → ⊥) → Way
    processes_wrong : RightBuffers w s window → (k ≡ 0) ⊎ (8 < k) → Way
    labels_wrong : RightBuffers w s window → SomeProcesses k → Labelled k labels → Way
    text_wrong : Readable w k labels s window → (n i : ℕ) → read_rule text k ≡ faulty n i → Way
    whole : Readable w k labels s window → (i : ℕ) (f : Formula) → read_rule text k ≡ formed i f → Way

  the_way : Way
  the_way =
      go (wrong w s window) refl (ℕ_discrete k 0) (dec_lt 8 k) (bad_start k labels) refl (read_rule text k) refl
    where
      readable : wrong w s window ≡ false → SomeProcesses k → bad_start k labels ≡ false → Readable w k labels s window
      readable e p l = record { lengths = lengths_e w s window e; processes = p; labelled = labels_e k labels l }

      go : (a : Bool) → wrong w s window ≡ a → Dec (k ≡ 0) → Dec (8 < k) → (b : Bool) → bad_start k labels ≡ b
          → (r : Reading) → read_rule text k ≡ r → Way
      go true e z m b l r q = lengths_wrong (λ h. true≢false (sym e ∙ lengths_i w s window h))
      go false e (yes z) m b l r q = processes_wrong (lengths_e w s window e) (inl z)
      go false e (no z) (yes m) b l r q = processes_wrong (lengths_e w s window e) (inr m)
      go false e (no z) (no m) true l r q =
          labels_wrong (lengths_e w s window e) (omega arith, omega arith) (labelled_e k labels l)
      go false e (no z) (no m) false l (faulty n i) q =
          text_wrong (readable e (omega arith, omega arith) l) n i q
      go false e (no z) (no m) false l (formed i f) q = whole (readable e (omega arith, omega arith) l) i f q

  -- ---- What an answer says

  abbrev TurnedBy : ℕ → ℕ → Type 0
  TurnedBy n place =
      ((n ≡ 6) × (RightBuffers w s window → ⊥))
      ⊎ (((n ≡ 5) × RightBuffers w s window × ((k ≡ 0) ⊎ (8 < k)))
      ⊎ (((n ≡ 9) × RightBuffers w s window × SomeProcesses k × Labelled k labels)
      ⊎ ((n ≤ 4) × Readable w k labels s window × (read_rule text k ≡ faulty n place))))

  abbrev Says : Answer → Type 0
  Says (turned_back n place) = TurnedBy n place
  Says (state counts truth kept) =
      Readable w k labels s window × ((i : ℕ) × (f : Formula) × (read_rule text k ≡ formed i f))
  Says nothing_ready = ⊥
  Says (held n) = ⊥
  Says again = ⊥
  Says (found i) = ⊥
  Says absent = ⊥
  Says (process_closed n) = ⊥

  text-number : (n i : ℕ) → read_rule text k ≡ faulty n i → (1 ≤ n) × (n ≤ 4)
  text-number n i e = rule_number n text k i ((reader_first_fault text k n i).0 e).here

  says : Says call.answer
  unfolding open_table state_of
  says = go the_way
    where
      go : Way → Says call.answer
      go (lengths_wrong h) = rw (six h) (inl (refl, h))
      go (processes_wrong r h) = rw (five r h) (inr (inl (refl, r, h)))
      go (labels_wrong r p h) = rw (nine r p h) (inr (inr (inl (refl, r, p, h))))
      go (text_wrong r n i e) = rw (reads_refused r n i e) (inr (inr (inr ((text-number n i e).1, r, e))))
      go (whole r i f e) = rw (reads_formed r i f e) (r, (i, f, e))

  turned_says : (n place : ℕ) → call.answer ≡ turned_back n place → TurnedBy n place
  turned_says n place q = subst Says q says

  opened_says : IsOpened call.answer
      → Readable w k labels s window × ((i : ℕ) × (f : Formula) × (read_rule text k ≡ formed i f))
  opened_says x = subst Says x.3 says

  says_six : TurnedBy 6 0 → RightBuffers w s window → ⊥
  says_six (inl x) = x.1
  says_six (inr (inl x)) = absurd (omega (arith, x.0))
  says_six (inr (inr (inl x))) = absurd (omega (arith, x.0))
  says_six (inr (inr (inr x))) = absurd (omega (arith, x.0))

  says_five : TurnedBy 5 0 → RightBuffers w s window × ((k ≡ 0) ⊎ (8 < k))
  says_five (inl x) = absurd (omega (arith, x.0))
  says_five (inr (inl x)) = (x.1, x.2)
  says_five (inr (inr (inl x))) = absurd (omega (arith, x.0))
  says_five (inr (inr (inr x))) = absurd (omega (arith, x.0))

  says_nine : TurnedBy 9 0 → RightBuffers w s window × SomeProcesses k × Labelled k labels
  says_nine (inl x) = absurd (omega (arith, x.0))
  says_nine (inr (inl x)) = absurd (omega (arith, x.0))
  says_nine (inr (inr (inl x))) = (x.1, x.2, x.3)
  says_nine (inr (inr (inr x))) = absurd (omega (arith, x.0))

  says_text : (n place : ℕ) → n ≤ 4 → TurnedBy n place
      → Readable w k labels s window × (read_rule text k ≡ faulty n place)
  says_text n place l (inl x) = absurd (omega (arith, x.0))
  says_text n place l (inr (inl x)) = absurd (omega (arith, x.0))
  says_text n place l (inr (inr (inl x))) = absurd (omega (arith, x.0))
  says_text n place l (inr (inr (inr x))) = (x.1, x.2)

  -- ---- What it leaves

  answers : (o : Opened) → call ≡ o → call.answer ≡ o.answer
  answers o e = ap (λ (x : Opened). x.answer) e

  accepts : (i : ℕ) (f : Formula) → call ≡ open_table w (lines_at 0 f) k labels (length window)
      → IsOpened call.answer
  unfolding open_table state_of
  accepts i f e = (_, _, _, answers _ e)

  left : Way → (n place : ℕ) → call.answer ≡ turned_back n place → (call.bytes ≡ s) × (call.window ≡ window)
  unfolding open_table state_of
  left (lengths_wrong h) n place q = (rw (six h), rw (six h))
  left (processes_wrong r h) n place q = (rw (five r h), rw (five r h))
  left (labels_wrong r p h) n place q = (rw (nine r p h), rw (nine r p h))
  left (text_wrong r m i e) n place q = (rw (reads_refused r m i e), rw (reads_refused r m i e))
  left (whole r i f e) n place q =
      let x = sym (answers _ (reads_formed r i f e)) ∙ q in
      let z : ◌≡◌ {A = ℕ} 0 1 = cc in
      absurd (omega arith)

  one_of : Way → IsOpened call.answer ⊎ ((n place : ℕ) × (call.answer ≡ turned_back n place))
  one_of (lengths_wrong h) = inr (6, 0, answers _ (six h))
  one_of (processes_wrong r h) = inr (5, 0, answers _ (five r h))
  one_of (labels_wrong r p h) = inr (9, 0, answers _ (nine r p h))
  one_of (text_wrong r n i e) = inr (n, i, answers _ (reads_refused r n i e))
  one_of (whole r i f e) = inl (accepts i f (reads_formed r i f e))

  exact : OpenExact w text k labels s window
  exact = record {
    wrong_length = (λ q. says_six (turned_says 6 0 q), λ h. answers _ (six h));
    wrong_processes = (λ q. says_five (turned_says 5 0 q), λ h. answers _ (five h.0 h.1));
    wrong_labels = (λ q. says_nine (turned_says 9 0 q), λ h. answers _ (nine h.0 h.1 h.2));
    wrong_text = λ n place l. (
      (λ q. says_text n place l (turned_says n place q)),
      (λ h. answers _ (reads_refused h.0 n place h.1)),
    );
    first_fault = λ n place l. (
      (λ q. let x = says_text n place l (turned_says n place q) in (x.0, (reader_first_fault text k n place).0 x.1)),
      (λ h. answers _ (reads_refused h.0 n place ((reader_first_fault text k n place).1 h.1))),
    );
    accepted = (
      opened_says,
      (λ h. let y = h.1 in accepts y.0 y.1 (reads_formed h.0 y.0 y.1 y.2)),
    );
    faultless = (
      (λ x. let y = opened_says x in (y.0, (reader_faultless text k).0 y.1)),
      (λ h.
          let y = (reader_faultless text k).1 h.1 in
          accepts y.0 y.1 (reads_formed h.0 y.0 y.1 y.2)),
    );
    no_other = one_of the_way;
    refused_leaves = left the_way;
    accepted_leaves = λ i f e x. reads_formed (opened_says x).0 i f e;
  }

-- ---- Theorem

pub open_exact : OpenIsExact
open_exact w text k labels s window = exact w text k labels s window
