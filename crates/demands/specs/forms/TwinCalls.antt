-- The same call on twins leaves twins: each call is judged by the ledger and the kept frontiers alone, which are the
-- same, and by the number of frontiers that a window has room for.
use Rattle.std.specs.Prelude.{ℕ, ◌+◌, ◌*◌, ◌≤◌, ◌<◌, ◌≡◌, refl, Bool, true, false, cond, ◌⊎◌, leb, length}
use Rattle.std.proofs.Common.{sym, ap, subst, ◌∙◌, inl, inr}
use Rattle.std.proofs.Math.Path.{ap₂}
use mathlib.Core.List.{List, ◌∷◌}
use Rattle.codec.specs.Bit.{bit}
use Rattle.pactl.specs.declared.Line.{Line}
use Rattle.clocks.specs.declared.Event.{Event}
use Rattle.clocks.specs.Event.{Cut}
use Rattle.frontiers.specs.declared.Frontier.{Frontier}
use Rattle.frontiers.specs.Bytes.{frontier_length, frontiers}
use Rattle.rules.specs.Formula.{Formula}
use Rattle.rules.specs.Line.{lines_at}
use Rattle.records.specs.Record.{kept_count, pending_events}
use Rattle.refusals.specs.Refusals.{bad_window_length}
use Rattle.answers.specs.Answer.{Answer, turned_back, process_closed}
use Rattle.call_find.specs.Find.{find_from, find_call}
use Rattle.call_close.specs.Close.{closing}
use Rattle.call_offer.specs.Offer.{offered_event, offer_call}
use Rattle.demands.specs.Ledger.{Ledger}
use Rattle.demands.specs.Mislent.{Mislent, TurnedAway, answer_to}
use Rattle.demands.specs.Run.{Call, offers, takes, finds, closes, mislends, Passed, Watch, offered_ledger, accepted_by, closed_ledger, after}
use Rattle.demands.specs.World.{Open, KeptNumber}
use Rattle.demands.specs.EveryList.{lent_window}
use Rattle.demands.specs.calls.OfferByLedger.{offer_answer, offer_by_ledger, offered_alike}
use Rattle.demands.specs.calls.WatchingLaws.{says_lines, says_pending, says_frontiers}
use Rattle.demands.specs.calls.WindowRooms.{bad_length, lent_more, length_taken, length_closed}
use Rattle.demands.specs.statements.Close.{next_close, RightWindow, NamesProcess, CloseExact}
use Rattle.demands.specs.statements.BothForms.{SameCall}
use Rattle.demands.specs.lists.SoundRun.{Sound, after_sound}
use Rattle.demands.specs.lists.Find.{searched, find_exact_of}
use Rattle.demands.specs.lists.Close.{close_exact_of}
use Rattle.demands.specs.forms.TakeByLedger.{takes-alike}
use Rattle.demands.specs.forms.Twins.{Twins, kept_alike}

module _ (v w k : ℕ) (f : Formula) (start : Cut) (Y Z : Watch) (t : Twins v w k f start Y Z) where
  abbrev table : List Line
  table = lines_at 0 f

  -- the length of the one window is right exactly if that of the other is
  wrong_alike : bad_window_length v (length Y.window) ≡ bad_window_length w (length Z.window)
  wrong_alike =
      ap (bad_window_length v) t.long ∙ bad_length v t.room
      ∙ sym (ap (bad_window_length w) t.other_long ∙ bad_length w t.room)

  -- ---- Offer

  pending_alike : pending_events v Y.bytes ≡ pending_events w Z.bytes
  pending_alike =
      says_pending v k table start t.first.rule Y.ledger Y.bytes Y.window t.first.right
      ∙ ap (λ (L : Ledger). L.pending) t.same_ledger
      ∙ sym (says_pending w k table start t.second.rule Z.ledger Z.bytes Z.window t.second.right)

  offers-alike : (mask : ℕ) (clock labels : List ℕ)
      → (offer_call v mask clock labels Y.bytes).answer ≡ (offer_call w mask clock labels Z.bytes).answer
  offers-alike mask clock labels =
      offer_by_ledger v k table start t.first.rule Y.ledger Y.bytes Y.window t.first.right mask clock
      labels
      ∙ ap (λ (L : Ledger). offer_answer k L mask clock labels) t.same_ledger
      ∙ sym (offer_by_ledger w k table start t.second.rule Z.ledger Z.bytes Z.window t.second.right
      mask clock labels)

  after-offers : (mask : ℕ) (clock labels : List ℕ) → Passed v (offers mask clock labels)
      → Passed w (offers mask clock labels)
      → Twins v w k f start (after v (offers mask clock labels) Y) (after w (offers mask clock labels) Z)
  unfolding after
  after-offers mask clock labels p q =
      let e : Event = offered_event mask clock labels in
      let same = offers-alike mask clock labels in
      record {
        first = after_sound v k f start Y (offers mask clock labels) p t.first;
        second = after_sound w k f start Z (offers mask clock labels) q t.second;
        same_answers = ap₂ ◌∷◌ same t.same_answers;
        same_ledger =
            offered_alike v w Y.bytes Z.bytes pending_alike e Y.ledger _
            ∙ ap₂ (offered_ledger w Z.bytes e) t.same_ledger same;
        same_accepted = ap₂ (accepted_by e) t.same_accepted same;
        room = t.room;
        long = t.long;
        other_long = t.other_long;
      }

  -- ---- Find

  finds-alike : (line : ℕ) → find_call v line Y.bytes Y.window ≡ find_call w line Z.bytes Z.window
  finds-alike line = go (bad_window_length v (length Y.window)) refl
    where
      judged : List Frontier → Answer
      judged fs = cond (leb (length table) line) (turned_back 11 0) (find_from line 0 fs)

      looked : (u : ℕ) (W : Watch) (S : Sound u k f start W) → bad_window_length u (length W.window) ≡ false
          → find_call u line W.bytes W.window ≡ judged S.right.kept
      looked u W S h =
          searched u k f start W S h line
          ∙ ap₂ (λ (n : ℕ) (fs : List Frontier). cond (leb n line) (turned_back 11 0) (find_from line 0 fs))
          (says_lines u k table start S.rule W.ledger W.bytes W.window S.right)
          (ap (λ (s : List ℕ). frontiers u s (kept_count W.bytes)) S.right.window_is
          ∙ says_frontiers u k table start S.rule W.ledger W.bytes W.window S.right
          (length W.window))

      go : (b : Bool) → bad_window_length v (length Y.window) ≡ b
          → find_call v line Y.bytes Y.window ≡ find_call w line Z.bytes Z.window
      go true h =
          ((find_exact_of v k f start Y t.first).wrong_length line).1 h
          ∙ sym (((find_exact_of w k f start Z t.second).wrong_length line).1 (sym wrong_alike ∙ h))
      go false h =
          looked v Y t.first h ∙ ap judged (kept_alike v w k f start Y Z t)
          ∙ sym (looked w Z t.second (sym wrong_alike ∙ h))

  after-finds : (line : ℕ) → Twins v w k f start (after v (finds line) Y) (after w (finds line) Z)
  unfolding after
  after-finds line = record {
    first = after_sound v k f start Y (finds line) tt t.first;
    second = after_sound w k f start Z (finds line) tt t.second;
    same_answers = ap₂ ◌∷◌ (finds-alike line) t.same_answers;
    same_ledger = t.same_ledger;
    same_accepted = t.same_accepted;
    room = t.room;
    long = t.long;
    other_long = t.other_long;
  }

  -- ---- Close

  closes-alike : (p : ℕ) → (next_close v Y p).answer ≡ (next_close w Z p).answer
  closes-alike p = go (bad_window_length v (length Y.window)) refl
    where
      c : CloseExact v k f start Y
      c = close_exact_of v k f start Y t.first

      d : CloseExact w k f start Z
      d = close_exact_of w k f start Z t.second

      judged : RightWindow v Y → RightWindow w Z
          → ((next_close v Y p).answer ≡ turned_back 41 0)
          ⊎ (((next_close v Y p).answer ≡ turned_back 42 0) ⊎ ((n : ℕ) × ((next_close v Y p).answer ≡ process_closed n)))
          → (next_close v Y p).answer ≡ (next_close w Z p).answer
      judged h i (inl q) =
          q
          ∙ sym ((d.not_open i p).1
          (subst (λ (L : Ledger). (k ≤ p) ⊎ (bit L.closed p ≡ true)) t.same_ledger ((c.not_open h p).0 q)))
      judged h i (inr (inl q)) =
          q
          ∙ sym ((d.named i p).1
          (subst (λ (L : Ledger). (p < k) × Open L.closed p
          × NamesProcess p L) t.same_ledger ((c.named h p).0 q)))
      judged h i (inr (inr (n, q))) =
          q
          ∙ sym ((d.closes_exactly i p n).1
          (subst (λ (L : Ledger).
          (p < k) × Open L.closed p × (NamesProcess p L → ⊥) × KeptNumber k (closing L.closed p) L.history n)
          t.same_ledger ((c.closes_exactly h p n).0 q)))

      go : (b : Bool) → bad_window_length v (length Y.window) ≡ b → (next_close v Y p).answer ≡ (next_close w Z p).answer
      go true h = (c.wrong_length p).1 h ∙ sym ((d.wrong_length p).1 (sym wrong_alike ∙ h))
      go false h = judged h (sym wrong_alike ∙ h) (c.no_other h p)

  after-closes : (p : ℕ) → Twins v w k f start (after v (closes p) Y) (after w (closes p) Z)
  unfolding after
  after-closes p = record {
    first = after_sound v k f start Y (closes p) tt t.first;
    second = after_sound w k f start Z (closes p) tt t.second;
    same_answers = ap₂ ◌∷◌ (closes-alike p) t.same_answers;
    same_ledger = ap₂ (closed_ledger p) t.same_ledger (closes-alike p);
    same_accepted = t.same_accepted;
    room = t.room;
    long = length_closed v p Y.bytes Y.window ∙ t.long;
    other_long = length_closed w p Z.bytes Z.window ∙ t.other_long;
  }

  -- ---- Take

  -- lent as many frontiers more and a scratch of as many
  after-takes : (cap more far : ℕ) (scratch scratch' : List ℕ) → length scratch ≡ far * frontier_length v
      → length scratch' ≡ far * frontier_length w
      → Twins v w k f start (after v (takes cap (more * frontier_length v) scratch) Y)
      (after w (takes cap (more * frontier_length w) scratch') Z)
  unfolding after
  after-takes cap more far scratch scratch' l l' =
      let alike =
      takes-alike v w k f start Y Z t.first t.second t.same_ledger t.room t.long t.other_long cap more
      far scratch scratch' l l' in
      record {
        first = after_sound v k f start Y (takes cap (more * frontier_length v) scratch) tt t.first;
        second = after_sound w k f start Z (takes cap (more * frontier_length w) scratch') tt t.second;
        same_answers = ap₂ ◌∷◌ alike.0 t.same_answers;
        same_ledger = alike.1;
        same_accepted = t.same_accepted;
        room = t.room + more;
        long =
            length_taken v cap Y.bytes (lent_window Y (more * frontier_length v)) scratch
            ∙ lent_more v t.room more Y.window t.long;
        other_long =
            length_taken w cap Z.bytes (lent_window Z (more * frontier_length w)) scratch'
            ∙ lent_more w t.room more Z.window t.other_long;
      }

  -- ---- Lent other buffers

  after-mislends : (m n : Mislent) → answer_to v m ≡ answer_to w n → TurnedAway v m → TurnedAway w n
      → Twins v w k f start (after v (mislends m) Y) (after w (mislends n) Z)
  unfolding after
  after-mislends m n same p q = record {
    first = after_sound v k f start Y (mislends m) p t.first;
    second = after_sound w k f start Z (mislends n) q t.second;
    same_answers = ap₂ ◌∷◌ same t.same_answers;
    same_ledger = t.same_ledger;
    same_accepted = t.same_accepted;
    room = t.room;
    long = t.long;
    other_long = t.other_long;
  }

  -- ---- Theorem

  pub after_same : (c d : Call) → SameCall v w c d → Passed v c → Passed w d
      → Twins v w k f start (after v c Y) (after w d Z)
  after_same (offers mask clock labels) d s p q =
      subst (λ (e : Call). Twins v w k f start (after v (offers mask clock labels) Y) (after w e Z)) (sym s)
      (after-offers mask clock labels p (subst (Passed w) s q))
  after_same (takes cap _ scratch) d (more, far, scratch', z, l, l', e) p q =
      subst (λ (n : ℕ). Twins v w k f start (after v (takes cap n scratch) Y) (after w d Z)) (sym z)
      (subst (λ (c : Call). Twins v w k f start (after v (takes cap (more * frontier_length v) scratch) Y) (after w c Z))
      (sym e) (after-takes cap more far scratch scratch' l l'))
  after_same (finds line) d s p q =
      subst (λ (e : Call). Twins v w k f start (after v (finds line) Y) (after w e Z)) (sym s) (after-finds line)
  after_same (closes n) d s p q =
      subst (λ (e : Call). Twins v w k f start (after v (closes n) Y) (after w e Z)) (sym s) (after-closes n)
  after_same (mislends m) d (n, e, same) p q =
      subst (λ (c : Call). Twins v w k f start (after v (mislends m) Y) (after w c Z)) (sym e)
      (after-mislends m n same p (subst (Passed w) e q))
