-- What the pool's upkeep goes by, of every plain call: a refusal's number is 1 to 255, and after any other answer the
-- record's number of frontiers kept fits the pool's two bytes.
use Rattle.std.specs.Prelude.{ℕ, ◌%◌, ◌≤◌, ◌<◌, ◌≡◌, Bool, not, ◌||◌, List, eqb, length, take, set}
use Rattle.std.proofs.Common.{arith, sym, ap, ◌∙◌, true≢false, inl, inr, lit<, length-set, eq-eqb}
use Rattle.std.proofs.Math.Path.{refl}
use Rattle.std.proofs.Math.Bool.{true, false, cond}
use Rattle.std.proofs.lemmas.List.Edits.{sets}
use Rattle.std.proofs.lemmas.Bool.{eqb-false, not-true}
use Rattle.codec.specs.Little.{bytes_of, value_of, number, put}
use Rattle.codec.specs.PutLaws.{number_middle, number-put-same}
use Rattle.codec.specs.SetsLaws.{part-sets-before}
use Rattle.clocks.specs.declared.Event.{Event}
use Rattle.clocks.specs.Event.{apply}
use Rattle.clocks.specs.Counts.{at, list_of}
use Rattle.clocks.specs.Refusal.{bad_start}
use Rattle.pactl.specs.declared.Line.{Line}
use Rattle.frontiers.specs.declared.Frontier.{Frontier}
use Rattle.frontiers.specs.Bytes.{count_bytes, frontiers}
use Rattle.window.specs.Step.{stepped}
use Rattle.window.specs.SteppedCount.{stepped_many}
use Rattle.records.specs.Record.{clocks_place, closed_mask, kept_count, taken_counts, pending_at, removed, clocks_set, closed_set, counted}
use Rattle.refusals.specs.Refusals.{bad_record_length, bad_window_length, bad_processes}
use Rattle.refusals.specs.FaultLaws.{Good}
use Rattle.rules.specs.Line.{lines_at}
use Rattle.rules.specs.Reader.{Reading, read_rule, formed, faulty}
use Rattle.rules.specs.grammar.GrammarTheorem.{reader_first_fault}
use Rattle.trial.specs.Trial.{setting_in}
use Rattle.answers.specs.Answer.{Answer, turned_back, reply_word, state_of}
use Rattle.answers.specs.Kinds.{is_turned_back}
use Rattle.answers.specs.NumberLaws.{NumberFits, turned_told}
use Rattle.answers.specs.Turns.{by_test}
use Rattle.call_open.specs.Open.{Opened, first_record, open_table, open_read, open_call}
use Rattle.call_open.specs.OpenCode.{open_fault}
use Rattle.call_open.specs.OpenFaultLaws.{turned, open_by}
use Rattle.call_open.specs.OpenReplyLaws.{rule_number}
use Rattle.call_take.specs.Take.{Taken, decided, take_capped}
use Rattle.call_take.specs.TakeCases.{Case, take_case, none, falsified, takes}
use Rattle.call_take.specs.TakeCases as taking
use Rattle.call_take.specs.TakenCountsLaws.{clocks_leave, length_removed}
use Rattle.call_close.specs.Close.{Closed, closing, remaining, close_process, close_call}
use Rattle.call_close.specs.CloseCases.{close_case, accepted}
use Rattle.call_close.specs.CloseCases as closing_cases
use Rattle.call_close.specs.CloseReplyLaws.{few_remain}
use Rattle.pool.specs.Pool.{brought_up}
use Rattle.call_shared.specs.Shared.{pool_after}
use Rattle.call_shared.specs.SharedCode.{pool_by}

pub record Settled (a : Answer) (s : List ℕ) : Type 0 where
  pub numbered : NumberFits a
  pub few : is_turned_back a ≡ false → kept_count s < 65536

-- ---- The pool by the reply word

-- A plain call that answers a and leaves the record s was made: its word, and the record's bytes after it.
pub record Made (a : Answer) (s : List ℕ) (reply : ℕ) (bytes : List ℕ) : Type 0 where
  pub settled : Settled a s
  pub told : reply ≡ reply_word a
  pub left : bytes ≡ s

module _ (a : Answer) (s : List ℕ) (reply : ℕ) (bytes : List ℕ) (made : Made a s reply bytes) where
  pub made_pool : (pool : List ℕ) (i : ℕ) → pool_by pool i reply bytes ≡ pool_after pool i a s
  unfolding pool_by pool_after
  made_pool pool i = rw (made.left, made.told, turned_told a made.settled.numbered) (go (is_turned_back a))
    where
      go : (b : Bool)
          → cond (not b) (brought_up pool i (kept_count s)) pool ≡ cond b pool (brought_up pool i (kept_count s))
      go true = refl
      go false = refl

  pub made_few : reply % 256 ≡ 0 → kept_count bytes < 65536
  made_few z =
      let number = ap (λ (r : ℕ). r % 256) (sym made.told) ∙ z in
      let word = sym (turned_told a made.settled.numbered) ∙ eq-eqb (reply_word a % 256) 0 number in
      rw made.left (made.settled.few (not-true (is_turned_back a) word))

-- ---- Refused

back_settled : (n place : ℕ) (s : List ℕ) → 0 < n → n < 256 → Settled (turned_back n place) s
back_settled n place s some small = record { numbered = (some, small); few = λ h. absurd (true≢false h) }

-- ---- Open: one frontier

first_kept : (w k : ℕ) (table : List Line) → kept_count (first_record w k table) ≡ 1
unfolding first_record bytes_of number value_of
first_kept w k table = refl

pub open_settled : (w : ℕ) (text : List ℕ) (k : ℕ) (labels s window : List ℕ)
    → let o = open_call w text k labels s window in Settled o.answer o.bytes
unfolding open_fault open_read open_table state_of
open_settled w text k labels s window =
    rw (open_by w text k labels s window)
    (by_test P (eqb fault 0) (open_read w k labels s window (read_rule text k)) (turned s window fault)
    (λ _. read (read_rule text k) refl)
    (λ h. let some : fault ≡ 0 → ⊥ = eqb-false fault 0 h in back_settled fault 0 s (omega arith) small))
  where
    fault : ℕ
    fault = open_fault w k labels (length s) (length window)

    P : Opened → Type 0
    P o = Settled o.answer o.bytes

    small : fault < 256
    small =
        let by = by_test (λ (n : ℕ). n < 256) in
        by (bad_record_length w (length s) || bad_window_length w (length window)) 6 _ (λ _. lit< tt) λ _.
        by (bad_processes k) 5 _ (λ _. lit< tt) λ _. by (bad_start k labels) 9 0 (λ _. lit< tt) λ _. lit< tt

    read : (r : Reading) → read_rule text k ≡ r → P (open_read w k labels s window r)
    read (formed i f) e = record { numbered = tt; few = λ _. rw (first_kept w k (lines_at 0 f)) (lit< tt) }
    read (faulty n i) e =
        let h = rule_number n text k i ((reader_first_fault text k n i).0 e).here in
        back_settled n i s (omega (arith, h.0)) (omega (arith, h.1))

-- ---- Take: as many as there were, or as fit

counted_kept : (w : ℕ) (s : List ℕ) (e : Event) (kept : ℕ) → 8 ≤ length s → kept ≤ 1024
    → kept_count (counted w s e kept) ≡ kept
unfolding counted number
counted_kept w s e kept long few =
    head (clocks_set w 8 stored e) ∙ ap (λ (u : List ℕ). number u 4 4) (clocks_leave w 8 stored e) ∙ sym (head stored)
    ∙ before ∙ number-put-same s 4 4 kept long (omega arith)
  where
    reached : List ℕ
    reached = count_bytes w (list_of 8 (apply e (at (taken_counts w s))))

    stored : List ℕ
    stored = sets (put s 4 4 kept) 8 reached

    head : (u : List ℕ) → number u 4 4 ≡ number (take (clocks_place w) u) 4 4
    head u = sym (number_middle u 0 (clocks_place w) 4 4 (omega arith))

    before : number stored 4 4 ≡ number (put s 4 4 kept) 4 4
    before = ap value_of (part-sets-before (put s 4 4 kept) 8 reached 4 4 (omega arith))

pub take_settled : (w most : ℕ) (s window scratch : List ℕ) → Good w s (length window)
    → let t = take_capped w most s window scratch in Settled t.answer t.bytes
unfolding decided state_of
take_settled w most s window scratch good = go (take_capped w most s window scratch) (take_case w most s window scratch)
  where
    fs : List Frontier
    fs = frontiers w window (kept_count s)

    go : (t : Taken) → Case w s window scratch fs t → Settled t.answer t.bytes
    go t (taking.turned n (inl e) q) = rw (q, e) (back_settled 6 0 s (lit< tt) (lit< tt))
    go t (taking.turned n (inr e) q) = rw (q, e) (back_settled 34 0 s (lit< tt) (lit< tt))
    go t (none true q) = rw q (back_settled 36 0 s (lit< tt) (lit< tt))
    go t (none false q) = rw q (record { numbered = tt; few = λ _. omega (arith, good.kept) })
    go t (falsified i q) = rw q (back_settled 35 0 (removed w s i) (lit< tt) (lit< tt))
    go t (takes i h q) =
        let e = pending_at w s i in
        let n = length (stepped (setting_in w s e) fs) in
        let fit : n ≤ 1024 = rw (stepped_many (setting_in w s e) fs) h.few in
        let long : 8 ≤ length (removed w s i) = rw (length_removed w s i, h.long) (omega arith) in
        rw q (record { numbered = tt; few = λ _. rw (counted_kept w (removed w s i) e n long fit) (omega arith) })

-- ---- Close: no more than there were

pub close_settled : (w p : ℕ) (s window : List ℕ) → Good w s (length window)
    → let c = close_call w p s window in Settled c.answer c.bytes
unfolding close_process closed_set
close_settled w p s window good = go (close_call w p s window) (close_case w p s window)
  where
    go : (c : Closed) → closing_cases.Case w p s window c → Settled c.answer c.bytes
    go c (closing_cases.turned n some small other q) = rw q (back_settled n 0 s some (omega arith))
    go c (accepted o m q) =
        let closed = closing (closed_mask s) p in
        let n = length (remaining w s closed (frontiers w window (kept_count s))) in
        let fit : n ≤ 1024 = omega (arith, few_remain w s closed window (kept_count s), good.kept) in
        let long : 8 ≤ length (set s 3 closed) = rw (length-set s 3 closed, good.record_long) (omega arith) in
        let same = number-put-same (set s 3 closed) 4 4 n long (omega arith) in
        rw q (record { numbered = tt; few = λ _. rw same (omega arith) })
