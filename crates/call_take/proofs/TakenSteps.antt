-- What the code of a taken event cites: its bytes fit, what its removal leaves, the last frontier's values, the step's
-- setting.
use Prim.Native.Nat.{ℕ, ◌+◌, ◌-◌, ◌*◌, ◌^◌, ◌≤◌, ◌<◌}
use native.Mathlib.Decide.{dec_lt}
use native.Mathlib.Omega.{arith}
use mathlib.Core.Path.{◌≡◌, sym, ap, ◌∙◌}
use mathlib.Core.Bool.{Bool}
use mathlib.Core.List.{List, map}
use lib.ListN.{length, get_or, drop}
use lib.Dec.{T}
use Rattle.codec.specs.Bit.{bit}
use Rattle.codec.specs.Little.{Bytes, number}
use Rattle.codec.specs.LittleLaws.{Bytes-take, Bytes-drop, pow_256_pos}
use Rattle.codec.specs.PutLaws.{number_lt}
use Rattle.clocks.specs.declared.Event.{Event}
use Rattle.clocks.specs.Counts.{at, list_of}
use Rattle.clocks.specs.stored.CountsLaws.{at-list_of, at_beyond, length-list_of}
use Rattle.frontiers.specs.declared.Frontier.{Frontier}
use Rattle.frontiers.specs.Bytes.{frontiers, frontier_at}
use Rattle.window.specs.Lists.{get_d_mapped}
use Rattle.window.specs.Step.{stepped, kept_after}
use Rattle.window.specs.StepCode.{Fitting}
use Rattle.window.specs.SteppedCount.{stepped_many}
use Rattle.frontiers.specs.WindowLaws.{length-frontiers, get_d_frontiers}
use Rattle.records.specs.Record.{pending_at, pending_place, removed, counted, line_total, ready_in}
use Rattle.trial.specs.Trial.{setting_in, chosen}
use Rattle.call_take.specs.Take.{decided}
use Rattle.call_take.specs.TakenCountsLaws.{removed-taken}
use Rattle.answers.specs.Answer.{reply_word, flag, state_of}

-- A pending event's parts fit where they were read from.
pub pending_fits : (w : ℕ) (s : List ℕ) (i : ℕ) → Bytes s → Fitting w (pending_at w s i)
unfolding pending_at
pending_fits w s i b = record {
  mask_fits = b (pending_place w i);
  clock_fits = λ p. count p (dec_lt p 8);
  labels_fit = Bytes-take 8 (drop (pending_place w i + 8 + 8 * w) s) (Bytes-drop (pending_place w i + 8 + 8 * w) s b);
}
  where
    read : ℕ → ℕ
    read p = number s (pending_place w i + 8 + p * w) w

    count : (p : ℕ) → Dec (p < 8) → at (list_of 8 read) p < 256 ^ w
    count p (yes l) = rw (at-list_of 8 read p l) (number_lt s (pending_place w i + 8 + p * w) w b)
    count p (no l) = rw (at_beyond (list_of 8 read) p (rw (length-list_of 8 read) (omega arith))) (pow_256_pos w)

-- An event that was ready still is when a pending one is removed: the taken counts stay.
pub removed-ready : (w : ℕ) (s : List ℕ) (i : ℕ) (e : Event) → T (ready_in w s e) → T (ready_in w (removed w s i) e)
unfolding ready_in
removed-ready w s i e r = rw (removed-taken w s i) r

-- The values of the last of so many frontiers.
pub last_values : (w : ℕ) (window : List ℕ) (kept : ℕ) → 1 ≤ kept → get_or (map (λ (f : Frontier). f.values) (frontiers w window kept)) (kept - 1) 0 ≡ (frontier_at w window (kept - 1)).values
last_values w window kept l =
    get_d_mapped (λ (f : Frontier). f.values) (frontiers w window kept) (kept - 1) (frontier_at w window 0) 0 (omega (arith, length-frontiers w window kept))
    ∙ ap (λ (f : Frontier). f.values) (get_d_frontiers w window kept (kept - 1) (frontier_at w window 0) (omega arith))

-- ---- What a taken event leaves, by the parts of the code
module _ (w : ℕ) (s window : List ℕ) (n i : ℕ) where
  abbrev event : Event
  event = pending_at w s i

  abbrev old : List Frontier
  old = frontiers w window n

  abbrev new : List Frontier
  new = stepped (setting_in w s event) old

  module _ (kept : ℕ) (k : kept ≡ kept_after (setting_in w s event) old) where
    many : length new ≡ kept
    many = stepped_many (setting_in w s event) old ∙ sym k

    pub taken_bytes : (e : Event) (bytes : List ℕ) → e ≡ event → bytes ≡ counted w (removed w s i) e kept → bytes ≡ (decided w s window old (chosen i)).bytes
    unfolding decided
    taken_bytes e bytes q b = rw (b, q, many)

    pub taken_answer : (after : List ℕ) (lines : ℕ) (truth : Bool) (word : ℕ) → frontiers w after kept ≡ new → lines ≡ line_total s
        → truth ≡ bit (get_or (map (λ f. f.values) (frontiers w after kept)) (kept - 1) 0) (lines - 1) → word ≡ 256 * flag truth + 65536 * kept
        → word ≡ reply_word (decided w s window old (chosen i)).answer
    unfolding decided state_of reply_word
    taken_answer after lines truth word f l t u = rw (u, t, l, f, many)
