-- The starred examples of 01 as one list, on the calls' definitions: from a rule's text and the bytes that open is
-- lent. Proved in lists/Examples.
use Rattle.std.specs.Prelude.{ℕ, zero, suc, ◌≡◌, Bool, true, false, not, ◌&&◌, List, [], ◌∷◌, map, ◌++◌, replicate}
use Rattle.codec.specs.Ascii.{ascii}
use Rattle.codec.specs.Bit.{bit}
use Rattle.clocks.specs.declared.Event.{Event}
use Rattle.clocks.specs.History.{taken}
use Rattle.clocks.specs.Counts.{at, list_of}
use Rattle.clocks.specs.Tested.{consistent}
use Rattle.clocks.specs.Redundant.{redundant}
use Rattle.window.specs.Step.{filtered}
use Rattle.frontiers.specs.Bytes.{frontiers}
use Rattle.records.specs.Record.{kept_count}
use Rattle.answers.specs.Answer.{Answer, turned_back, state, held, again, process_closed}
use Rattle.demands.specs.Run.{Call, offers, takes, closes, Watch}
use Rattle.demands.specs.EveryList.{at_end}

-- ---- The watches

-- Eight counts or label bytes, 0 from the fourth on.
abbrev pub eight : (a b c : ℕ) → List ℕ
eight a b c = a ∷ b ∷ c ∷ 0 ∷ 0 ∷ 0 ∷ 0 ∷ 0 ∷ []

-- The watch of k processes after a list of calls: opened with a rule's text, all labels 0, and room for five frontiers.
abbrev pub watch : (k : ℕ) (rule : List ℕ) (calls : List Call) → Watch
watch k rule calls = at_end 2 rule k (eight 0 0 0) (replicate 1368 0) (replicate 200 0) calls

-- The cuts that its window keeps, as it stands there.
abbrev pub kept_cuts : (W : Watch) → List (List ℕ)
kept_cuts W = map (λ f. f.counts) (frontiers 2 W.window (kept_count W.bytes))

-- The truth of a line at each of them, as the window has it.
abbrev pub truths : (line : ℕ) (W : Watch) → List Bool
truths line W = map (λ f. bit f.values line) (frontiers 2 W.window (kept_count W.bytes))

-- An event is offered, and then there is a take.
abbrev pub comes : (e : Event) → List Call
comes e = offers e.mask e.clock e.labels ∷ takes 1024 0 (replicate 200 0) ∷ []

-- Proposition 0 held at both processes at once, in some order of the events or in all of them.
abbrev pub some_order : List ℕ
some_order = ascii "(ep (and (at 0 0) (at 1 0)))"

abbrev pub every_order : List ℕ
every_order = ascii "(ap (and (at 0 0) (at 1 0)))"

-- 01's events: two of process 0, one of process 1.
abbrev pub a1 : List Call
a1 = comes (record { mask = 1; clock = eight 1 0 0; labels = eight 1 0 0 })

abbrev pub a2 : List Call
a2 = comes (record { mask = 1; clock = eight 2 0 0; labels = eight 0 0 0 })

abbrev pub b1 : List Call
b1 = comes (record { mask = 2; clock = eight 0 1 0; labels = eight 0 1 0 })

-- The first of process 0 sent twice, taken, and sent once more.
abbrev pub sent_a1 : Call
sent_a1 = offers 1 (eight 1 0 0) (eight 1 0 0)

abbrev pub a1_twice : List Call
a1_twice = sent_a1 ∷ sent_a1 ∷ takes 1024 0 (replicate 200 0) ∷ sent_a1 ∷ []

-- At (2 1) process 1 is closed, and its event is sent once more.
abbrev pub b_shuts : List Call
b_shuts = closes 1 ∷ offers 2 (eight 0 1 0) (eight 0 1 0) ∷ []

-- An event of both; two that process 0 may have next, one of which knows of a message that process 1 left; and one that
-- may come after that, but has forgotten it.
abbrev pub both : List Call
both = comes (record { mask = 3; clock = eight 3 2 0; labels = eight 0 0 0 })

abbrev pub a3 : List Call
a3 = comes (record { mask = 1; clock = eight 3 0 0; labels = eight 0 0 0 })

abbrev pub a3_knows : List Call
a3_knows = comes (record { mask = 1; clock = eight 3 1 0; labels = eight 0 0 0 })

abbrev pub a4_forgets : List Call
a4_forgets = comes (record { mask = 1; clock = eight 4 0 0; labels = eight 0 0 0 })

-- Of three processes, an event of 0 and 1, and then one of 1 and 2.
abbrev pub first : Event
first = record { mask = 3; clock = eight 1 1 0; labels = eight 0 0 0 }

abbrev pub second : Event
second = record { mask = 6; clock = eight 1 2 1; labels = eight 0 0 0 }

-- ---- What source 000 would keep

-- Every list of counts that is nowhere above a given one.
unfoldable pub headed : (n : ℕ) (cs : List (List ℕ)) → List (List ℕ)
headed zero cs = map (λ c. 0 ∷ c) cs
headed (suc n) cs = headed n cs ++ map (λ c. suc n ∷ c) cs

unfoldable pub vectors : (xs : List ℕ) → List (List ℕ)
vectors [] = [] ∷ []
vectors (n ∷ ns) = headed n (vectors ns)

-- The consistent cuts of a history of k processes that the source's condition does not drop.
unfoldable pub source_keeps : (k : ℕ) (ts : List Event) → List (List ℕ)
source_keeps k ts = filtered (λ c. consistent 8 ts (at c) && not (redundant k ts (at c))) (vectors (list_of 8 (taken ts)))

-- ---- The examples

-- The answers to a1, a2, b1 and to b1, a1, a2, newest first.
abbrev pub answers_ab : List Answer
answers_ab =
    state (eight 2 1 0) true 4 ∷ held 1 ∷ state (eight 2 0 0) false 3 ∷ held 1 ∷ state (eight 1 0 0) false 2 ∷ held 1
    ∷ state (eight 0 0 0) false 1 ∷ []

abbrev pub answers_ba : List Answer
answers_ba =
    state (eight 2 1 0) true 4 ∷ held 1 ∷ state (eight 1 1 0) true 3 ∷ held 1 ∷ state (eight 0 1 0) false 2 ∷ held 1
    ∷ state (eight 0 0 0) false 1 ∷ []

pub record StarredExamples : Type 0 where
  -- a1, a2, b1 end at (2 1): yes, 4 kept. The cut (1 1), which makes it so, is one of them, though the watch never
  -- stood there.
  pub arrival : (watch 2 some_order (a1 ++ a2 ++ b1)).answers ≡ answers_ab
  pub arrival_cuts : kept_cuts (watch 2 some_order (a1 ++ a2 ++ b1))
      ≡ (eight 0 1 0 ∷ eight 1 1 0 ∷ eight 2 0 0 ∷ eight 2 1 0 ∷ [])
  -- line 6 is the "and", line 7 the rule: of these cuts the "and" is true at (1 1) alone, and so the rule there and at
  -- (2 1), which comes after it
  pub arrival_and : truths 6 (watch 2 some_order (a1 ++ a2 ++ b1)) ≡ (false ∷ true ∷ false ∷ false ∷ [])
  pub arrival_rule : truths 7 (watch 2 some_order (a1 ++ a2 ++ b1)) ≡ (false ∷ true ∷ false ∷ true ∷ [])
  -- b1, a1, a2: no at (0 1), yes at (1 1) and (2 1), with 2, 3 and 4 kept; in the end the window is the same, byte for
  -- byte.
  pub other_order : (watch 2 some_order (b1 ++ a1 ++ a2)).answers ≡ answers_ba
  pub same_window : (watch 2 some_order (a1 ++ a2 ++ b1)).window ≡ (watch 2 some_order (b1 ++ a1 ++ a2)).window
  -- then an event of both processes, with clock (3 2): yes, 1 kept.
  pub then_both : (watch 2 some_order (b1 ++ a1 ++ a2 ++ both)).answers ≡ state (eight 3 2 0) true 1 ∷ held 1 ∷ answers_ba
  -- at (2 1), an event of process 0 alone, with clock (3 0): yes, 5 kept.
  pub alone : (watch 2 some_order (a1 ++ a2 ++ b1 ++ a3)).answers ≡ state (eight 3 1 0) true 5 ∷ held 1 ∷ answers_ab
  -- with clock (3 1), so that it knows of b1: yes, 4 kept, as (3 0) is no consistent cut then (02 [2]).
  pub knows : (watch 2 some_order (a1 ++ a2 ++ b1 ++ a3_knows)).answers
      ≡ state (eight 3 1 0) true 4 ∷ held 1 ∷ answers_ab
  pub knows_cuts : kept_cuts (watch 2 some_order (a1 ++ a2 ++ b1 ++ a3_knows))
      ≡ (eight 0 1 0 ∷ eight 1 1 0 ∷ eight 2 1 0 ∷ eight 3 1 0 ∷ [])
  -- after that, process 0 with clock (4 0), which no longer knows of b1: 35.
  pub forgets : (watch 2 some_order (a1 ++ a2 ++ b1 ++ a3_knows ++ a4_forgets)).answers
      ≡ turned_back 35 0 ∷ held 1 ∷ state (eight 3 1 0) true 4 ∷ held 1 ∷ answers_ab
  -- a1 twice: again while it is pending, 31 once it is taken (02 [1]).
  pub sent_again : (watch 2 (ascii "(at 0 0)") a1_twice).answers
      ≡ (turned_back 31 0 ∷ state (eight 1 0 0) true 2 ∷ again ∷ held 1 ∷ state (eight 0 0 0) false 1 ∷ [])
  -- process 1 closed at (2 1): 2 kept, those with both events of process 0; its event sent again is 42 (02 [5]).
  pub shuts : (watch 2 some_order (a1 ++ a2 ++ b1 ++ b_shuts)).answers ≡ turned_back 42 0 ∷ process_closed 2 ∷ answers_ab
  pub shuts_cuts : kept_cuts (watch 2 some_order (a1 ++ a2 ++ b1 ++ b_shuts)) ≡ (eight 2 0 0 ∷ eight 2 1 0 ∷ [])
  -- with ap for ep: no at (2 1), and at every state before.
  pub in_every_order : (watch 2 every_order (a1 ++ a2 ++ b1)).answers
      ≡ (state (eight 2 1 0) false 4 ∷ held 1 ∷ state (eight 2 0 0) false 3 ∷ held 1 ∷ state (eight 1 0 0) false 2
      ∷ held 1 ∷ state (eight 0 0 0) false 1 ∷ [])
  -- at the start, where nothing precedes: ap is no, ay is yes.
  pub ap_start : (watch 2 (ascii "(ap (at 0 0))") []).answers ≡ state (eight 0 0 0) false 1 ∷ []
  pub ay_start : (watch 2 (ascii "(ay (at 0 0))") []).answers ≡ state (eight 0 0 0) true 1 ∷ []
  -- ey after a1 and b1: yes at (1 1), no at (1 0).
  pub ey_next : (watch 2 (ascii "(ey (at 0 0))") (a1 ++ b1)).answers
      ≡ (state (eight 1 1 0) true 3 ∷ held 1 ∷ state (eight 1 0 0) false 2 ∷ held 1 ∷ state (eight 0 0 0) false 1 ∷ [])
  -- three processes: 2 kept at the end, (1 1 0) and (1 2 1); by the source's condition the cut of zeros would be kept
  -- too.
  pub three : (watch 3 some_order (comes first ++ comes second)).answers
      ≡ (state (eight 1 2 1) false 2 ∷ held 1 ∷ state (eight 1 1 0) false 2 ∷ held 1 ∷ state (eight 0 0 0) false 1 ∷ [])
  pub three_cuts : kept_cuts (watch 3 some_order (comes first ++ comes second)) ≡ (eight 1 1 0 ∷ eight 1 2 1 ∷ [])
  pub three_source : source_keeps 3 (watch 3 some_order (comes first ++ comes second)).ledger.history
      ≡ (eight 0 0 0 ∷ eight 1 1 0 ∷ eight 1 2 1 ∷ [])
