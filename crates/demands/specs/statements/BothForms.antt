-- The same calls on watches of both forms (02 [6]): they answer alike, and at the end the one watch is the other,
-- moved; so a moved watch goes on as the one that was read. Proved in forms/BothForms.
use Rattle.std.specs.Prelude.{ℕ, ◌*◌, ◌<◌, ◌≡◌, List, [], ◌∷◌, length}
use Rattle.frontiers.specs.Bytes.{frontier_length}
use Rattle.call_move.specs.Parts.{record_parts, window_parts}
use Rattle.call_move.specs.Move.{moved}
use Rattle.demands.specs.Mislent.{Mislent, answer_to}
use Rattle.demands.specs.Run.{Call, offers, takes, finds, closes, mislends, Watch, run}
use Rattle.demands.specs.EveryList.{Accepts, EightBytes, AllPassed, at_end}
use Rattle.demands.specs.Written.{Written, moved_to}
use Rattle.demands.specs.statements.Moves.{next_move}

-- A call for counts of v bytes and one for counts of w bytes: the same, but that what a take is lent, zeros and scratch,
-- has as many frontiers in the one form as in the other, and that the scratch may hold anything. Calls that were lent
-- other buffers are of the same answer.
abbrev pub SameCall : (v w : ℕ) (c d : Call) → Type 0
SameCall v w (offers mask clock labels) d = d ≡ offers mask clock labels
SameCall v w (takes cap more scratch) d =
    (added long : ℕ) × (scratch' : List ℕ) × (more ≡ added * frontier_length v)
    × (length scratch ≡ long * frontier_length v) × (length scratch' ≡ long * frontier_length w)
    × (d ≡ takes cap (added * frontier_length w) scratch')
SameCall v w (finds line) d = d ≡ finds line
SameCall v w (closes p) d = d ≡ closes p
SameCall v w (mislends m) d = (n : Mislent) × (d ≡ mislends n) × (answer_to v m ≡ answer_to w n)

abbrev pub SameCalls : (v w : ℕ) (cs ds : List Call) → Type 0
SameCalls v w [] ds = ds ≡ []
SameCalls v w (c ∷ cs) ds = (d : Call) × (rest : List Call) × (ds ≡ d ∷ rest) × SameCall v w c d × SameCalls v w cs rest

-- What is shown of the two watches at the ends: Y with counts of v bytes, Z with counts of w bytes.
pub record SameInBoth (v w : ℕ) (Y Z : Watch) : Type 0 where
  pub room : ℕ
  pub same_answers : Y.answers ≡ Z.answers
  pub same_ledger : Y.ledger ≡ Z.ledger
  pub same_accepted : Y.accepted ≡ Z.accepted
  -- the windows have room for as many frontiers, and record and window of the one are those of the other, moved
  pub window_length : length Y.window ≡ room * frontier_length v
  pub other_length : length Z.window ≡ room * frontier_length w
  pub record_moved : moved v w record_parts Y.bytes ≡ Z.bytes
  pub window_moved : moved v w (window_parts room) Y.window ≡ Z.window

abbrev pub BothFormsAlike : Type 0
BothFormsAlike =
    (v w : ℕ) → 0 < v → 0 < w → (text : List ℕ) (k : ℕ) (labels : List ℕ) → EightBytes labels
    → (s window s' window' : List ℕ) (room : ℕ)
    → length window ≡ room * frontier_length v → length window' ≡ room * frontier_length w
    → Accepts v text k labels s window → Accepts w text k labels s' window'
    → (cs ds : List Call) → AllPassed v cs → AllPassed w ds → SameCalls v w cs ds
    → SameInBoth v w (at_end v text k labels s window cs) (at_end w text k labels s' window' ds)

-- The same calls from a move on, Y being the watch that was read.
abbrev pub MovedGoesOn : Type 0
MovedGoesOn =
    (v w : ℕ) → 0 < w → (text : List ℕ) (k : ℕ) (labels : List ℕ) → EightBytes labels
    → (Y : Watch) → Written text k labels v Y → (t target : List ℕ) → (next_move v w Y t target).number ≡ 0
    → (cs ds : List Call) → AllPassed v cs → AllPassed w ds → SameCalls v w cs ds
    → SameInBoth v w (run v cs Y) (run w ds (moved_to (next_move v w Y t target) Y))
