-- The watch at the end of a list of calls after an accepted open, and the form of what is said of every such list.
use Rattle.std.specs.Prelude.{ℕ, ◌<◌, ◌≡◌, Bool, true, false, length, replicate}
use mathlib.Core.List.{List, ◌∷◌, Memᴰ, ◌++◌}
use Rattle.codec.specs.Bit.{bit}
use Rattle.clocks.specs.Counts.{at}
use Rattle.call_open.specs.Open.{open_call}
use Rattle.answers.specs.Answer.{state, Answer, nothing_ready}
use Rattle.demands.specs.Ledger.{occurrences}
use Rattle.demands.specs.Run.{Call, Passed, Watch, run, opened}
use Rattle.clocks.specs.declared.Event.{Event}
use Rattle.rules.specs.Formula.{Formula}
use Rattle.rules.specs.Text.{text_of}
use Rattle.rules.specs.Reader.{read_rule, formed}
use Rattle.clocks.specs.Event.{Cut, involved}
use Rattle.demands.specs.World.{Open}
use Rattle.refusals.specs.Refusals.{bad_window_length}
use Rattle.call_take.specs.Take.{take_capped, Taken}

-- Open accepted the text, the number of processes and the start labels (01: answers as for a taken event).
abbrev pub Accepts : (w : ℕ) (text : List ℕ) (k : ℕ) (labels s window : List ℕ) → Type 0
Accepts w text k labels s window =
    (counts : List ℕ) × (truth : Bool) × (kept : ℕ)
    × ((open_call w text k labels s window).answer ≡ state counts truth kept)

-- The start labels are such as the machine passes: eight bytes.
abbrev pub EightBytes : (labels : List ℕ) → Type 0
EightBytes labels = (length labels ≡ 8) × ((p : ℕ) → at labels p < 256)

-- Every call's arguments are such as the machine passes.
abbrev pub AllPassed : (w : ℕ) (cs : List Call) → Type 0
AllPassed w cs = (c : Call) → Memᴰ c cs → Passed w c

-- The watch at the end of a list of calls after open.
abbrev pub at_end : (w : ℕ) (text : List ℕ) (k : ℕ) (labels s window : List ℕ) (cs : List Call) → Watch
at_end w text k labels s window cs = run w cs (opened (open_call w text k labels s window))

-- The last answer was "nothing ready".
abbrev pub EndsQuiet : (W : Watch) → Type 0
EndsQuiet W = (prior : List Answer) × (W.answers ≡ nothing_ready ∷ prior)

-- Each event, by mask, clock and labels, was accepted as often in one list as in the other.
abbrev pub SameAccepted : (Y Z : Watch) → Type 0
SameAccepted Y Z = (e : Event) → occurrences e Y.accepted ≡ occurrences e Z.accepted

-- Each process is closed in both or in neither (02 [5]).
abbrev pub SameClosed : (Y Z : Watch) → Type 0
SameClosed Y Z = (p : ℕ) → bit Y.ledger.closed p ≡ bit Z.ledger.closed p

-- Every process that takes part in the event is open.
abbrev pub NamesOpen : (Z : Watch) (e : Event) → Type 0
NamesOpen Z e = (p : ℕ) → involved e p ≡ true → Open Z.ledger.closed p

-- Some process that takes part is closed.
abbrev pub NamesClosed : (Z : Watch) (e : Event) → Type 0
NamesClosed Z e = (p : ℕ) × (involved e p ≡ true) × (bit Z.ledger.closed p ≡ true)

-- For every list of calls after an accepted open, with the formula f that the reader reads: P of the width of a count,
-- the number of processes, f, the start labels and the watch at the list's end.
abbrev pub AfterEveryList : (P : ℕ → ℕ → Formula → Cut → Watch → Type 0) → Type 0
AfterEveryList P =
    (w : ℕ) → 0 < w → (text : List ℕ) (k : ℕ) (labels : List ℕ) → EightBytes labels
    → (s window : List ℕ) → Accepts w text k labels s window → (cs : List Call) → AllPassed w cs
    → (f : Formula) × (i : ℕ) × (read_rule text k ≡ formed i f) × (text_of f ≡ text)
    × P w k f (at labels) (at_end w text k labels s window cs)

-- ---- The next take

-- The window that it is lent: with zeros appended.
abbrev pub lent_window : (Z : Watch) (more : ℕ) → List ℕ
lent_window Z more = Z.window ++ replicate more 0

-- Window and scratch have right lengths: 6 does not come.
abbrev pub RightLengths : (w : ℕ) (Z : Watch) (more : ℕ) (scratch : List ℕ) → Type 0
RightLengths w Z more scratch =
    (bad_window_length w (length (lent_window Z more)) ≡ false) × (length scratch ≡ length (lent_window Z more))

-- What the next take, under a cap, answers and leaves.
abbrev pub next_take : (w : ℕ) (Z : Watch) (cap more : ℕ) (scratch : List ℕ) → Taken
next_take w Z cap more scratch = take_capped w cap Z.bytes (lent_window Z more) scratch
