-- The statements on the faults of the program's lines, for faults that are defined apart from any reader (01, Turned
-- back, from the input).
use Rattle.std.specs.Prelude.{ℕ, ◌≡◌, ◌↔◌, List}
use Rattle.lines.specs.WatchLine.{Watch, Refused as WatchRefused}
use Rattle.lines.specs.StartLine.{Start, Refused as StartRefused}
use Rattle.lines.specs.DidLine.{Did, Refused as DidRefused}
use Rattle.lines.specs.RuleLine.{Rule, Refused as RuleRefused}
use Rattle.lines.specs.Lines.{watch_line, start_line, did_line, rule_line}
use Rattle.line_laws.specs.Grammar.{watch_pieces, start_pieces, did_pieces, Names}
use Rattle.line_laws.specs.Fault.{LineFault, FirstLineFault}
use Rattle.line_laws.specs.RuleLineFault.{RuleFault, RuleFirstFault}

-- Each line is refused exactly by its first fault, and accepted exactly if it has none (proved in LinesFirstFault).

abbrev pub WatchFindsFirstFault : Type 0
WatchFindsFirstFault = (s : List ℕ) (n i : ℕ) → (watch_line s ≡ WatchRefused n i) ↔ FirstLineFault n watch_pieces s i

abbrev pub WatchAcceptsFaultless : Type 0
WatchAcceptsFaultless =
    (s : List ℕ) → ((k : ℕ) × (room : ℕ) × (watch_line s ≡ Watch k room)) ↔ ((n i : ℕ) → LineFault n watch_pieces s i → ⊥)

abbrev pub StartFindsFirstFault : Type 0
StartFindsFirstFault = (s : List ℕ) (k n i : ℕ) → (start_line s k ≡ StartRefused n i)
    ↔ FirstLineFault n (start_pieces k) s i

abbrev pub StartAcceptsFaultless : Type 0
StartAcceptsFaultless =
    (s : List ℕ) (k : ℕ)
    → ((labels : ℕ) × (start_line s k ≡ Start labels)) ↔ ((n i : ℕ) → LineFault n (start_pieces k) s i → ⊥)

-- An event's line, by the number m of processes that its text names; there is one for each line (names-some in
-- NamedProcesses).
abbrev pub DidFindsFirstFault : Type 0
DidFindsFirstFault =
    (s : List ℕ) (k m n i : ℕ) → Names s m → (did_line s k ≡ DidRefused n i) ↔ FirstLineFault n (did_pieces k m) s i

abbrev pub DidAcceptsFaultless : Type 0
DidAcceptsFaultless =
    (s : List ℕ) (k m : ℕ) → Names s m
    → ((mask : ℕ) × (c01 : ℕ) × (c23 : ℕ) × (c45 : ℕ) × (c67 : ℕ) × (labels : ℕ)
    × (did_line s k ≡ Did mask c01 c23 c45 c67 labels))
    ↔ ((n i : ℕ) → LineFault n (did_pieces k m) s i → ⊥)

abbrev pub EachLineNames : Type 0
EachLineNames = (s : List ℕ) → (m : ℕ) × Names s m

-- The rule's line (proved in RuleLineFirstFault).

abbrev pub RuleLineFindsFirstFault : Type 0
RuleLineFindsFirstFault = (s : List ℕ) (k n i : ℕ) → (rule_line s k ≡ RuleRefused n i) ↔ RuleFirstFault n s k i

abbrev pub RuleLineAcceptsFaultless : Type 0
RuleLineAcceptsFaultless =
    (s : List ℕ) (k : ℕ)
    → ((start : ℕ) × (end : ℕ) × (rule_line s k ≡ Rule start end)) ↔ ((turn n i : ℕ) → RuleFault turn n s k i → ⊥)
