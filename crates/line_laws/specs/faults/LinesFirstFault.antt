-- The lines with a watch, start labels or an event: each is refused exactly by its first fault, and accepted exactly
-- if it has none.
use Rattle.std.specs.Prelude.{ℕ, ◌≡◌, refl, ◌↔◌, List}
use Rattle.std.proofs.Common.{arith}
use mathlib.Core.Logic.Iff
use Rattle.line_pieces.specs.Read.{Read, At, Refused}
use Rattle.line_pieces.specs.Reading.{limited}
use Rattle.lines.specs.WatchLine.{Watch, Refused as WatchRefused}
use Rattle.lines.specs.StartLine.{Start, Refused as StartRefused}
use Rattle.lines.specs.DidLine.{Did, Refused as DidRefused}
use Rattle.lines.specs.Words.{packed_word}
use Rattle.lines.specs.Lines.{watch_of, start_of, did_of, did_line}
use Rattle.line_laws.specs.Grammar.{watch_pieces, start_pieces, did_pieces, Names}
use Rattle.line_laws.specs.FirstFaults.{WatchFindsFirstFault, WatchAcceptsFaultless, StartFindsFirstFault, StartAcceptsFaultless, DidFindsFirstFault, DidAcceptsFaultless}
use Rattle.line_laws.specs.faults.GrammarTheorem.{line_read}
use Rattle.line_laws.specs.faults.FaultTheorem.{refused_exactly, read_exactly}
use Rattle.line_laws.specs.faults.LinePieces.{watch_ended, start_ended, did_ended, watch_read_lem, start_read_lem, named, did_read}
use Rattle.line_laws.specs.faults.NamedProcesses.{same_line}

-- ---- The line that opens

watch-refused : (k n i : ℕ) (r : Read) → (watch_of k r ≡ WatchRefused n i) ↔ (r ≡ Refused n i)
unfolding watch_of
watch-refused k n i (At j v) = (
  λ e. let z : ◌≡◌ {A = ℕ} 0 1 = cc in absurd (omega arith),
  λ e. let z : ◌≡◌ {A = ℕ} 0 1 = cc in
      absurd (omega arith),
)
watch-refused k n i (Refused m j) = (λ e. cc, λ e. cc)

watch-taken : (x : ℕ) (r : Read) → ((k : ℕ) × (room : ℕ) × (watch_of x r ≡ Watch k room))
    ↔ ((i : ℕ) × (v : ℕ) × (r ≡ At i v))
unfolding watch_of
watch-taken x (At i v) = (λ _. (i, v, refl), λ _. (x, v, refl))
watch-taken x (Refused m i) = (
  λ y. let e = y.2 in let z : ◌≡◌ {A = ℕ} 0 1 = cc in absurd (omega arith),
  λ y. let e = y.2 in
      let z : ◌≡◌ {A = ℕ} 0 1 = cc in absurd (omega arith),
)

pub watch-first_fault : WatchFindsFirstFault
watch-first_fault s n i =
    rw (watch_read_lem s) (Iff.trans (watch-refused _ n i _) (refused_exactly s watch_pieces watch_ended n i))

pub watch_faultless : WatchAcceptsFaultless
watch_faultless s = rw (watch_read_lem s) (Iff.trans (watch-taken _ _) (read_exactly s watch_pieces watch_ended))

-- ---- The line with the start labels

start_refused : (ls : List ℕ) (n i : ℕ) (r : Read) → (start_of ls r ≡ StartRefused n i) ↔ (r ≡ Refused n i)
unfolding start_of
start_refused ls n i (At j v) = (
  λ e. let z : ◌≡◌ {A = ℕ} 0 1 = cc in absurd (omega arith),
  λ e. let z : ◌≡◌ {A = ℕ} 0 1 = cc in
      absurd (omega arith),
)
start_refused ls n i (Refused m j) = (λ e. cc, λ e. cc)

start_taken : (ls : List ℕ) (r : Read) → ((labels : ℕ) × (start_of ls r ≡ Start labels))
    ↔ ((i : ℕ) × (v : ℕ) × (r ≡ At i v))
unfolding start_of
start_taken ls (At i v) = (λ _. (i, v, refl), λ _. (packed_word 256 ls, refl))
start_taken ls (Refused m i) = (
  λ y. let e = y.1 in let z : ◌≡◌ {A = ℕ} 0 1 = cc in absurd (omega arith),
  λ y. let e = y.2 in
      let z : ◌≡◌ {A = ℕ} 0 1 = cc in absurd (omega arith),
)

pub start_first_fault : StartFindsFirstFault
start_first_fault s k n i =
    rw (start_read_lem s k) (Iff.trans (start_refused _ n i _) (refused_exactly s (start_pieces k) (start_ended k) n i))

pub start_faultless : StartAcceptsFaultless
start_faultless s k = rw (start_read_lem s k) (Iff.trans (start_taken _ _) (read_exactly s (start_pieces k) (start_ended k)))

-- ---- An event's line

did_refused : (x : ℕ) (ps cs ls : List ℕ) (n i : ℕ) (r : Read) → (did_of x ps cs ls r ≡ DidRefused n i)
    ↔ (r ≡ Refused n i)
unfolding did_of
did_refused x ps cs ls n i (At j v) = (
  λ e. let z : ◌≡◌ {A = ℕ} 0 1 = cc in absurd (omega arith),
  λ e. let z : ◌≡◌ {A = ℕ} 0 1 = cc in
      absurd (omega arith),
)
did_refused x ps cs ls n i (Refused m j) = (λ e. cc, λ e. cc)

did_taken : (x : ℕ) (ps cs ls : List ℕ) (r : Read)
    → ((mask : ℕ) × (c01 : ℕ) × (c23 : ℕ) × (c45 : ℕ) × (c67 : ℕ) × (labels : ℕ)
    × (did_of x ps cs ls r ≡ Did mask c01 c23 c45 c67 labels))
    ↔ ((i : ℕ) × (v : ℕ) × (r ≡ At i v))
unfolding did_of
did_taken x ps cs ls (At i v) = (λ _. (i, v, refl), λ _. (_, _, _, _, _, _, refl))
did_taken x ps cs ls (Refused m i) = (
  λ y. let e = y.6 in let z : ◌≡◌ {A = ℕ} 0 1 = cc in absurd (omega arith),
  λ y. let e = y.2 in
      let z : ◌≡◌ {A = ℕ} 0 1 = cc in absurd (omega arith),
)

-- The line read, with the number of processes that its text names.
did_named : (s : List ℕ) (k m : ℕ) → Names s m
    → (ps cs ls : List ℕ) × (did_line s k ≡ did_of (named s) ps cs ls (limited s (line_read s (did_pieces k m))))
did_named s k m names =
    let w = did_read s k in (w.0, w.1, w.2, rw (same_line s k m names) w.3)

pub did_first_fault : DidFindsFirstFault
did_first_fault s k m n i names =
    let w = did_named s k m names in
    rw w.3 (Iff.trans (did_refused (named s) w.0 w.1 w.2 n i _)
    (refused_exactly s (did_pieces k m) (did_ended k m) n i))

pub did_faultless : DidAcceptsFaultless
did_faultless s k m names =
    let w = did_named s k m names in
    rw w.3 (Iff.trans (did_taken (named s) w.0 w.1 w.2 _) (read_exactly s (did_pieces k m) (did_ended k m)))
