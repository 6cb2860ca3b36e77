-- What the code gathers for a new frontier, in the words of the definition.
use Rattle.std.specs.Prelude.{ℕ, Bool, not, ◌&&◌, List, eqb}
use Rattle.std.specs.Int.Count.{count_trailing_zeros}
use Rattle.codec.specs.Bit.{bit}
use Rattle.window_step.specs.declared.Found.{Found}
use Rattle.frontiers.specs.declared.Frontier.{Frontier}
use Rattle.window.specs.Step.{Setting, Gathered, advanced, gathered, judged_by}

-- Process p is not in the event's mask, and is the lowest one in the mask of its last event.
abbrev pub sought_with : ℕ → ℕ → ℕ → Bool
sought_with mask last p = not (bit mask p) && (not (eqb last 0) && eqb (count_trailing_zeros 8 last) p)

-- What the code gathers, in the words of the definition.
abbrev pub gathered_of : Found → Gathered
gathered_of r = record { ors = r.ors; ands = r.ands; hints = r.hints }

-- What is gathered for the frontier that the event leads to from f, once the frontiers of a list are laid down.
abbrev pub gathered_from : Setting → List Frontier → List ℕ → Frontier → Gathered
gathered_from s laid hints f = gathered s laid hints (advanced s f) s.processes

-- Where the next look-ups begin.
abbrev pub hints_from : Setting → List Frontier → List ℕ → Frontier → List ℕ
hints_from s laid hints f = (gathered_from s laid hints f).hints

-- That frontier, judged.
abbrev pub fresh_from : Setting → List Frontier → List ℕ → Frontier → Frontier
fresh_from s laid hints f = judged_by s (advanced s f) (gathered_from s laid hints f)
