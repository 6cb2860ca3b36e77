-- What one process adds to what is gathered, turn by turn, in the shape of the code.
use Prim.Native.Nat.{ℕ, ◌+◌, ◌≤◌, ◌<◌}
use native.Mathlib.Numerals.{add-one}
use mathlib.Core.Path.{◌≡◌, refl, sym, ap, ◌∙◌}
use mathlib.Core.Bool.{true, false}
use mathlib.Core.List.{List}
use lib.Bits.{bit_or, bit_and}
use lib.ListN.{get_or, set, length}
use borrow.Author.Tests.{lt-ltb, le-ltb}
use Rattle.clocks.specs.Event.{involved, minus}
use Rattle.clocks.specs.Counts.{at, list_of}
use Rattle.frontiers.specs.declared.Frontier.{Frontier}
use Rattle.lookup.specs.Seek.{seek, keys_of}
use Rattle.pactl.specs.Judge.{judge}
use Rattle.window_step.specs.declared.Found.{Found}
use Rattle.window.specs.Step.{Setting, Gathered, sought, without_last, consider, gathered, values_at, advanced, judged_by}
use Rattle.window_step.specs.Gathering.{sought_with, gathered_of, gathered_from, hints_from, fresh_from}

module _ (s : Setting) (mask : ℕ) (h : s.stored ≡ 8) (v : s.event.mask ≡ mask) (laid : List Frontier) (g : Frontier) (p : ℕ) (k : Gathered) where
  sought_with_lem : sought s g p ≡ sought_with mask (get_or g.masks p 0) p
  unfolding sought involved
  sought_with_lem = rw (h, v)

  without_last_lem : without_last s g p ≡ list_of 8 (minus (get_or g.masks p 0) (at g.counts))
  unfolding without_last
  without_last_lem = rw h

  -- Not sought: nothing changes.
  pub consider_passed : sought_with mask (get_or g.masks p 0) p ≡ false → consider s laid g p k ≡ k
  unfolding consider
  consider_passed e = rw (sought_with_lem ∙ e)

  module _ (e : sought_with mask (get_or g.masks p 0) p ≡ true) (key : List ℕ) (q : key ≡ list_of 8 (minus (get_or g.masks p 0) (at g.counts)))
      (place : ℕ) (l : place ≡ seek (keys_of laid) key (get_or k.hints p 0)) where
    ended : seek (keys_of laid) (without_last s g p) (get_or k.hints p 0) ≡ place
    ended = rw (without_last_lem, ← q) (sym l)

    -- Sought and not found: nothing changes either.
    pub consider_missing : length laid ≤ place → consider s laid g p k ≡ k
    unfolding consider
    consider_missing n = rw (sought_with_lem ∙ e, ended, le-ltb place (length laid) n)

    -- Found: its values are counted in.
    pub consider-found : place < length laid
        → consider s laid g p k ≡ record { ors = bit_or k.ors (values_at laid place); ands = bit_and k.ands (values_at laid place); hints = set k.hints p (place + 1) }
    unfolding consider
    consider-found n = rw (sought_with_lem ∙ e, ended, lt-ltb place (length laid) n)

-- One more process.
pub gathered_more : (s : Setting) (laid : List Frontier) (hints : List ℕ) (g : Frontier) (p : ℕ) → gathered s laid hints g (p + 1) ≡ consider s laid g p (gathered s laid hints g p)
unfolding gathered
gathered_more s laid hints g p = rw add-one

pub gathered_none : (s : Setting) (laid : List Frontier) (hints : List ℕ) (g : Frontier) → gathered s laid hints g 0 ≡ record { ors = g.values; ands = g.values; hints = hints }
unfolding gathered
gathered_none s laid hints g = refl

-- ---- A new frontier by the parts of the code: what it came from, what was gathered, how it was judged
module _ (s : Setting) (laid : List Frontier) (hints : List ℕ) (f g : Frontier) (r : Found) (a : g ≡ advanced s f) (e : gathered_of r ≡ gathered s laid hints g s.processes) where
  gathered_is : gathered_of r ≡ gathered_from s laid hints f
  gathered_is = e ∙ ap (λ (x : Frontier). gathered s laid hints x s.processes) a

  pub hints_are : r.hints ≡ hints_from s laid hints f
  hints_are = ap (λ (k : Gathered). k.hints) gathered_is

  pub fresh_is : (v : ℕ) → v ≡ judge g.labels r.ors r.ands true s.table
      → record { counts = g.counts; labels = g.labels; masks = g.masks; values = v } ≡ fresh_from s laid hints f
  unfolding judged_by
  fresh_is v q = rw q (ap (λ (x : Frontier). judged_by s x (gathered_of r)) a ∙ ap (judged_by s (advanced s f)) gathered_is)
