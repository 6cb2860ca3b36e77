-- The step of a window for an event (01, The window; source 000, section 3): the frontiers that stay and the advanced
-- ones, merged by counts, each new one judged from the frontiers laid down before it.
use Rattle.std.specs.Prelude.{ℕ, zero, suc, ◌+◌, Bool, true, cond, not, ◌&&◌, ◌||◌, List, [], ◌∷◌, ◌++◌, map, length, replicate, ◌==◌, bit_and, bit_or, nat_eq, nat_le, nat_lt, slice_index, slice_set}
use Rattle.std.specs.Int.Count.{count_trailing_zeros}
use Rattle.pactl.specs.declared.Line.{Line}
use Rattle.clocks.specs.declared.Event.{Event}
use Rattle.codec.specs.Bit.{bit}
use Rattle.clocks.specs.Event.{Cut, involved, apply, minus}
use Rattle.clocks.specs.Bounded.{all_below, any_below}
use Rattle.clocks.specs.Counts.{at, list_of}
use Rattle.clocks.specs.Tested.{ready}
use Rattle.pactl.specs.Judge.{judge}
use Rattle.frontiers.specs.declared.Frontier.{Frontier}
use Rattle.lookup.specs.Seek.{seek, keys_of}
use Rattle.lookup.specs.Order.{before}

-- What a step is taken in: how many processes are stored, how many there are, which are closed, the rule's table, the
-- event, and the taken counts with it.
pub record Setting : Type 0 where
  pub stored : ℕ
  pub processes : ℕ
  pub closed : ℕ
  pub table : List Line
  pub event : Event
  pub reached : Cut

-- ---- Which frontiers stay, which are advanced

-- Counts that are kept, where so many processes are stored and k there are, by the mask of the closed ones and the
-- taken counts: some open process has all its taken events there, or they are the largest (01: dropped; 02 [5]).
abbrev pub kept_by : (stored k closed : ℕ) (reached counts : Cut) → Bool
kept_by stored k closed reached counts =
    any_below k (λ p. not (bit closed p) && counts p == reached p)
    || all_below stored (λ p. nat_eq (counts p) (reached p))

-- The frontier is kept with the event taken.
unfoldable pub stays : (s : Setting) (f : Frontier) → Bool
stays s f = kept_by s.stored s.processes s.closed s.reached (at f.counts)

-- The event is enabled at the frontier.
unfoldable pub enabled_at : (s : Setting) (f : Frontier) → Bool
enabled_at s f = ready s.stored s.event (at f.counts)

-- The frontier that the event leads to, not judged yet: it carries the values of the one that it came from.
unfoldable pub advanced : (s : Setting) (f : Frontier) → Frontier
advanced s f = record {
  counts = list_of s.stored (apply s.event (at f.counts));
  labels = list_of s.stored (λ p. cond (involved s.event p) (slice_index s.event.labels p) (slice_index f.labels p));
  masks = list_of s.stored (λ p. cond (involved s.event p) s.event.mask (slice_index f.masks p));
  values = f.values;
}

-- The elements that pass a test.
unfoldable pub filtered : {A : Type 0} → (t : A → Bool) → (xs : List A) → List A
filtered t [] = []
filtered t (x ∷ xs) = cond (t x) (x ∷ filtered t xs) (filtered t xs)

-- ---- The merge

-- A frontier to be laid down: one that stays, or a new one to be judged.
pub data Slot : Type 0 where
  staying : (f : Frontier) → Slot
  fresh : (f : Frontier) → Slot

unfoldable pub slot_counts : (slot : Slot) → List ℕ
slot_counts (staying f) = f.counts
slot_counts (fresh f) = f.counts

-- x and what is merged after it, where y and those behind it may come first; x first where keys are equal.
unfoldable pub merge_into : {A : Type 0} → (key : A → List ℕ) (x : A) (rest : List A → List A) → (xs : List A) → List A
merge_into key x rest [] = x ∷ rest []
merge_into key x rest (y ∷ ys) = cond (before (key y) (key x)) (y ∷ merge_into key x rest ys) (x ∷ rest (y ∷ ys))

-- Two lists in one, by their keys; the first list's elements first where keys are equal.
unfoldable pub merge : {A : Type 0} → (key : A → List ℕ) → (xs : List A) → (ys : List A) → List A
merge key [] ys = ys
merge key (x ∷ xs) ys = merge_into key x (merge key xs) ys

unfoldable pub slots : (s : Setting) (fs : List Frontier) → List Slot
slots s fs = merge slot_counts (map staying (filtered (stays s) fs)) (map (λ f. fresh (advanced s f)) (filtered (enabled_at s) fs))

-- ---- Judging a new frontier

-- What is gathered from the cuts that precede: the OR and the AND of their values, and where each process's next
-- look-up begins.
pub record Gathered : Type 0 where
  pub ors : ℕ
  pub ands : ℕ
  pub hints : List ℕ

-- Process p's last event in the new frontier g may lead to it: it is not the event itself, and p is the first of its
-- processes.
unfoldable pub sought : (s : Setting) (g : Frontier) (p : ℕ) → Bool
sought s g p = not (involved s.event p) && (not (slice_index g.masks p == 0) && count_trailing_zeros s.stored (slice_index g.masks p) == p)

-- The counts of the new frontier less that event.
unfoldable pub without_last : (s : Setting) (g : Frontier) (p : ℕ) → List ℕ
without_last s g p = list_of s.stored (minus (slice_index g.masks p) (at g.counts))

-- The values of a frontier among those laid down.
abbrev pub values_at : (laid : List Frontier) (i : ℕ) → ℕ
values_at laid i = slice_index (map (λ f. f.values) laid) i

-- Process p is considered: looked up from its hint, and counted in where it is found; its next look-up begins behind
-- that place.
unfoldable pub consider : (s : Setting) (laid : List Frontier) (g : Frontier) (p : ℕ) (w : Gathered) → Gathered
consider s laid g p w =
    let place = seek (keys_of laid) (without_last s g p) (slice_index w.hints p) in
    cond (sought s g p && nat_lt place (length laid))
    (record { ors = bit_or w.ors (values_at laid place); ands = bit_and w.ands (values_at laid place); hints = slice_set w.hints p (place + 1) })
    w

-- The first n processes are considered; the frontier that g came from precedes it always.
unfoldable pub gathered : (s : Setting) (laid : List Frontier) (hints : List ℕ) (g : Frontier) (n : ℕ) → Gathered
gathered s laid hints g zero = record { ors = g.values; ands = g.values; hints = hints }
gathered s laid hints g (suc p) = consider s laid g p (gathered s laid hints g p)

-- A new frontier, judged by what was gathered.
unfoldable pub judged_by : (s : Setting) (g : Frontier) (w : Gathered) → Frontier
judged_by s g w = record { counts = g.counts; labels = g.labels; masks = g.masks; values = judge g.labels w.ors w.ands true s.table }

-- ---- Laying down
unfoldable pub lay : (s : Setting) (laid : List Frontier) (hints : List ℕ) (rest : List Slot) → List Frontier
lay s laid hints [] = laid
lay s laid hints (staying f ∷ rest) = lay s (laid ++ (f ∷ [])) hints rest
lay s laid hints (fresh g ∷ rest) =
    let w = gathered s laid hints g s.processes in
    lay s (laid ++ (judged_by s g w ∷ [])) w.hints rest

-- The frontiers after the event.
unfoldable pub stepped : (s : Setting) (fs : List Frontier) → List Frontier
stepped s fs = lay s [] (replicate s.stored 0) (slots s fs)

-- How many frontiers there are after the event.
unfoldable pub kept_after : (s : Setting) (fs : List Frontier) → ℕ
kept_after s fs = length (filtered (stays s) fs) + length (filtered (enabled_at s) fs)

-- They fit where so many are allowed. (An empty window fits nowhere: 0 kept would read as nothing ready.)
unfoldable pub fits : (s : Setting) (allowed : ℕ) (fs : List Frontier) → Bool
fits s allowed fs = nat_lt 0 (kept_after s fs) && nat_le (kept_after s fs) allowed
