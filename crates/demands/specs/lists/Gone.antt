-- What became of the pending events between two ledgers, put together call by call.
use Rattle.std.specs.Prelude.{ℕ, ◌+◌, ◌<◌, ◌≡◌, refl, length, replicate}
use Rattle.std.proofs.Common.{arith, sym, ap, ◌∙◌}
use mathlib.Core.List.{List, [], ◌∷◌, ◌++◌, map, reverse, reverse-cons, append_assoc}
use Rattle.clocks.specs.declared.Event.{Event}
use Rattle.clocks.specs.Event.{Cut}
use Rattle.rules.specs.Formula.{Formula}
use Rattle.answers.specs.Answer.{Answer, nothing_ready}
use Rattle.demands.specs.Ledger.{occurrences, Ledger, Settled}
use Rattle.demands.specs.statements.Empties.{Leaving, was_taken, was_false, answered_for, taken_of, false_of, InTurn}
use Rattle.demands.specs.lists.Leaves.{SameEvents, Left}

pub record Gone (k : ℕ) (f : Formula) (start : Cut) (L M : Ledger) (answers : List Answer) : Type 0 where
  pub left : List Leaving
  pub quiet : ℕ
  pub answers_are : answers ≡ map answered_for left ++ replicate quiet nothing_ready
  pub in_turn : InTurn k f start L.history left
  pub fewer : length left + length M.pending ≡ length L.pending
  pub taken_since : M.history ≡ reverse (taken_of left) ++ L.history
  pub false_since : M.falsified ≡ reverse (false_of left) ++ L.falsified
  pub each : (e : Event)
      → occurrences e L.pending
      ≡ occurrences e (taken_of left) + occurrences e (false_of left) + occurrences e M.pending
  pub none_ready : 0 < quiet → Settled M

pub both : (L M N : Ledger) → SameEvents L M → SameEvents M N → SameEvents L N
both L M N s t = record {
  history_same = t.history_same ∙ s.history_same;
  pending_same = t.pending_same ∙ s.pending_same;
  falsified_same = t.falsified_same ∙ s.falsified_same;
}

-- with nothing ready
pub gone_none : (k : ℕ) (f : Formula) (start : Cut) (L M : Ledger) (answers : List Answer) (quiet : ℕ) → answers ≡ replicate quiet nothing_ready
    → SameEvents L M → (0 < quiet → Settled M) → Gone k f start L M answers
unfolding taken_of false_of occurrences
gone_none k f start L M answers quiet q s settled = record {
  left = [];
  quiet = quiet;
  answers_are = q;
  in_turn = tt;
  fewer = omega (arith, ap length s.pending_same);
  taken_since = s.history_same;
  false_since = s.falsified_same;
  each = λ e. omega (arith, ap (occurrences e) s.pending_same);
  none_ready = settled;
}

-- with a call in front that leaves the events
pub gone_same : (k : ℕ) (f : Formula) (start : Cut) (L M N : Ledger) (answers : List Answer) → SameEvents L M → Gone k f start M N answers → Gone k f start L N answers
gone_same k f start L M N answers s g = record {
  left = g.left;
  quiet = g.quiet;
  answers_are = g.answers_are;
  in_turn = rw (← s.history_same) g.in_turn;
  fewer = g.fewer ∙ ap length s.pending_same;
  taken_since = g.taken_since ∙ ap (λ (ts : List Event). reverse (taken_of g.left) ++ ts) s.history_same;
  false_since = g.false_since ∙ ap (λ (ts : List Event). reverse (false_of g.left) ++ ts) s.falsified_same;
  each = λ e. omega (arith, ap (occurrences e) s.pending_same, g.each e);
  none_ready = g.none_ready;
}

-- with a take in front by which one leaves
taken_more : (x : Leaving) (xs : List Leaving) (ts : List Event)
    → reverse (taken_of xs) ++ (taken_of (x ∷ []) ++ ts) ≡ reverse (taken_of (x ∷ xs)) ++ ts
unfolding taken_of
taken_more (was_taken e c t n) xs ts =
    rw (reverse-cons e (taken_of xs)) (sym (append_assoc (reverse (taken_of xs)) (e ∷ []) ts))
taken_more (was_false e) xs ts = refl

false_more : (x : Leaving) (xs : List Leaving) (ts : List Event)
    → reverse (false_of xs) ++ (false_of (x ∷ []) ++ ts) ≡ reverse (false_of (x ∷ xs)) ++ ts
unfolding false_of
false_more (was_taken e c t n) xs ts = refl
false_more (was_false e) xs ts =
    rw (reverse-cons e (false_of xs)) (sym (append_assoc (reverse (false_of xs)) (e ∷ []) ts))

occurs_more : (e : Event) (x : Leaving) (xs : List Leaving)
    → occurrences e (taken_of (x ∷ xs)) + occurrences e (false_of (x ∷ xs))
    ≡ (occurrences e (taken_of (x ∷ [])) + occurrences e (false_of (x ∷ [])))
    + (occurrences e (taken_of xs) + occurrences e (false_of xs))
unfolding taken_of false_of occurrences
occurs_more e (was_taken g c t n) xs = omega arith
occurs_more e (was_false g) xs = omega arith

turn_more : (k : ℕ) (f : Formula) (start : Cut) (x : Leaving) (xs : List Leaving) (ts : List Event)
    → InTurn k f start ts (x ∷ []) → InTurn k f start (taken_of (x ∷ []) ++ ts) xs → InTurn k f start ts (x ∷ xs)
unfolding taken_of
turn_more k f start (was_taken e c t n) xs ts a b = (a.0, a.1, a.2, a.3, b)
turn_more k f start (was_false e) xs ts a b = (a.0, a.1, b)

pub gone_left : (k : ℕ) (f : Formula) (start : Cut) (x : Leaving) (L M N : Ledger) (answers : List Answer) → Left k f start x L M → Gone k f start M N answers
    → Gone k f start L N (answered_for x ∷ answers)
gone_left k f start x L M N answers l g = record {
  left = x ∷ g.left;
  quiet = g.quiet;
  answers_are = ap (λ (bs : List Answer). answered_for x ∷ bs) g.answers_are;
  in_turn = turn_more k f start x g.left L.history l.in_turn_now (rw (← l.history_now) g.in_turn);
  fewer = omega (arith, g.fewer, l.one_less);
  taken_since = g.taken_since ∙ ap (λ (ts : List Event). reverse (taken_of g.left) ++ ts) l.history_now
      ∙ taken_more x g.left L.history;
  false_since = g.false_since ∙ ap (λ (ts : List Event). reverse (false_of g.left) ++ ts) l.falsified_now
      ∙ false_more x g.left L.falsified;
  each = λ e. omega (arith, l.each_now e, g.each e, occurs_more e x g.left);
  none_ready = g.none_ready;
}
