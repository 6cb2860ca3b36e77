-- What the program hands to the calls is what its lines say: the watch, the start labels, and the event that is
-- offered.
use Rattle.std.specs.Prelude.{ℕ, zero, suc, ◌+◌, ◌%◌, ◌≤◌, ◌<◌, ◌≡◌, refl, ◌⊎◌, ◌↔◌, Bool, true, false, cond, List, [], ◌∷◌, eqb, length}
use Rattle.std.proofs.Common.{arith, sym, ap, ◌∙◌, inl, inr, lit<}
use Rattle.std.proofs.Math.Decide.{dec_lt}
use Rattle.std.proofs.lemmas.Bool.{false≢true}
use Rattle.codec.specs.Bit.{bit}
use Rattle.clocks.specs.Counts.{at}
use Rattle.clocks.specs.stored.CountsLaws.{at-list_of, at_beyond, length-list_of, list_of-at}
use Rattle.call_words.specs.Words.{unpack_labels}
use Rattle.line_pieces.specs.Read.{At}
use Rattle.line_pieces.specs.NumberList.{eight_values}
use Rattle.lines.specs.DidLine.{Did}
use Rattle.lines.specs.Words.{packed_word, placed}
use Rattle.lines.specs.Lines.{count_limit, label_limit, process_limit, clock_word, did_of}
use Rattle.line_laws.specs.LineSays.{InLimits, Named, Offers, WatchIsAsSaid, StartIsAsSaid, StartSaidIsRead, EventIsAsSaid, EventSaidIsRead}
use Rattle.line_laws.specs.says.LineNumbers.{did_said, start_said, watch_said}
use Rattle.line_laws.specs.says.SaidIsRead.{watch_said_read, start_said_read, did_said_read}
use Rattle.line_laws.specs.says.WordParts.{word-bit, labels_unpacked, counts_unpacked}
use Rattle.line_laws.specs.says.PlacedLaws.{placed_own, placed_other, among, length-placed}

-- ---- Numbers within limits

at_most : (ascending : Bool) (least most : ℕ) (vs : List ℕ) → InLimits ascending least most vs → (p : ℕ)
    → at vs p ≤ most
unfolding InLimits
at_most ascending least most [] h p = omega arith
at_most ascending least most (v ∷ vs) h zero = h.1.0
at_most ascending least most (v ∷ vs) h (suc p) = at_most ascending (cond ascending (v + 1) 0) most vs h.1.1 p

at_least : (least most : ℕ) (vs : List ℕ) → InLimits true least most vs → (p : ℕ) → p < length vs → least ≤ at vs p
unfolding InLimits
at_least least most [] h p l = absurd (omega arith)
at_least least most (v ∷ vs) h zero l = h.0
at_least least most (v ∷ vs) h (suc p) l = let q = at_least (v + 1) most vs h.1.1 p (omega arith) in
    omega (arith, q, h.0)

-- In an ascending list each is above those before.
ascends : (least most : ℕ) (vs : List ℕ) → InLimits true least most vs → (i j : ℕ) → i < j → j < length vs
    → at vs i < at vs j
unfolding InLimits
ascends least most [] h i j l k = absurd (omega arith)
ascends least most (v ∷ vs) h zero zero l k = absurd (omega arith)
ascends least most (v ∷ vs) h zero (suc j) l k = let q = at_least (v + 1) most vs h.1.1 j (omega arith) in
    omega (arith, q)
ascends least most (v ∷ vs) h (suc i) zero l k = absurd (omega arith)
ascends least most (v ∷ vs) h (suc i) (suc j) l k = ascends (v + 1) most vs h.1.1 i j (omega arith) (omega arith)

-- ---- The words of an event

module _ (ps cs ls : List ℕ) (processes : InLimits true 0 process_limit ps) (counts : InLimits false 0 count_limit cs)
    (labels : InLimits false 0 label_limit ls) where
  own : (values : ℕ → ℕ) (j : ℕ) → j < length ps → at (placed (length ps) (at ps) values) (at ps j) ≡ values j
  own values j h =
      placed_own (length ps) (at ps) values j h
      (λ i l. let q = at_most true 0 process_limit ps processes i in omega (arith, q))
      (λ i l k m e. let q = ascends 0 process_limit ps processes i l k m in omega (arith, q, e))

  marked : (p : ℕ) → (bit (packed_word 2 (placed (length ps) (at ps) (λ j. 1))) p ≡ true) ↔ Named p ps
  marked p = (λ e. to e (among (length ps) (at ps) p), from)
    where
      here : bit (packed_word 2 (placed (length ps) (at ps) (λ j. 1))) p
          ≡ eqb (at (placed (length ps) (at ps) (λ j. 1)) p % 2) 1
      here = word-bit (placed (length ps) (at ps) (λ j. 1)) p

      to : bit (packed_word 2 (placed (length ps) (at ps) (λ j. 1))) p ≡ true
          → Named p ps ⊎ ((j : ℕ) → j < length ps → at ps j ≡ p → ⊥) → Named p ps
      to e (inl x) = x
      to e (inr f) = absurd (false≢true (sym (here ∙ rw (placed_other (length ps) (at ps) (λ j. 1) p f)) ∙ e))

      from : Named p ps → bit (packed_word 2 (placed (length ps) (at ps) (λ j. 1))) p ≡ true
      from (j, (l, e)) = here ∙ rw (← e, own (λ i. 1) j l)

  -- What is placed is a label byte, or 0.
  placed-small : (p : ℕ) → at (placed (length ps) (at ps) (at ls)) p < 256
  placed-small p = go (among (length ps) (at ps) p)
    where
      go : Named p ps ⊎ ((j : ℕ) → j < length ps → at ps j ≡ p → ⊥) → at (placed (length ps) (at ps) (at ls)) p < 256
      go (inl (j, (l, e))) = let q = at_most false 0 label_limit ls labels j in
          rw (← e, own (at ls) j l) (omega (arith, q))
      go (inr f) = rw (placed_other (length ps) (at ps) (at ls) p f) (lit< tt)

  -- A label that is unpacked is the one that was placed.
  unpacked : (p : ℕ) → at (unpack_labels (packed_word 256 (placed (length ps) (at ps) (at ls)))) p
      ≡ at (placed (length ps) (at ps) (at ls)) p
  unpacked p =
      let l = placed (length ps) (at ps) (at ls) in
      ap (λ (x : List ℕ). at x p)
      (labels_unpacked l placed-small ∙ list_of-at 8 l (length-placed (length ps) (at ps) (at ls)))

  pub words_offer : Offers (packed_word 2 (placed (length ps) (at ps) (λ j. 1))) (clock_word cs 0)
      (clock_word cs 1) (clock_word cs 2) (clock_word cs 3)
      (packed_word 256 (placed (length ps) (at ps) (at ls))) ps cs ls
  words_offer = record {
    take_part = marked;
    counts = counts_unpacked cs (λ p. let q = at_most false 0 count_limit cs counts p in omega (arith, q));
    labelled = λ j l. unpacked (at ps j) ∙ own (at ls) j l;
    unlabelled = λ p f. unpacked p ∙ placed_other (length ps) (at ps) (at ls) p (λ j l e. f (j, (l, e)));
  }

offered : (ps cs ls : List ℕ) (mask c01 c23 c45 c67 labels : ℕ) → InLimits true 0 process_limit ps
    → InLimits false 0 count_limit cs
    → InLimits false 0 label_limit ls → did_of (length ps) ps cs ls (At 0 0) ≡ Did mask c01 c23 c45 c67 labels
    → Offers mask c01 c23 c45 c67 labels ps cs ls
unfolding did_of
offered ps cs ls mask c01 c23 c45 c67 labels p c l e =
    let m : mask ≡ packed_word 2 (placed (length ps) (at ps) (λ j. 1)) = cc in
    let w₀ : c01 ≡ clock_word cs 0 = cc in
    let w₁ : c23 ≡ clock_word cs 1 = cc in
    let w₂ : c45 ≡ clock_word cs 2 = cc in
    let w₃ : c67 ≡ clock_word cs 3 = cc in
    let w : labels ≡ packed_word 256 (placed (length ps) (at ps) (at ls)) = cc in
    rw (m, w₀, w₁, w₂, w₃, w) (words_offer ps cs ls p c l)

-- ---- Start labels

eight-small : (ls : List ℕ) → InLimits false 0 label_limit ls → (p : ℕ) → at (eight_values ls) p < 256
eight-small ls h p = go (dec_lt p 8)
  where
    go : Dec (p < 8) → at (eight_values ls) p < 256
    go (yes l) = let q = at_most false 0 label_limit ls h p in rw (at-list_of 8 (at ls) p l) (omega (arith, q))
    go (no l) = rw (at_beyond (eight_values ls) p (omega (arith, length-list_of 8 (at ls)))) (lit< tt)

eight_unpacked : (ls : List ℕ) → InLimits false 0 label_limit ls → unpack_labels (packed_word 256 (eight_values ls))
    ≡ eight_values ls
eight_unpacked ls h = labels_unpacked (eight_values ls) (eight-small ls h)
    ∙ list_of-at 8 (eight_values ls) (length-list_of 8 (at ls))

-- ---- The theorem

pub watch_is_as_said : WatchIsAsSaid
watch_is_as_said s k room = (watch_said s k room, watch_said_read s k room)

pub start_is_as_said : StartIsAsSaid
start_is_as_said s k labels h =
    let x = start_said s k labels h in
    (x.0, (x.1.0, ap unpack_labels x.1.1 ∙ eight_unpacked x.0 x.1.0.limits))

pub event_is_as_said : EventIsAsSaid
event_is_as_said s k mask c01 c23 c45 c67 labels h =
    let x = did_said s k mask c01 c23 c45 c67 labels h in
    let says = x.3.0 in (
      x.0,
      x.1,
      x.2,
      (
        says,
        offered x.0 x.1 x.2 mask c01 c23 c45 c67 labels says.limits.0 says.limits.1.0
            says.limits.1.1 x.3.1,
      ),
    )

pub start_said_is_read : StartSaidIsRead
start_said_is_read s k ls x = (
  packed_word 256 (eight_values ls),
  (
    start_said_read s k ls x,
    eight_unpacked ls x.limits,
  ),
)

pub event_said_is_read : EventSaidIsRead
unfolding did_of
event_said_is_read s k ps cs ls x = (
  _,
  _,
  _,
  _,
  _,
  _,
  (
    did_said_read s k ps cs ls x,
    offered ps cs ls _ _ _ _ _ _ x.limits.0 x.limits.1.0
        x.limits.1.1 refl,
  ),
)
