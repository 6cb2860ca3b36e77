-- Lists of calls that accept no event: such as end with the accepted events with which they began, and such as have no
-- offers.
use Rattle.std.specs.Prelude.{ℕ, ◌+◌, ◌≤◌, ◌≡◌, refl, Bool, true, false, List, [], ◌∷◌, ◌⊎◌, length}
use Rattle.std.proofs.Common.{arith, sym, ap, ◌∙◌, inl, inr, ⊎_elim}
use mathlib.Core.List.Memᴰ
use Rattle.clocks.specs.declared.Event.{Event}
use Rattle.answers.specs.Answer.{Answer}
use Rattle.answers.specs.Kinds.{is_held}
use Rattle.demands.specs.Run.{Call, offers, takes, finds, closes, mislends, Watch, accepted_by, after, run}
use Rattle.demands.specs.statements.Empties.{NoOffers}

-- No call of the list accepts one.
abbrev pub AcceptsNone : (w : ℕ) (cs : List Call) (Z : Watch) → Type 0
AcceptsNone w [] Z = Unit {0}
AcceptsNone w (c ∷ cs) Z = ((after w c Z).accepted ≡ Z.accepted) × AcceptsNone w cs (after w c Z)

by_held : (e : Event) (es : List Event) (a : Answer)
    → (accepted_by e es a ≡ es) ⊎ (length (accepted_by e es a) ≡ length es + 1)
unfolding accepted_by
by_held e es a = go (is_held a) refl
  where
    go : (b : Bool) → is_held a ≡ b → (accepted_by e es a ≡ es) ⊎ (length (accepted_by e es a) ≡ length es + 1)
    go true h = inr (rw h (omega arith))
    go false h = inl (rw h)

accepted-after : (w : ℕ) (c : Call) (Z : Watch)
    → ((after w c Z).accepted ≡ Z.accepted) ⊎ (length (after w c Z).accepted ≡ length Z.accepted + 1)
unfolding after
accepted-after w (offers mask clock labels) Z = by_held _ Z.accepted _
accepted-after w (takes cap more scratch) Z = inl refl
accepted-after w (finds line) Z = inl refl
accepted-after w (closes p) Z = inl refl
accepted-after w (mislends m) Z = inl refl

accepted-run : (w : ℕ) (cs : List Call) (Z : Watch) → length Z.accepted ≤ length (run w cs Z).accepted
unfolding run
accepted-run w [] Z = omega arith
accepted-run w (c ∷ cs) Z =
    let rest = accepted-run w cs (after w c Z) in
    ⊎_elim (λ q. omega (arith, rest, ap length q)) (λ l. omega (arith, rest, l)) (accepted-after w c Z)

pub none_between : (w : ℕ) (cs : List Call) (Z : Watch) → (run w cs Z).accepted ≡ Z.accepted → AcceptsNone w cs Z
unfolding run
none_between w [] Z q = tt
none_between w (c ∷ cs) Z q = ⊎_elim (λ r. (r, none_between w cs (after w c Z) (q ∙ sym r)))
    (λ l. absurd (omega (arith, accepted-run w cs (after w c Z), l, ap length q))) (accepted-after w c Z)

-- without offers none is accepted
accepted-else : (w : ℕ) (c : Call) (Z : Watch)
    → ((mask : ℕ) (clock labels : List ℕ) → offers mask clock labels ≡ c → ⊥)
    → (after w c Z).accepted ≡ Z.accepted
unfolding after
accepted-else w (offers mask clock labels) Z none = absurd (none mask clock labels refl)
accepted-else w (takes cap more scratch) Z none = refl
accepted-else w (finds line) Z none = refl
accepted-else w (closes p) Z none = refl
accepted-else w (mislends m) Z none = refl

pub no_offers-none : (w : ℕ) (cs : List Call) (Z : Watch) → NoOffers cs → (run w cs Z).accepted ≡ Z.accepted
unfolding run
no_offers-none w [] Z none = refl
no_offers-none w (c ∷ cs) Z none =
    no_offers-none w cs (after w c Z) (λ mask clock labels m. none mask clock labels (Memᴰ.tail m))
    ∙ accepted-else w c Z (λ mask clock labels q. none mask clock labels (Memᴰ.head q))
