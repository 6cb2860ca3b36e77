-- What find answers, in words (02 [4]): the first place at which the line holds, and none exactly if it holds at no
-- frontier.
use Rattle.std.specs.Prelude.{ℕ, suc, ◌+◌, ◌<◌, zero, ◌≡◌, refl, Bool, true, false, length, get_or}
use Rattle.std.proofs.Common.{arith, ap, ◌∙◌, ⊎_elim}
use mathlib.Core.List.Memᴰ
use mathlib.Core.List.{List, [], ◌∷◌, Memᴰ}
use Rattle.frontiers.specs.declared.Frontier.{Frontier}
use Rattle.codec.specs.Bit.{bit}
use Rattle.answers.specs.Answer.{found, absent}
use Rattle.call_find.specs.Find.{find_from}

-- The line holds at a frontier or does not.
abbrev pub HoldsThere : ℕ → Frontier → Bool → Type 0
HoldsThere line f b = bit f.values line ≡ b

pub data Finding (line i : ℕ) (fs : List Frontier) (d : Frontier) : Type 0 where
  first : (j : ℕ) → j < length fs → find_from line i fs ≡ found (i + j) → HoldsThere line (get_or fs j d) true
      → ((h : ℕ) → h < j → HoldsThere line (get_or fs h d) false) → Finding line i fs d
  nowhere : find_from line i fs ≡ absent → ((f : Frontier) → Memᴰ f fs → HoldsThere line f false)
      → Finding line i fs d

one_more : (line : ℕ) (d f : Frontier) (fs : List Frontier) (j : ℕ) → HoldsThere line f false
    → ((h : ℕ) → h < j → HoldsThere line (get_or fs h d) false)
    → (h : ℕ) → h < suc j → HoldsThere line (get_or (f ∷ fs) h d) false
one_more line d f fs j q n zero l = q
one_more line d f fs j q n (suc h) l = n h (omega arith)

pub finding : (line i : ℕ) (fs : List Frontier) (d : Frontier) → Finding line i fs d
unfolding find_from
finding line i [] d = nowhere refl (λ f m. absurd (Memᴰ.not-nil m))
finding line i (f ∷ fs) d = go (bit f.values line) refl (finding line (i + 1) fs d)
  where
    go : (b : Bool) → HoldsThere line f b → Finding line (i + 1) fs d → Finding line i (f ∷ fs) d
    go true q rest = first 0 (omega arith) (rw q (ap found (omega arith))) q (λ h l. absurd (omega arith))
    go false q (first j l e t n) =
        first (suc j) (omega arith) (rw q (e ∙ ap found (omega arith))) t (one_more line d f fs j q n)
    go false q (nowhere e n) = nowhere (rw q e) (λ g m. ⊎_elim (λ x. rw x q) (λ m'. n g m') (Memᴰ.cases_cons m))
