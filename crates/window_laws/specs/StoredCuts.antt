-- Cuts by their stored counts, and events by their lowest process.
use Rattle.std.specs.Prelude.{ℕ, ◌^◌, ◌≤◌, ◌<◌, ◌≡◌, true, List, ◌≢◌, get_or}
use Rattle.std.proofs.Common.{arith, sym, ap, ◌∙◌, true≢false}
use Rattle.std.proofs.Math.Decide.{dec_lt}
use Rattle.std.proofs.Math.Path.{fun_ext}
use Rattle.std.specs.Int.Count.{count_trailing_zeros}
use Rattle.clocks.specs.declared.Event.{Event}
use Rattle.codec.specs.Bit.{bit}
use Rattle.codec.specs.LowestBit.{trailing_lt, bit-trailing}
use Rattle.codec.specs.BitLaws.{bit-zero, lt_of_bits}
use Rattle.clocks.specs.Event.{Cut, involved}
use Rattle.clocks.specs.cuts.EventLaws.{T_true}
use Rattle.clocks.specs.Counts.{list_of}
use Rattle.clocks.specs.stored.CountsLaws.{get_d_list_of}
use Rattle.clocks.specs.Valid.{WellFormed}

-- cuts that count nothing from n up are known by their first n counts
pub list_of_injective : (n : ℕ) (R Q : Cut) → ((p : ℕ) → n ≤ p → R p ≡ 0) → ((p : ℕ) → n ≤ p → Q p ≡ 0) → list_of n R ≡ list_of n Q → R ≡ Q
list_of_injective n R Q y z h = fun_ext (λ p. every p (dec_lt p n))
  where
    every : (p : ℕ) → Dec (p < n) → R p ≡ Q p
    every p (yes l) = sym (get_d_list_of n R p 0 l) ∙ ap (λ (xs : List ℕ). get_or xs p 0) h ∙ get_d_list_of n Q p 0 l
    every p (no l) = y p (omega arith) ∙ sym (z p (omega arith))

-- the lowest process of an event takes part
pub first_process : (n k : ℕ) (f : Event) → k ≤ n → WellFormed k f → (count_trailing_zeros n f.mask < n) × (involved f (count_trailing_zeros n f.mask) ≡ true) × (f.mask ≢ 0)
unfolding involved
first_process n k f l w =
    let o = w.occupied.0 in
    let b : bit f.mask o ≡ true = T_true (bit f.mask o) w.occupied.1 in
    let z : f.mask ≢ 0 = λ q. true≢false (sym b ∙ ap (λ (m : ℕ). bit m o) q ∙ bit-zero o) in
    let h : f.mask < 2 ^ n = lt_of_bits n f.mask (λ p k'. w.below p (omega arith)) in
    let t : count_trailing_zeros n f.mask < n = trailing_lt n f.mask (omega arith) h in
    (t, bit-trailing n f.mask t, z)
