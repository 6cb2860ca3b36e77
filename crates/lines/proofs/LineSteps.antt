-- Every line: a `?` gives back the fault that it met, and the limit on the line's bytes comes last.
use Rattle.std.proofs.Common.{ℕ, ◌≡◌, refl, ap, Bool, true, false, cond, ◌&&◌, List, length, ltb, Result, Ok, Err}
use Rattle.std.proofs.lemmas.Result.{err_from_is_err_and}
use Rattle.std.specs.Result.{IsErrAnd}
use Rattle.numbers.specs.declared.fault.Fault.{Fault}
use Rattle.numbers.specs.RefusalNumber.{number_of}
use Rattle.line_pieces.specs.Read.{Read, At, Refused}
use Rattle.line_pieces.specs.Reading.{line_limit, limited}
use Rattle.line_pieces.specs.ReadingCode.{over_limit, within_limit}
use Rattle.line_pieces.specs.NumberListCode.{ListKept}

pub fault_kept : {A Line : Type 0} (line_of : Result A Fault → Line) (given : Result A Fault) (fault : Fault)
    {line : Line} → IsErrAnd given (λ f. f ≡ fault) → line_of (Err fault) ≡ line → line_of given ≡ line
fault_kept line_of given fault h e = let p = err_from_is_err_and given h in rw (p.1, p.2) e

-- The first eight numbers of a list.
pub list_values : {kept list : ListKept} → kept ≡ list → kept.values ≡ list.values
list_values h = ap (λ k. k.values) h

-- What is read and the code's answer are both a fault, the same one, or neither is.
abbrev pub Agrees : {A : Type 0} → Read → Result A Fault → Type 0
Agrees (At i v) (Ok _) = Unit {0}
Agrees (At i v) (Err _) = ⊥
Agrees (Refused n i) (Ok _) = ⊥
Agrees (Refused n i) (Err fault) = (n ≡ number_of fault.refusal) × (i ≡ fault.place)

-- Where a line is what it is read to, it still is within the limit.
module _ {A Line : Type 0} (line_of : Result A Fault → Line) (of : Read → Line)
    (same_fault : (n i : ℕ) (fault : Fault) → n ≡ number_of fault.refusal → i ≡ fault.place
    → line_of (Err fault) ≡ of (Refused n i)) where
  pub line_limited : (s : List ℕ) (whole : Read) (answer : Result A Fault) → Agrees whole answer
      → line_of answer ≡ of whole → line_of (within_limit s answer) ≡ of (limited s whole)
  unfolding limited within_limit
  line_limited s (At i v) (Ok given) a h = go (ltb line_limit (length s))
    where
      go : (t : Bool) → line_of (cond t (Err over_limit) (Ok given)) ≡ of (cond t (Refused 10 line_limit) (At i v))
      go true = same_fault 10 line_limit over_limit refl refl
      go false = h
  line_limited s (At i v) (Err fault) a h = absurd a
  line_limited s (Refused n i) (Ok given) a h = absurd a
  line_limited s (Refused n i) (Err fault) a h =
      rw a.1 (go (ltb line_limit (length s) && ltb line_limit fault.place))
    where
      go : (t : Bool) → line_of (cond t (Err over_limit) (Err fault))
          ≡ of (cond t (Refused 10 line_limit) (Refused n fault.place))
      go true = same_fault 10 line_limit over_limit refl refl
      go false = same_fault n fault.place fault a.0 refl
