-- None, too many, one of 0, or what the sum decides: the laws `any_listed` and `sum_listed` for the library's words.
use Rattle.std.proofs.Common.{rules, ℕ, Bool, sym, ap, ◌≡◌, ◌∙◌, length, lt-ltb, le-ltb, eqb, ltb}
use Rattle.std.specs.List.{sum_by}
use Rattle.std.proofs.iter.runs.Made.{chains}
use Rattle.call_shares.proofs.BadSteps.{any_listed, sum_listed}
use Rattle.call_shares.specs.Shares.{bad_shares}
use Rattle.call_shares.proofs.bad_shares.Goals as goal
use Rattle.call_shares.proofs.bad_shares.Goals.{then-is_empty-via-then-is_empty, then-is_empty-via-else-is_empty+then-shares-gt-MEMBERS, then-is_empty-via-else-is_empty+else-shares-gt-MEMBERS+then-contains}

abbrev empty : ℕ → Bool
empty share = eqb share 0

pub returns-then-is_empty : goal.returns-then-is_empty
unfolding bad_shares
returns-then-is_empty c =
    let shares = c.args.shares.now in
    let n = length shares in
    elim c.then-is_empty.branch [
      | then-is_empty-via-then-is_empty w ↦ rw (sym c.is_empty.ensures ∙ w.if-is_empty.true)
      | then-is_empty-via-else-is_empty+then-shares-gt-MEMBERS w ↦
          rw (sym c.is_empty.ensures ∙ w.if-is_empty.false, lt-ltb 8 n w.if-shares-gt-MEMBERS.true)
      | then-is_empty-via-else-is_empty+else-shares-gt-MEMBERS+then-contains w ↦
          rw (
            sym c.is_empty.ensures ∙ w.if-is_empty.false,
            le-ltb 8 n w.if-shares-gt-MEMBERS.false,
            sym (any_listed empty shares) ∙ sym w.contains.ensures.value ∙ w.if-contains.true,
          )
    ]

pub returns : goal.returns
unfolding bad_shares
returns c =
    let shares = c.args.shares.now in
    let total : c.sum-sum.result ≡ sum_by (λ x. x) shares = search (rules, chains) in
    rw (
      sym c.is_empty.ensures ∙ c.if-is_empty.false,
      le-ltb 8 (length shares) c.if-shares-gt-MEMBERS.false,
      sym (any_listed empty shares) ∙ sym c.contains.ensures.value ∙ c.if-contains.false,
    )
    (ap (ltb 1024) (total ∙ sum_listed shares))
