-- The count is read from the bytes, p counts after the frontier's place.
use Rattle.std.proofs.Common.{ℕ, List, arith, ap, sym, ◌∙◌}
use Rattle.clocks.specs.Counts.{at}
use Rattle.frontiers.specs.Bytes.{frontier_length}
use Rattle.frontiers.specs.BytesLaws.{count-within}
use Rattle.frontiers.specs.WindowLaws.{count_at}
use Rattle.frontiers.proofs.listed.ListedSteps.{few, stands, counts_read, eight_read}
use Rattle.frontiers.proofs.listed.Frontiers.count_at.Goals as goal

pub frontier_place-place-requires : goal.frontier_place-place-requires
frontier_place-place-requires c =
    record { i_bound = few c.self.inside c.args.self.now c.self.view_is c.self.invariant c.args.i c.requires.i_bound }

pub read_count-requires : goal.read_count-requires
unfolding frontier_length
read_count-requires c =
    let a = c.args in
    let w = c.self.inside.width in
    let place = c.frontier_place-place.ensures.0 in
    record {
      w_in_bounds =
          rw (place, c.bytes.ensures.value)
          (omega (
            arith,
            stands c.self.inside a.self.now c.self.view_is c.self.invariant a.i c.requires.i_bound,
            count-within a.p 8 w c.requires.p_bound,
          ));
    }

pub returns-clause-value : goal.returns-clause-value
returns-clause-value c =
    let a = c.args in
    let f = c.self.inside in
    let p = c.requires.p_bound in
    rw (c.read_count.ensures, c.frontier_place-place.ensures.0, c.bytes.ensures.value)
    (sym (count_at f.width f.bytes.now a.i a.p p)
    ∙ ap (λ (counts : List ℕ). at counts a.p) (counts_read f a.self.now c.self.view_is c.self.invariant a.i c.requires.i_bound))

pub returns-clause-eight : goal.returns-clause-eight
returns-clause-eight c =
    eight_read c.self.inside c.args.self.now c.self.view_is c.self.invariant c.args.i c.requires.i_bound
