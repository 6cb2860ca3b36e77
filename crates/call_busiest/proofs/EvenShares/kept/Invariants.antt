-- What is kept, and the product, of the processes so far; both are small as long as no more than 1,024 are kept.
use Rattle.std.proofs.Common.{◌≡◌, ◌≤◌}
use Rattle.call_busiest.specs.Sharing.{sharing_keeps, product as product_of}
use Rattle.call_busiest.specs.BusiestCode.{sharing}
use Rattle.call_busiest.proofs.EvenShares.kept.Given as goal

abbrev pub invariant-loop-p : goal.invariant-loop-p
invariant-loop-p l =
    (l.kept ≡ sharing_keeps (sharing l.p l.self.each l.self.more)) × (l.product ≡ product_of (sharing l.p l.self.each l.self.more))
    × (l.kept ≤ 1024) × (l.product ≤ 67108864)
