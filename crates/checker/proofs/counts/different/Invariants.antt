-- `different` meets its contract. The loop's invariant: the numbers that occur in the values before x are marked, and no other.
use Rattle.std.proofs.Common.{false, get_or, replicate}
use Rattle.ranges.specs.Below.{any_below}
use Rattle.checker.specs.Bound.{no_bound}
use Rattle.checker.specs.Counted.{Adds, occurs_as}
use Rattle.checker.proofs.counts.different.Given as goal

abbrev pub invariant-loop-x : goal.invariant-loop-x
invariant-loop-x l = Adds (replicate 256 false) (λ k. any_below l.x-index (λ u. occurs_as l.what (get_or l.all u no_bound) k)) l.marks
