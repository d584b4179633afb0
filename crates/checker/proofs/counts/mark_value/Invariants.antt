-- `mark_value` meets its contract. The loop's invariant: the buses of the uses before u are marked.
use Rattle.std.proofs.Common.{◌&&◌, eqb}
use Rattle.std.specs.Option.{is_some}
use Rattle.ranges.specs.Below.{any_below}
use Rattle.checker.specs.Bound.{carried}
use Rattle.checker.specs.Counted.{Adds}
use Rattle.checker.proofs.counts.mark_value.Given as goal

abbrev pub invariant-loop-u : goal.invariant-loop-u
invariant-loop-u l = Adds l.initial.marks (λ k. any_below l.u-index (λ p. is_some (carried l.x p).used && eqb (carried l.x p).bus k)) l.marks
