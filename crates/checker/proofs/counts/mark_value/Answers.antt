use Rattle.std.proofs.Common.{◌≡◌, ◌&&◌, eqb, arith}
use Rattle.std.specs.Option.{is_some}
use Rattle.ranges.specs.Below.{any_below}
use Rattle.checker.specs.Bound.{carried}
use Rattle.checker.specs.Counted.{occurs_as, adds_none, adds-next}
use Rattle.checker.proofs.counts.mark_value.Goals as goal

pub returns-in-Registers : goal.returns-in-Registers
unfolding occurs_as
returns-in-Registers c = rw c.in-Registers.is c.mark.ensures

pub returns-in-Units : goal.returns-in-Units
unfolding occurs_as
returns-in-Units c = rw c.in-Units.is c.mark-in-Units.ensures

pub loop-u-init : goal.loop-u-init
unfolding any_below
loop-u-init c = adds_none _

pub loop-u-preserved : goal.loop-u-preserved
loop-u-preserved c =
    let x = c.args.x.now in
    adds-next (λ p k. is_some (carried x p).used && eqb (carried x p).bus k) c.loop-u.u-index c.loop-u.invariant
    (rw c.is_some.ensures at c.mark-in-loop-u.ensures)

pub returns-after-loop-u : goal.returns-after-loop-u
unfolding occurs_as
returns-after-loop-u c =
    let at = c.loop-u in
    let e : at.u-index ≡ 3 = omega arith in
    rw c.in-Buses.is (rw e at at.invariant)
