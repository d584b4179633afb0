use native.Mathlib.Omega.{arith}
use Rattle.ranges.specs.Tables.{filled_none, filled_more}
use Rattle.allocator.proofs.buses.Connections.buses.Goals as goal

pub loop-u-init : goal.loop-u-init
loop-u-init c = filled_none 240 0 _

pub loop-u-preserved : goal.loop-u-preserved
loop-u-preserved c = let at = c.loop-u in filled_more 240 0 _ at.u _ _ (omega (arith, c.args.self.now.few)) at.invariant c.bus-number.ensures
