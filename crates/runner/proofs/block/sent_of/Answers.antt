use Rattle.std.proofs.Common.{arith}
use Rattle.ranges.specs.Tables.{filled_none, filled_more}
use Rattle.runner.proofs.block.sent_of.Goals as goal

pub loop-j-init : goal.loop-j-init
loop-j-init c = filled_none 80 0 _

pub loop-j-preserved : goal.loop-j-preserved
loop-j-preserved c =
    let at = c.loop-j in
    filled_more 80 0 _ at.j _ _ (omega arith) at.invariant cc
