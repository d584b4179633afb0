use Rattle.std.proofs.Common.{arith}
use Rattle.ranges.specs.Tables.{filled_none, filled_more, filled-end}
use Rattle.reader.specs.Table.{last_in}
use Rattle.reader.proofs.tables.last_boundaries.Goals as goal

pub loop-v-init : goal.loop-v-init
loop-v-init c = filled_none 80 0 (last_in c.args.entries.now c.args.t)

pub loop-v-preserved : goal.loop-v-preserved
loop-v-preserved c = let at = c.loop-v in filled_more 80 0 _ at.v _ _ (omega arith) at.invariant c.last_boundary.ensures

pub returns : goal.returns
returns c = filled-end 80 0 _ _ _ _ (omega arith) c.loop-v.invariant
