use Rattle.allocator.proofs.HeldLaws.{bits_none, bits-more}
use Rattle.allocator.proofs.graphs.row_of.Goals as goal

pub loop-j-init : goal.loop-j-init
loop-j-init c = bits_none _

pub loop-j-preserved : goal.loop-j-preserved
loop-j-preserved c = let at = c.loop-j in bits-more _ at.row _ at.j _ c.near.ensures c.put-next.ensures at.invariant
