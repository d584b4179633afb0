use native.Mathlib.Omega.{arith}
use mathlib.Core.Path.{refl}
use lib.ListN.{length, length-set}
use Rattle.allocator.proofs.HeldLaws.{rows_more, held-graph}
use Rattle.allocator.proofs.graphs.joined.Goals as goal

pub loop-i-preserved : goal.loop-i-preserved
loop-i-preserved c = let at = c.loop-i in (simp length-set at.invariant.0, rows_more _ at.rows at.i _ (omega arith) c.row_of-row.ensures at.invariant.1)

pub returns : goal.returns
returns c = (refl, (held-graph (length c.args.nodes.now) _ c.loop-i.rows c.loop-i.i c.loop-i-test.false c.loop-i.invariant.1).0)
