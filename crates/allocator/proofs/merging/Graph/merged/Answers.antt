use native.Mathlib.Omega.{arith}
use lib.ListN.{length-set}
use mathlib.Core.Path.{refl}
use Rattle.allocator.proofs.HeldLaws.{held_after, rows_more}
use Rattle.allocator.proofs.merging.Graph.merged.Goals as goal

pub loop-k-preserved : goal.loop-k-preserved
loop-k-preserved c =
    let at = c.loop-k in
    let own = c.args.self in
    (simp length-set at.invariant.0, rows_more _ at.rows at.k _ (omega (arith, own.few)) c.row_after-row.ensures at.invariant.1)

pub returns : goal.returns
returns c =
    let own = c.args.self in
    let edge = c.args.edge in
    let at = c.loop-k in
    (refl, held_after own.count own.rows at.rows edge.smaller edge.larger at.k c.requires.0 c.requires.1 c.loop-k-test.false at.invariant.1)
