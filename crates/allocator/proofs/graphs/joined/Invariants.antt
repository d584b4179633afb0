-- `joined` meets its contract. The loop's invariant: the first i rows are those of the graph.
use mathlib.Core.Path.{◌≡◌}
use mathlib.Core.Bool.{◌&&◌}
use lib.Dec.{ltb}
use lib.ListN.{length}
use Rattle.allocator.specs.Nodes.{near_in}
use Rattle.allocator.proofs.HeldLaws.{RowsAre}
use Rattle.allocator.proofs.graphs.joined.Given as goal

abbrev pub invariant-loop-i : goal.invariant-loop-i
invariant-loop-i l = (length l.rows ≡ 240) × RowsAre (λ a x. ltb x (length l.nodes) && near_in l.nodes a x) l.rows l.i
