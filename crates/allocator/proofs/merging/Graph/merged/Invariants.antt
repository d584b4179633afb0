-- `merged` meets its contract. The loop's invariant: the first k rows are those of the merged graph.
use mathlib.Core.Path.{◌≡◌}
use lib.ListN.{length}
use Rattle.allocator.specs.Merging.{near_after}
use Rattle.allocator.specs.Words.{row_has}
use Rattle.allocator.proofs.HeldLaws.{RowsAre}
use Rattle.allocator.proofs.merging.Graph.merged.Given as goal

abbrev pub invariant-loop-k : goal.invariant-loop-k
invariant-loop-k l = (length l.rows ≡ 240) × RowsAre (near_after (row_has l.self.rows) l.edge.smaller l.edge.larger) l.rows l.k
