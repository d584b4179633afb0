-- `choose` meets its contract. The invariants: best is kept for the choice among the pairs scanned so far.
use mathlib.Core.Path.{◌≡◌}
use Rattle.allocator.specs.Merging.{scan_row, scan_rows}
use Rattle.allocator.specs.Words.{held}
use Rattle.allocator.specs.Choosing.{Weighed, edge_of}
use Rattle.allocator.proofs.merging.Graph.choose.Given as goal

abbrev pub invariant-loop-larger : goal.invariant-loop-larger
invariant-loop-larger l =
    Weighed (held l.self.count l.self.rows) l.best
    × (edge_of l.best ≡ scan_row (held l.self.count l.self.rows) l.smaller (scan_rows (held l.self.count l.self.rows) l.smaller) l.larger)

abbrev pub invariant-loop-smaller : goal.invariant-loop-smaller
invariant-loop-smaller l = Weighed (held l.self.count l.self.rows) l.best × (edge_of l.best ≡ scan_rows (held l.self.count l.self.rows) l.smaller)
