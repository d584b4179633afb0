-- `row_after` meets its contract: each of its three rows is one case of the definition.
use mathlib.Core.Path.{sym, ◌∙◌}
use Rattle.allocator.specs.Words.{row_has}
use Rattle.allocator.proofs.RowLaws.{zeros-bit}
use Rattle.allocator.proofs.HeldLaws.{near-gone}
use Rattle.allocator.proofs.merging.Graph.row_after.Goals as goal

pub returns-then-k-edge : goal.returns-then-k-edge
returns-then-k-edge c =
    let s = c.args in
    λ x. zeros-bit x ∙ sym (near-gone (row_has s.self.now.rows) s.edge.smaller s.edge.larger s.k x c.if-k-edge.true)
