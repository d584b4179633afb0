-- No accepted binding of a block has fewer registers than left edge's.
-- Document 01, "Left edge and clique merging"; demand 3.
use Rattle.std.specs.Prelude.{ℕ, ◌≤◌, ◌≡◌, List}
use Rattle.std.proofs.Common.{arith}
use Rattle.checker.specs.Rules.{verdict}
use Rattle.checker.proofs.Acceptance.{accepted-keeps}
use Rattle.allocator.specs.Allocation.{binding_by}
use Rattle.evidence.specs.NoFewer.{no-fewer}
use Rattle.evidence.proofs.LeftEdgeCount.{left-edge-count}

-- no accepted binding d of the block has fewer than left edge's
pub left-edge-fewest : (b d : List ℕ) → (verdict b d).number ≡ 0 → (verdict b (binding_by 0 b)).registers ≤ (verdict b d).registers
left-edge-fewest b d e = omega (arith, left-edge-count b (accepted-keeps b d e).readable, no-fewer b d e)
