-- Under left edge the register count is the largest number of values occupying one boundary.
-- Document 01, "Left edge and clique merging"; demand 3.
use Rattle.std.specs.Prelude.{ℕ, ◌≡◌, List}
use Rattle.std.proofs.Common.{◌∙◌, arith}
use Rattle.reader.specs.Block.{peak, reading}
use Rattle.reader.specs.Boundaries.{values-le}
use Rattle.reader.specs.Readability.{read}
use Rattle.checker.specs.Rules.{verdict}
use Rattle.checker.proofs.AcceptedFacts.{registers-counted}
use Rattle.allocator.proofs.LeftEdgeLaws.{left_edge-count}
use Rattle.allocator.specs.Allocation.{registers_by, binding_by}
use Rattle.allocator.proofs.OwnBinding.{binding-register, register-fits}
use Rattle.evidence.specs.AllocationAccepted.{allocation-accepted}

pub left-edge-count : (b : List ℕ) → (reading b).number ≡ 0 → (verdict b (binding_by 0 b)).registers ≡ peak b
unfolding registers_by
left-edge-count b e =
    registers-counted b (binding_by 0 b) (allocation-accepted b 0 e)
    ∙ left_edge-count b (binding_by 0 b) (binding-register b 0) (register-fits b 0 (omega (arith, values-le b, (read b e).few)))
