-- `common` meets its contract: the nodes shared by two rows are those of their four words.
use native.Mathlib.Omega.{arith}
use Rattle.allocator.proofs.RowLaws.{shared-four}
use Rattle.allocator.proofs.rows.common.Goals as goal

pub returns : goal.returns
returns c = let a = c.args in (omega (arith, shared-four a.a a.b), omega arith)
