-- `scanning::count_values` meets its contract: the incoming records and the operations.
use Prim.Native.Nat.{◌+◌}
use mathlib.Core.Path.{sym, ap₂, ◌∙◌}
use Rattle.ranges.specs.Counting.{count-le}
use Rattle.reader.specs.Block.{records, is_incoming, is_operation}
use Rattle.reader.specs.Boundaries.{values-split}
use native.Mathlib.Omega.{arith}
use Rattle.reader.proofs.scanning.count_values.Goals as goal

pub overflow_add-result : goal.overflow_add-result
overflow_add-result c = let b = c.args.block.now in omega (arith, c.count_of.ensures, c.count_of-2.ensures, count-le (records b) (is_incoming b), count-le (records b) (is_operation b))

pub returns : goal.returns
returns c = ap₂ ◌+◌ c.count_of.ensures c.count_of-2.ensures ∙ sym (values-split c.args.block.now)
