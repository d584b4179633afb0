-- `tables::last_boundaries` meets its contract. The loop's invariant: the last boundaries of the first v values, the rest are 0.
use Rattle.std.proofs.Common.{◌≡◌}
use Rattle.ranges.specs.Below.{filled}
use Rattle.reader.specs.Table.{last_in}
use Rattle.reader.proofs.tables.last_boundaries.Given as goal

abbrev pub invariant-loop-v : goal.invariant-loop-v
invariant-loop-v l = l.lasts ≡ filled 80 l.v 0 (last_in l.entries l.t)
