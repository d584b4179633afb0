-- `scanning::last_step` meets its contract. The loop's invariant: the largest birth of the first i records.
use mathlib.Core.Path.{◌≡◌}
use Rattle.ranges.specs.Below.{largest_below}
use Rattle.reader.specs.Block.{birth}
use Rattle.reader.proofs.scanning.last_step.Given as goal

abbrev pub invariant-loop-i : goal.invariant-loop-i
invariant-loop-i l = l.last ≡ largest_below l.i (birth l.block)
