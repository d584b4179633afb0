-- `scanning::count_of` meets its contract. The loop's invariant: how many of the first i records are of the kind.
use mathlib.Core.Path.{◌≡◌}
use lib.Dec.{eqb}
use Rattle.ranges.specs.Below.{count_below}
use Rattle.reader.specs.Block.{kind}
use Rattle.reader.proofs.scanning.count_of.Given as goal

abbrev pub invariant-loop-i : goal.invariant-loop-i
invariant-loop-i l = l.count ≡ count_below l.i (λ j. eqb (kind l.block j) l.k)
