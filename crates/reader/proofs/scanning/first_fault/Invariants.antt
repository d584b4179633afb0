-- `scanning::first_fault` meets its contract. The loop's invariant: what `Learned` holds after i records without a fault.
use Rattle.reader.proofs.Knows.{Knows}
use Rattle.reader.proofs.scanning.first_fault.Given as goal

abbrev pub invariant-loop-i : goal.invariant-loop-i
invariant-loop-i at = Knows at.block at.i at.learned
