-- `sources::value_for` meets its contract. The loop's invariant: the first of the latest birth among the first i records.
use Rattle.reader.proofs.Highest.{Searched}
use Rattle.reader.proofs.sources.value_for.Given as goal

abbrev pub invariant-loop-i : goal.invariant-loop-i
invariant-loop-i l = Searched l.names l.s l.n l.i l.found
