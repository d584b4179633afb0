-- `file_at_end` meets its contract. The loop's invariant: from the file at entry, the file is that of the boundary k.
use Rattle.runner.specs.Fillings.{Reaches}
use Rattle.runner.proofs.datapath.Datapath.file_at_end.Given as goal

abbrev pub invariant-loop-k : goal.invariant-loop-k
invariant-loop-k l = Reaches l.self.table l.self.places l.incoming l.initial.now l.now l.k
