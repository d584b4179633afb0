-- `at_entry` meets its contract. The loop's invariant: the first v values are in.
use Rattle.runner.specs.Fillings.{entry_filling, Fills}
use Rattle.runner.proofs.datapath.Datapath.at_entry.Given as goal

abbrev pub invariant-loop-v : goal.invariant-loop-v
invariant-loop-v l = Fills l.self.table l.self.places (λ b d v. entry_filling b d l.incoming l.initial.s.began v) l.s l.v
