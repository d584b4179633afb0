-- `after_step` meets its contract. The loop's invariant: the first v values are through.
use Rattle.runner.specs.Fillings.{step_filling, Fills}
use Rattle.runner.proofs.datapath.Datapath.after_step.Given as goal

abbrev pub invariant-loop-v : goal.invariant-loop-v
invariant-loop-v l = Fills l.self.table l.self.places (λ b d v. step_filling b d l.initial.s.began l.k v) l.s l.v
