-- `steps_of` meets its contract. The loop's invariant: the digits tell the steps among the uses so far.
use Rattle.allocator.specs.Links.{Steps}
use Rattle.allocator.proofs.buses.steps_of.Given as goal

abbrev pub invariant-loop-y : goal.invariant-loop-y
invariant-loop-y l = Steps l.uses l.y-index l.x l.steps
