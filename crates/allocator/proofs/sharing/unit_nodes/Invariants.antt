-- `unit_nodes` meets its contract. The loop's invariant: the nodes of the operations among the first entries are pushed.
use mathlib.Core.Path.{◌≡◌}
use mathlib.Core.List.{map}
use Rattle.ranges.specs.Below.{keep_below}
use Rattle.allocator.specs.Placing.{unit_node_at, computes_at}
use Rattle.allocator.proofs.sharing.unit_nodes.Given as goal

abbrev pub invariant-loop-e : goal.invariant-loop-e
invariant-loop-e l = l.nodes.items ≡ map (unit_node_at l.entries) (keep_below l.e-index (computes_at l.entries))
