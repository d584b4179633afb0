-- `register_nodes` meets its contract. The loop's invariant: the nodes of the first lives are pushed.
use mathlib.Core.Path.{◌≡◌}
use mathlib.Core.List.{map}
use lib.ListN.{take}
use Rattle.allocator.specs.Placing.{register_node}
use Rattle.allocator.proofs.sharing.register_nodes.Given as goal

abbrev pub invariant-loop-life : goal.invariant-loop-life
invariant-loop-life l = l.nodes.items ≡ map register_node (take l.life-index l.lives)
