-- `nodes` meets its contract. The loop's invariant: the nodes of the first connections are pushed.
use Rattle.allocator.specs.Links.{Nodes}
use Rattle.allocator.proofs.buses.Connections.nodes.Given as goal

abbrev pub invariant-loop-u : goal.invariant-loop-u
invariant-loop-u l = Nodes l.self.uses.now l.self.firsts.items l.u-index l.nodes.items
