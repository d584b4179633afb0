-- `row_of` meets its contract. The loop's invariant: the row has the joined nodes below j.
use lib.ListN.{get_or}
use Rattle.allocator.specs.Nodes.{near_nodes, no_node}
use Rattle.allocator.proofs.HeldLaws.{BitsTo}
use Rattle.allocator.proofs.graphs.row_of.Given as goal

abbrev pub invariant-loop-j : goal.invariant-loop-j
invariant-loop-j l = BitsTo (λ x. near_nodes l.own (get_or l.nodes x no_node)) l.row l.j
