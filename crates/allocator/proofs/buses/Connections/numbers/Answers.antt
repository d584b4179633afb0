-- `numbers` meets its contract: the graph of the nodes is the graph of buses.
use mathlib.Core.Path.{sym, ap, ◌∙◌, subst}
use Prim.Native.Nat.{ℕ}
use lib.ListN.{length}
use Rattle.allocator.specs.Merging.{merging}
use Rattle.allocator.specs.Words.{leading}
use Rattle.allocator.specs.Allocation.{bus_numbers}
use Rattle.allocator.specs.Links.{Nodes}
use Rattle.allocator.proofs.BusLaws.{count-same-firsts, bus-graph}
use Rattle.allocator.proofs.buses.Connections.numbers.Goals as goal

pub returns : goal.returns
unfolding bus_numbers
returns c =
    let own = c.args.self.now in
    let uses = own.uses.now in
    let firsts = own.firsts.items in
    let N = subst (Nodes uses firsts (length firsts)) (sym c.as_slice.ensures.value) c.nodes-nodes.ensures in
    λ b d U. ap (λ (k : ℕ). leading k c.clusters.result) (sym (N.many ∙ count-same-firsts uses b d U firsts own.listed)) ∙ c.clusters.ensures
    ∙ ap merging (bus-graph uses b d U firsts own.listed _ N)
