-- `unit_numbers` meets its contract: the graph of the nodes is the graph of units.
use mathlib.Core.Path.{sym, ap, ◌∙◌}
use Prim.Native.Nat.{ℕ}
use Rattle.allocator.specs.Merging.{merging}
use Rattle.allocator.specs.Words.{leading}
use Rattle.allocator.specs.Allocation.{unit_numbers}
use Rattle.allocator.proofs.SharingLaws.{nodes-many, unit-graph}
use Rattle.allocator.proofs.sharing.unit_numbers.Goals as goal

pub returns : goal.returns
unfolding unit_numbers
returns c =
    let entries = c.args.entries.now in
    let made = c.as_slice.ensures.value ∙ c.unit_nodes-nodes.ensures in
    λ b R. ap (λ (k : ℕ). leading k c.clusters.result) (sym (nodes-many entries b R _ made)) ∙ c.clusters.ensures ∙ ap merging (unit-graph entries b R _ made)
