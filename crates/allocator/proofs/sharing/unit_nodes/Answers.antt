use native.Mathlib.Omega.{arith}
use mathlib.Core.Path.{ap, ◌∙◌}
use Rattle.ranges.specs.Below.{keep_below}
use Rattle.allocator.proofs.SharingLaws.{units-kept, units-skipped, units-few}
use Rattle.allocator.proofs.sharing.unit_nodes.Goals as goal
use Rattle.allocator.proofs.sharing.unit_nodes.Goals.{then-e, else-e}

pub loop-e-init : goal.loop-e-init
unfolding keep_below
loop-e-init c = c.new-nodes.ensures

pub push-requires : goal.push-requires
push-requires c =
    let at = c.loop-e in
    let few = units-few c.args.entries.now at.e-index at.nodes.items at.invariant in
    (omega arith, omega arith)

pub loop-e-preserved : goal.loop-e-preserved
loop-e-preserved c =
    let at = c.loop-e in
    let entries = c.args.entries.now in
    elim c.if-e.branch [
      | then-e w ↦ ap (λ (v : _). v.items) w.nodes-is ∙ w.push.ensures.items ∙ units-kept entries at.e-index at.nodes.items _ w.if-e.true w.unit_node.ensures at.invariant
      | else-e w ↦ ap (λ (v : _). v.items) w.nodes-is ∙ units-skipped entries at.e-index at.nodes.items w.if-e.false at.invariant
    ]
