use native.Mathlib.Omega.{arith}
use mathlib.Core.Path.{sym, ap, ◌∙◌}
use Rattle.ranges.specs.Below.{keep_below}
use Rattle.allocator.proofs.LinkLaws.{first_same, firsts-few, firsts-more, firsts-same}
use Rattle.allocator.proofs.buses.first_uses.Goals as goal
use Rattle.allocator.proofs.buses.first_uses.Goals.{then-is_first, else-is_first}

pub loop-u-init : goal.loop-u-init
unfolding keep_below
loop-u-init c = c.new-firsts.ensures

pub push-requires : goal.push-requires
push-requires c =
    let at = c.loop-u in
    let few = firsts-few c.args.uses.now at.u at.firsts.items at.invariant in
    (omega arith, omega arith)

pub loop-u-preserved : goal.loop-u-preserved
loop-u-preserved c =
    let at = c.loop-u in
    let uses = c.args.uses.now in
    let here = sym (first_same uses at.u (omega arith)) ∙ sym c.is_first.ensures in
    elim c.if-is_first.branch [
      | then-is_first w ↦ ap (λ (v : _). v.items) w.firsts-is ∙ w.push.ensures.items ∙ firsts-more uses at.u at.firsts.items (here ∙ w.if-is_first.true) at.invariant
      | else-is_first w ↦ ap (λ (v : _). v.items) w.firsts-is ∙ firsts-same uses at.u at.firsts.items (here ∙ w.if-is_first.false) at.invariant
    ]
