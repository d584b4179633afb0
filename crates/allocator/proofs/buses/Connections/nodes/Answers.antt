use native.Mathlib.Omega.{arith}
use mathlib.Core.Path.{sym, ap, ◌∙◌, subst}
use Prim.Native.Nat.{ℕ, ◌+◌}
use mathlib.Core.List.{List}
use lib.ListN.{length, get_or}
use Rattle.allocator.specs.Links.{use_at, Steps, Nodes}
use Rattle.allocator.proofs.LinkLaws.{nodes-more, first-below}
use Rattle.allocator.proofs.buses.Connections.nodes.Goals as goal

pub bounds-self-from : goal.bounds-self-from
bounds-self-from c =
    let own = c.args.self.now in
    let same = c.as_slice-u-items.ensures.value in
    omega (arith, c.from.ensures, ap (λ (l : List ℕ). get_or l c.loop-u.u-index 0) same, first-below own.uses.now own.firsts.items c.loop-u.u-index own.listed (omega (arith, ap length same)))

pub loop-u-preserved : goal.loop-u-preserved
loop-u-preserved c =
    let own = c.args.self.now in
    let at = c.loop-u in
    let u = c.from.ensures ∙ ap (λ (l : List ℕ). get_or l at.u-index 0) c.as_slice-u-items.ensures.value in
    subst (Nodes own.uses.now own.firsts.items (at.u-index + 1)) (sym c.push.ensures.items)
    (nodes-more own.uses.now own.firsts.items at.u-index at.nodes.items _ c.steps_of.result c.bus_node.ensures
    (subst (λ k. Steps own.uses.now (length own.uses.now) (use_at own.uses.now k) c.steps_of.result) u c.steps_of.ensures) at.invariant)
