use native.Mathlib.Omega.{arith}
use mathlib.Core.Path.{sym, ap, ◌∙◌}
use Prim.Native.Nat.{ℕ}
use mathlib.Core.List.{List}
use lib.ListN.{get_or, length}
use Rattle.allocator.specs.Links.{use_at, same_use}
use Rattle.allocator.proofs.LinkLaws.{found-at, found-none, first-below}
use Rattle.allocator.proofs.buses.Connections.node_of.Goals as goal

pub bounds-self-from : goal.bounds-self-from
bounds-self-from c =
    let own = c.args.self.now in
    let same = c.as_slice-u-items.ensures.value in
    omega (arith, c.from.ensures, ap (λ (l : List ℕ). get_or l c.loop-i.i 0) same, first-below own.uses.now own.firsts.items c.loop-i.i own.listed (omega (arith, ap length same)))

pub returns-then-same : goal.returns-then-same
returns-then-same c =
    let own = c.args.self.now in
    let uses = own.uses.now in
    let at = c.loop-i in
    let same = c.as_slice-u-items.ensures.value in
    found-at uses own.firsts.items c.args.x at.i (omega (arith, ap length same)) at.invariant
    (ap (λ (k : ℕ). same_use (use_at uses k) c.args.x) (sym (c.from.ensures ∙ ap (λ (l : List ℕ). get_or l at.i 0) same)) ∙ sym c.same.ensures ∙ c.if-same.true)

pub returns : goal.returns
returns c =
    let own = c.args.self.now in
    let same = ap length c.as_slice-u-items.ensures.value in
    found-none own.uses.now own.firsts.items c.args.x c.loop-i.i (omega (arith, same)) (omega (arith, same)) c.loop-i.invariant
