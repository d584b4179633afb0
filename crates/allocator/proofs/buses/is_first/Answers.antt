use native.Mathlib.Omega.{arith}
use mathlib.Core.Path.{sym, ◌∙◌}
use Rattle.allocator.proofs.LinkLaws.{not_first, first_made}
use Rattle.allocator.proofs.buses.is_first.Goals as goal

pub returns-then-same : goal.returns-then-same
returns-then-same c =
    let s = c.args in
    let at = c.loop-other in
    not_first s.earlier.now s.x at.other-index (omega arith) (sym c.same.ensures ∙ c.if-same.true)

pub returns : goal.returns
returns c = let at = c.loop-other in c.is_some.ensures ∙ first_made c.args.earlier.now c.args.x at.other-index c.loop-other-test.false at.invariant
