use Rattle.std.proofs.Common.{sym, arith}
use Rattle.ranges.specs.Finding.{any-true, none_any}
use Rattle.checker.proofs.rules.Rule.against.Goals as goal

pub returns-then-uses_break : goal.returns-then-uses_break
returns-then-uses_break c = sym (any-true 3 _ c.loop-j.j (omega arith) (rw c.uses_break.ensures at c.if-uses_break.true))

pub returns : goal.returns
returns c = sym (none_any 3 _ (λ k l. c.loop-j.invariant k (omega arith)))
