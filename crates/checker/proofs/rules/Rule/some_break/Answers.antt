use Rattle.std.proofs.Common.{sym, arith}
use borrow.Author.Count.{below_more}
use Rattle.ranges.specs.Finding.{any-true, none_any}
use Rattle.checker.specs.Bound.{some_break}
use Rattle.checker.proofs.rules.Rule.some_break.Goals as goal

pub loop-i-preserved : goal.loop-i-preserved
loop-i-preserved c = below_more _ _ c.loop-i.invariant (rw c.against.ensures at c.if-against.false)

pub returns-then-against : goal.returns-then-against
unfolding some_break
returns-then-against c = sym (any-true 3 _ c.loop-i.i (omega arith) (rw c.against.ensures at c.if-against.true))

pub returns : goal.returns
unfolding some_break
returns c = sym (none_any 3 _ (λ k l. c.loop-i.invariant k (omega arith)))
