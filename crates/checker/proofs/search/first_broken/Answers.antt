use Rattle.std.proofs.Common.{length, arith}
use borrow.Author.Count.{below_more}
use Rattle.checker.proofs.FirstPair.{passed-more, no-pair, found-pair}
use Rattle.checker.specs.Bound.{breaks_in, only-earlier}
use Rattle.checker.proofs.search.first_broken.Goals as goal

pub search-init : goal.search-init
search-init c = (omega arith, record { none = λ k j l. absurd (omega arith) })

pub loop-w-init : goal.loop-w-init
loop-w-init c = λ j l. absurd (omega arith)

pub loop-w-preserved : goal.loop-w-preserved
unfolding breaks_in
loop-w-preserved c =
    let at = c.loop-w in
    below_more _ _ at.invariant (rw c.breaks.ensures at c.if-breaks.false)

pub search-preserved : goal.search-preserved
search-preserved c =
    let a = c.args in
    let v = c.search.v in
    (omega arith, passed-more (breaks_in a.rule a.all.now) v c.search.invariant.1 c.loop-w.invariant (omega arith) (only-earlier a.rule a.all.now v))

pub returns-then-all-v : goal.returns-then-all-v
returns-then-all-v c = let a = c.args in no-pair (length a.all.now) (breaks_in a.rule a.all.now) c.search.v (omega arith) c.search.invariant.1

pub returns-then-breaks : goal.returns-then-breaks
unfolding breaks_in
returns-then-breaks c =
    let a = c.args in
    let v = c.search.v in
    let w = c.loop-w.w in
    found-pair (length a.all.now) (breaks_in a.rule a.all.now) v w (omega arith) (omega arith) c.search.invariant.1 c.loop-w.invariant
    (rw c.breaks.ensures at c.if-breaks.true)
