use Rattle.std.proofs.Common.{◌≡◌, ℕ, false, length, take, get_or, replicate, ap, ◌∙◌, arith}
use Rattle.ranges.specs.Below.{count_below, any_below}
use Rattle.checker.specs.Bound.{no_bound}
use Rattle.checker.specs.Counted.{numbers_of, occurs_as, different_in, adds_none, adds-next, count-taken, marks-count, numbers-few}
use Rattle.checker.proofs.counts.different.Goals as goal

pub loop-x-init : goal.loop-x-init
unfolding any_below
loop-x-init c = adds_none (replicate 256 false)

pub loop-x-preserved : goal.loop-x-preserved
loop-x-preserved c =
    let a = c.args in
    adds-next (λ u. occurs_as a.what (get_or a.all.now u no_bound)) c.loop-x.x-index c.loop-x.invariant c.mark_value.ensures

pub returns : goal.returns
unfolding different_in
returns c =
    let a = c.args in
    let at = c.loop-x in
    let e : at.x-index ≡ length a.all.now = omega arith in
    let n = numbers_of a.what in
    c.count.ensures
    ∙ ap (λ (top : ℕ). count_below (length (take top at.marks)) (λ k. get_or (take top at.marks) k false)) c.numbers.ensures
    ∙ count-taken n at.marks
    ∙ marks-count (λ k. any_below at.x-index (λ u. occurs_as a.what (get_or a.all.now u no_bound) k)) n (numbers-few a.what) at.invariant
    ∙ ap (λ (v : ℕ). count_below n (λ k. any_below v (λ u. occurs_as a.what (get_or a.all.now u no_bound) k))) e
