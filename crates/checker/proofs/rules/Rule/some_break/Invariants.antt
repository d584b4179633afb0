-- `some_break` meets its contract. The loop's invariant: no use before i breaks the rule with one of y.
use Rattle.std.proofs.Common.{◌≡◌, ℕ, ◌<◌, ◌&&◌, false, eqb}
use Rattle.ranges.specs.Below.{any_below}
use Rattle.checker.specs.Bound.{carried, uses_break}
use Rattle.checker.proofs.rules.Rule.some_break.Given as goal

abbrev pub invariant-loop-i : goal.invariant-loop-i
invariant-loop-i l = (k : ℕ) → k < l.i → any_below 3 (λ j. uses_break l.self (l.same && eqb k j) (carried l.x k) (carried l.y j)) ≡ false
