-- `against` meets its contract. The loop's invariant: no use before j breaks the rule.
use Rattle.std.proofs.Common.{◌≡◌, ℕ, ◌<◌, ◌&&◌, false, eqb}
use Rattle.checker.specs.Bound.{carried, uses_break}
use Rattle.checker.proofs.rules.Rule.against.Given as goal

abbrev pub invariant-loop-j : goal.invariant-loop-j
invariant-loop-j l = (k : ℕ) → k < l.j → uses_break l.self (l.same && eqb l.i k) l.a (carried l.y k) ≡ false
