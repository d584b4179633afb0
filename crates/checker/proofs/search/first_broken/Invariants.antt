-- `first_broken` meets its contract. The outer loop's invariant: no pair with a later value before v breaks the rule; the inner loop's: nor
-- does v with a value before w. The measure is what is left of the values.
use Rattle.std.proofs.Common.{◌≡◌, ℕ, ◌-◌, ◌≤◌, ◌<◌, false, length}
use Rattle.checker.proofs.FirstPair.{Passed}
use Rattle.checker.specs.Bound.{breaks_in}
use Rattle.checker.proofs.search.first_broken.Given as goal

abbrev pub invariant-loop-w : goal.invariant-loop-w
invariant-loop-w l = (j : ℕ) → j < l.w → breaks_in l.rule l.all l.v j ≡ false

abbrev pub invariant-search : goal.invariant-search
invariant-search l = (l.v ≤ length l.all) × Passed (breaks_in l.rule l.all) l.v

abbrev pub decreases-search : goal.decreases-search
decreases-search l = length l.all - l.v
