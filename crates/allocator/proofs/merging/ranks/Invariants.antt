-- `ranks` meets its contract. The loop's invariant: next counts the heads below k, and the first k ranks stand.
use mathlib.Core.Path.{◌≡◌}
use Rattle.ranges.specs.Below.{filled, count_below}
use Rattle.allocator.specs.Merging.{is_head}
use Rattle.allocator.proofs.merging.ranks.Given as goal

abbrev pub invariant-loop-k : goal.invariant-loop-k
invariant-loop-k l = (l.next ≡ count_below l.k (is_head l.fn.heads)) × (l.ranks ≡ filled 256 l.k 0 (λ x. count_below x (is_head l.fn.heads)))
