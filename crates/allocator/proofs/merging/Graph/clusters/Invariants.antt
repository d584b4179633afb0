-- `clusters` meets its contract. The loop's invariant: what is left of the run of merges gives the heads of the whole run.
use mathlib.Core.Path.{◌≡◌}
use Prim.Native.Nat.{◌-◌}
use Rattle.ranges.specs.Below.{tabulate}
use Rattle.allocator.specs.Merging.{heads_by, most_common}
use Rattle.allocator.specs.Words.{held, leading, Under}
use Rattle.allocator.proofs.merging.Graph.clusters.Given as goal

abbrev pub invariant-loop : goal.invariant-loop
invariant-loop l =
    (l.graph.count ≡ l.fn.self.count) × Under l.fn.self.count l.heads
    × (heads_by most_common (l.fn.self.count - l.counter) (held l.fn.self.count l.graph.rows) (leading l.fn.self.count l.heads)
    ≡ heads_by most_common l.fn.self.count (held l.fn.self.count l.fn.self.rows) (tabulate l.fn.self.count (λ i. i)))
