-- `takes` meets its contract. The loop's invariant: what is counted so far is the sum over the first v values.
use Rattle.std.proofs.Common.{◌*◌, ◌≤◌}
use Rattle.runner.specs.BoundTables.{takes_at, Sums}
use Rattle.runner.proofs.datapath.Datapath.takes.Given as goal

abbrev pub invariant-loop-v : goal.invariant-loop-v
invariant-loop-v l = (l.taken ≤ 3 * l.v) × Sums l.self.table l.self.places (takes_at l.k l.s) l.taken l.v
