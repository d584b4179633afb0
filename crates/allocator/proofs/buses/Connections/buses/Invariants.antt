-- `buses` meets its contract. The loop's invariant: the first u uses have their buses, the rest are 0.
use mathlib.Core.Path.{◌≡◌}
use Rattle.ranges.specs.Below.{filled}
use Rattle.allocator.specs.Links.{use_at, bus_in}
use Rattle.allocator.proofs.buses.Connections.buses.Given as goal

abbrev pub invariant-loop-u : goal.invariant-loop-u
invariant-loop-u l = l.buses ≡ filled 240 l.u 0 (λ x. bus_in l.self.uses.now l.self.firsts.items l.numbers (use_at l.self.uses.now x))
