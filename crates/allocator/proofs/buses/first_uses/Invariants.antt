-- `first_uses` meets its contract. The loop's invariant: the first uses among the first u are listed.
use mathlib.Core.Path.{◌≡◌}
use Rattle.ranges.specs.Below.{keep_below}
use Rattle.allocator.specs.Links.{first_in}
use Rattle.allocator.proofs.buses.first_uses.Given as goal

abbrev pub invariant-loop-u : goal.invariant-loop-u
invariant-loop-u l = l.firsts.items ≡ keep_below l.u (first_in l.uses)
