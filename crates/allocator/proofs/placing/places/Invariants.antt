-- `places` meets its contract. The loop's invariant: node counts the nodes among the first v entries, and the first v places stand.
use mathlib.Core.Path.{◌≡◌}
use Rattle.ranges.specs.Below.{filled, count_below}
use Rattle.reader.specs.Binding.{no_place}
use Rattle.allocator.specs.Placing.{computes_at, place_at}
use Rattle.allocator.proofs.placing.places.Given as goal

abbrev pub invariant-loop-v : goal.invariant-loop-v
invariant-loop-v l = (l.node ≡ count_below l.v (computes_at l.entries)) × (l.places ≡ filled 80 l.v no_place (place_at l.entries l.registers l.units))
