-- `placing::first_fault` meets its contract. The loop's invariant: none of the first v places has a fault.
use Prim.Native.Nat.{ℕ, ◌<◌}
use mathlib.Core.Path.{◌≡◌}
use Rattle.reader.specs.Binding.{place_fault}
use Rattle.reader.proofs.placing.first_fault.Given as goal

abbrev pub invariant-loop-v : goal.invariant-loop-v
invariant-loop-v l = (k : ℕ) → k < l.v → place_fault l.block l.binding k ≡ 0
