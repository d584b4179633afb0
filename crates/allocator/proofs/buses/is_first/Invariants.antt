-- `is_first` meets its contract. The loop's invariant: none of the uses so far has the connection.
use mathlib.Core.Path.{◌≡◌}
use Prim.Native.Nat.{ℕ, ◌<◌}
use mathlib.Core.Bool.{false}
use Rattle.allocator.specs.Links.{made_alike}
use Rattle.allocator.proofs.buses.is_first.Given as goal

abbrev pub invariant-loop-other : goal.invariant-loop-other
invariant-loop-other l = (j : ℕ) → j < l.other-index → made_alike l.earlier l.x j ≡ false
