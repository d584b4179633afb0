-- `node_of` meets its contract. The loop's invariant: none of the first i connections is that of x.
use mathlib.Core.Path.{◌≡◌}
use Prim.Native.Nat.{ℕ, ◌<◌}
use mathlib.Core.Bool.{false}
use lib.ListN.{get_or}
use Rattle.allocator.specs.Links.{use_at, same_use}
use Rattle.allocator.proofs.buses.Connections.node_of.Given as goal

abbrev pub invariant-loop-i : goal.invariant-loop-i
invariant-loop-i l = (j : ℕ) → j < l.i → same_use (use_at l.self.uses.now (get_or l.self.firsts.items j 0)) l.x ≡ false
