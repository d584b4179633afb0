-- `records` meets its contract. The loop's invariant: the records of the first v places stand one after another.
use Prim.Native.Nat.{◌*◌}
use mathlib.Core.Path.{◌≡◌}
use Rattle.arrayvec.specs.ArrayVec.{array_vec_len}
use Rattle.ranges.specs.Below.{rows}
use Rattle.allocator.specs.Written.{record_of}
use Rattle.allocator.proofs.writing.records.Given as goal

abbrev pub invariant-loop-v : goal.invariant-loop-v
invariant-loop-v l = (array_vec_len l.all ≡ 8 * l.v) × (l.all.items ≡ rows l.v (record_of l.places l.buses))
