-- `lines::bytes` fills no more places than it has passed.
use Rattle.std.proofs.Common.{◌≤◌, ◌+◌, length}
use Rattle.std.specs.Slice.Iter.{iter_mut_rest}
use Rattle.std.specs.Iterator.Adapters.{zip_first}
use Rattle.answering.proofs.lines.bytes.Given as goal

abbrev pub invariant-loop-place : goal.invariant-loop-place
invariant-loop-place l =
    (goal.iterator-loop-place).can_next l.place-iterator ×
    (goal.iterator-loop-place).is_finite l.place-iterator ×
    (l.n + length (iter_mut_rest (zip_first l.place-iterator)) ≤ length l.fn.room)
