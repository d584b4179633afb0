use native.Mathlib.Omega.{arith}
use mathlib.Core.Path.{refl, ap, ◌∙◌}
use Prim.Native.Nat.{ℕ}
use lib.ListN.{get_or}
use Rattle.ranges.specs.Below.{count_below, sum_below}
use Rattle.ranges.specs.Tables.{filled_none, filled_more}
use Rattle.ranges.specs.Counting.{count_next, count-le}
use Rattle.reader.specs.Binding.{no_place}
use Rattle.reader.specs.Table.{no_entry}
use Rattle.allocator.specs.Placing.{computes_at, place_in, place_at}
use Prim.Native.Nat.{◌+◌}
use Rattle.allocator.proofs.LeadingLaws.{byte-of}
use Rattle.allocator.proofs.placing.places.Goals as goal

pub loop-v-init : goal.loop-v-init
unfolding count_below sum_below
loop-v-init c = (refl, filled_none 80 no_place _)

pub bounds-units-node : goal.bounds-units-node
bounds-units-node c = omega (arith, c.loop-v.invariant.0, count-le c.loop-v.v (computes_at c.args.entries.now))

pub overflow_add-node : goal.overflow_add-node
overflow_add-node c = omega (arith, c.loop-v.invariant.0, count-le c.loop-v.v (computes_at c.args.entries.now), c.from-node.ensures, count_next c.loop-v.v (computes_at c.args.entries.now), count-le (c.loop-v.v + 1) (computes_at c.args.entries.now), byte-of (computes_at c.args.entries.now c.loop-v.v))

pub loop-v-preserved : goal.loop-v-preserved
unfolding place_at
loop-v-preserved c =
    let s = c.args in
    let entries = s.entries.now in
    let at = c.loop-v in (
      omega (arith, at.invariant.0, count_next at.v (computes_at entries), c.from-node.ensures, byte-of (computes_at entries at.v)),
      filled_more 80 no_place (place_at entries s.registers s.units) at.v _ _ (omega arith) at.invariant.1
          (c.place.ensures ∙ ap (λ (x : ℕ). place_in (get_or entries at.v no_entry) (get_or s.registers at.v 0) (get_or s.units x 0)) at.invariant.0),
    )
