use Rattle.std.proofs.Common.{◌≡◌, ℕ, ap, ◌∙◌, arith}
use Rattle.ranges.specs.Below.{sum_below}
use Rattle.reader.specs.Block.{values}
use Rattle.reader.specs.declared.Entry.{Entry}
use Rattle.reader.specs.declared.Place.{Place}
use Rattle.runner.specs.BoundTables.{takes_by, takes-few, takes_at, takes_in, sums_none, sums_next, takes-by}
use Rattle.runner.proofs.datapath.Datapath.takes.Goals as goal

pub loop-v-init : goal.loop-v-init
loop-v-init c = (omega arith, sums_none _ _ _)

pub overflow_add-taken : goal.overflow_add-taken
overflow_add-taken c = omega (arith, takes-few _ _ _ _ c.takes_by-taken.ensures)

pub loop-v-preserved : goal.loop-v-preserved
loop-v-preserved c =
    let at = c.loop-v in
    let a = c.args in (
      omega (arith, takes-few _ _ _ _ c.takes_by-taken.ensures),
      rw c.takes_by-taken.ensures (sums_next a.self.now.table a.self.now.places (λ (e : Entry) (p : Place). takes_by e p a.k a.s) (takes_at a.k a.s)
          (takes-by a.k a.s) at.taken at.v (omega arith) at.invariant.1),
    )

pub returns : goal.returns
unfolding takes_in
returns c =
    let a = c.args in
    λ b d L. let e : c.loop-v.v ≡ values b = omega (arith, L.shown.values-are) in
    c.loop-v.invariant.1.is b d L ∙ ap (λ (n : ℕ). sum_below n (takes_at a.k a.s b d)) e
