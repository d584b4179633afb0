use mathlib.Core.Path.{sym, ap, ap₂, ◌∙◌}
use mathlib.Core.List.{List, ◌++◌}
use Prim.Native.Nat.{ℕ}
use lib.ListN.{length}
use borrow.Author.Rules.{rules}
use Rattle.ranges.specs.Below.{rows}
use Rattle.ranges.specs.Tables.{rows_next}
use Rattle.allocator.specs.Written.{record_of}
use Rattle.allocator.proofs.WritingLaws.{record-read}
use Rattle.allocator.proofs.writing.records.Goals as goal

pub loop-v-init : goal.loop-v-init
unfolding rows
loop-v-init c = (ap length c.new-all.ensures, c.new-all.ensures)

pub loop-v-preserved : goal.loop-v-preserved
loop-v-preserved c =
    let at = c.loop-v in
    let a = c.args in (
      search rules,
      (rw c.unwrap.ensures at c.try_extend_from_slice.ensures.ok)
          ∙ ap₂ (λ (x y : List ℕ). x ++ y) at.invariant.1 (record-read a.places.now a.buses at.v)
          ∙ sym (rows_next at.v (record_of a.places.now a.buses)),
    )
