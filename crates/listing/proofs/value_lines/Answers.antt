use native.Mathlib.Omega.{arith}
use mathlib.Core.Path.{sym, ap, ap₂, ◌∙◌}
use mathlib.Core.List.{List, ◌++◌}
use Prim.Native.Nat.{ℕ}
use lib.ListN.{length}
use Rattle.ranges.specs.Below.{rows}
use Rattle.ranges.specs.Tables.{rows_next}
use Rattle.listing.specs.Text.{line_of}
use Rattle.listing.specs.Characters.{shown-line}
use borrow.Author.Rules.{rules}
use Rattle.listing.proofs.value_lines.Goals as goal

pub loop-v-init : goal.loop-v-init
unfolding rows
loop-v-init c = (ap length c.new-text.ensures, λ b d s p. c.new-text.ensures)

pub loop-v-preserved : goal.loop-v-preserved
loop-v-preserved c =
    let at = c.loop-v in
    let a = c.args in
    let line = c.line-line in (
      search rules,
      λ b d s p.
          (rw c.unwrap.ensures at c.try_extend_from_slice.ensures.ok)
          ∙ ap₂ (λ (x y : List ℕ). x ++ y) (at.invariant.1 b d s p) (line.ensures ∙ shown-line a.t a.places b d at.v s p (omega (arith, s.values-are)))
          ∙ sym (rows_next at.v (line_of b d)),
    )
