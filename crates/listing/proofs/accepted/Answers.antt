-- `accepted` meets its contract: the lines of the values, and after them the counts.
use mathlib.Core.Path.{ap₂, ◌∙◌}
use mathlib.Core.List.{List, ◌++◌}
use Prim.Native.Nat.{ℕ}
use Rattle.listing.specs.Text.{listed}
use Rattle.listing.proofs.accepted.Goals as goal

pub returns : goal.returns
unfolding listed
returns c = λ b d s p.
    rw c.unwrap.ensures at c.try_extend_from_slice.ensures.ok
    ∙ ap₂ (λ (x y : List ℕ). x ++ y) (c.value_lines-text.ensures.lines b d s p) c.counts-counts.ensures
