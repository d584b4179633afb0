use native.Mathlib.Omega.{arith}
use mathlib.Core.Path.{refl, ap, ◌∙◌}
use Prim.Native.Nat.{ℕ, ◌+◌}
use lib.Dec.{eqb}
use Rattle.std.specs.Int.{from_bool}
use Rattle.ranges.specs.Below.{count_below, sum_below}
use Rattle.ranges.specs.Tables.{filled_none, filled_more}
use Rattle.ranges.specs.Counting.{count_next, count-le}
use Rattle.allocator.specs.Merging.{is_head}
use Rattle.allocator.proofs.LeadingLaws.{byte-of}
use Rattle.allocator.proofs.merging.ranks.Goals as goal

pub loop-k-init : goal.loop-k-init
unfolding count_below sum_below
loop-k-init c = (refl, filled_none 256 0 _)

pub overflow_add-next : goal.overflow_add-next
overflow_add-next c =
    let at = c.loop-k in
    let head = is_head c.args.heads in
    omega (
      arith,
      at.invariant.0,
      count-le (at.k + 1) head,
      count_next at.k head,
      byte-of (head at.k),
      c.from-next.ensures ∙ ap (λ (h : ℕ). from_bool (eqb h at.k)) c.from.ensures,
    )

pub loop-k-preserved : goal.loop-k-preserved
loop-k-preserved c =
    let at = c.loop-k in
    let head = is_head c.args.heads in (
      omega (arith, at.invariant.0, count_next at.k head, byte-of (head at.k), c.from-next.ensures ∙ ap (λ (h : ℕ). from_bool (eqb h at.k)) c.from.ensures),
      filled_more 256 0 _ at.k _ _ (omega arith) at.invariant.1 at.invariant.0,
    )
