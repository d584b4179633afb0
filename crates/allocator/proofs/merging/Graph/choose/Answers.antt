use native.Mathlib.Omega.{arith}
use mathlib.Core.Path.{◌≡◌, refl, sym, ap, ◌∙◌, subst}
use borrow.Author.Rules.{rules}
use Rattle.allocator.specs.Merging.{scan_pair, scan_rows, most_common}
use Rattle.allocator.specs.Words.{held}
use Rattle.allocator.specs.Choosing.{Weighed, edge_of, or_else, or-else-weighed, scan-next, scan-low, scan-row}
use Rattle.allocator.specs.declared.merging.Best.{Best}
use Rattle.std.specs.Prelude.{Option}
use Rattle.allocator.proofs.HeldLaws.{length-held}
use Rattle.allocator.proofs.merging.Graph.choose.Goals as goal
use Rattle.allocator.proofs.merging.Graph.choose.Goals.{in-Some, in_default}

pub loop-smaller-init : goal.loop-smaller-init
unfolding scan_rows
loop-smaller-init c = (tt, refl)

pub loop-larger-init : goal.loop-larger-init
loop-larger-init c =
    let own = c.args.self.now in
    let at = c.loop-smaller in
    (at.invariant.0, at.invariant.1 ∙ sym (scan-low (held own.count own.rows) at.smaller _))

pub loop-larger-preserved : goal.loop-larger-preserved
loop-larger-preserved c =
    let own = c.args.self.now in
    let g = held own.count own.rows in
    let i = c.loop-smaller.smaller in
    let at = c.loop-larger in
    let p = c.better.ensures in
    let best : c.match-better.best ≡ or_else c.better.result at.best =
    elim c.match-better.branch [
      | in-Some w ↦ w.best-is ∙ ap (λ (b : Option Best). or_else b at.best) (sym w.in-Some.is)
      | in_default w ↦ w.best-is ∙ ap (λ (b : Option Best). or_else b at.best) (sym w.in_default.is)
    ] in (
      subst (Weighed g) (sym best) (or-else-weighed g c.better.result at.best p.0 at.invariant.0),
      ap edge_of best ∙ p.1 ∙ ap (scan_pair g i at.larger) at.invariant.1 ∙ sym (scan-next g i at.larger (scan_rows g i)),
    )

pub loop-smaller-preserved : goal.loop-smaller-preserved
loop-smaller-preserved c =
    let own = c.args.self.now in
    let g = held own.count own.rows in
    let at = c.loop-larger in
    (at.invariant.0, at.invariant.1 ∙ scan-row g c.loop-smaller.smaller at.larger (length-held own.count own.rows ∙ omega arith))

pub returns : goal.returns
unfolding most_common
returns c =
    let own = c.args.self.now in
    let g = held own.count own.rows in
    let at = c.loop-smaller in
    let e : c.map.result ≡ edge_of at.best = search rules in
    e ∙ at.invariant.1 ∙ ap (scan_rows g) (omega (arith, length-held own.count own.rows))
