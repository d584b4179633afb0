use native.Mathlib.Omega.{arith}
use mathlib.Core.Path.{◌≡◌, refl, sym, ap, ap₂, ◌∙◌}
use mathlib.Core.List.{List}
use Prim.Native.Nat.{ℕ, suc, ◌+◌, ◌-◌}
use Rattle.ranges.specs.Below.{tabulate}
use Rattle.allocator.specs.Merging.{Graph, heads_by, most_common, numbered, clusters, merging}
use Rattle.allocator.specs.Words.{held, leading}
use Rattle.allocator.proofs.LeadingLaws.{leading-tabulate}
use Rattle.allocator.proofs.HeldLaws.{length-held}
use Rattle.allocator.proofs.HeadLaws.{under-table, leading-heads, head-below, run-edge, run-nothing, run-ended, edge-below}
use Rattle.allocator.proofs.merging.Graph.clusters.Goals as goal

pub loop-init : goal.loop-init
loop-init c =
    let own = c.args.self in
    let n = own.count in
    let e = c.own-heads.ensures in
    let whole : n - 0 ≡ n = omega arith in (
      refl,
      under-table n (λ k. k) _ own.few e (λ k l. l),
      ap₂ (λ (m : ℕ) (hs : List ℕ). heads_by most_common m (held n own.rows) hs) whole (ap (leading n) e ∙ leading-tabulate 240 n (λ k. k) own.few),
    )

pub merged-next-requires : goal.merged-next-requires
merged-next-requires c = let g = c.loop.graph in edge-below g.count g.rows _ c.in-Some.edge c.choose.ensures c.in-Some.is

pub heads_after-after-requires : goal.heads_after-after-requires
heads_after-after-requires c =
    let g = c.loop.graph in
    let e = edge-below g.count g.rows _ c.in-Some.edge c.choose.ensures c.in-Some.is in
    omega (arith, e.0, e.1, g.few)

pub loop-preserved : goal.loop-preserved
loop-preserved c =
    let n = c.args.self.count in
    let few = c.args.self.few in
    let at = c.loop in
    let edge = c.in-Some.edge in
    let i = edge.smaller in
    let j = edge.larger in
    let same = at.invariant.0 in
    let q = c.choose.ensures ∙ ap (λ (m : ℕ). most_common (held m at.graph.rows)) same in
    let e = edge-below n at.graph.rows _ edge q c.in-Some.is in
    let m = c.merged-next.ensures in
    let left : n - at.counter ≡ suc (n - (at.counter + 1)) = omega arith in (
      m.0 ∙ same,
      under-table n _ _ few c.heads_after-after.ensures (head-below n at.heads i j (omega (arith, e.0, e.1)) at.invariant.1),
      ap₂ (λ (g : Graph) (hs : List ℕ). heads_by most_common (n - (at.counter + 1)) g hs) (rw same at m.1) (leading-heads n at.heads _ i j few c.heads_after-after.ensures)
          ∙ sym (run-edge most_common (held n at.graph.rows) (leading n at.heads) (n - at.counter) (n - (at.counter + 1)) edge left (sym q ∙ c.in-Some.is))
          ∙ at.invariant.2,
    )

pub returns-in_default : goal.returns-in_default
unfolding merging clusters
returns-in_default c =
    let own = c.args.self in
    let n = own.count in
    let at = c.loop in
    let q = c.choose.ensures ∙ ap (λ (m : ℕ). most_common (held m at.graph.rows)) at.invariant.0 in
    c.numbers.ensures n own.few at.invariant.1
    ∙ ap numbered (sym (run-nothing most_common (held n at.graph.rows) (leading n at.heads) (n - at.counter) (sym q ∙ c.in_default.is)) ∙ at.invariant.2)
    ∙ ap (λ (m : ℕ). numbered (heads_by most_common m (held n own.rows) (tabulate m (λ i. i)))) (sym (length-held n own.rows))

pub returns : goal.returns
unfolding merging clusters
returns c =
    let own = c.args.self in
    let n = own.count in
    let at = c.loop in
    c.numbers-2.ensures n own.few at.invariant.1
    ∙ ap numbered (sym (run-ended most_common (held n at.graph.rows) (leading n at.heads) (n - at.counter) (omega arith)) ∙ at.invariant.2)
    ∙ ap (λ (m : ℕ). numbered (heads_by most_common m (held n own.rows) (tabulate m (λ i. i)))) (sym (length-held n own.rows))
