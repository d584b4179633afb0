-- `better` meets its contract: the rows' shared bits are the common neighbours in the graph that they hold.
use native.Mathlib.Omega.{arith}
use mathlib.Core.Path.{sym, ap, ◌∙◌, subst}
use Rattle.std.specs.Prelude.{Option}
use Rattle.allocator.specs.Choosing.{weigh-skip, weigh-first, weigh-keep, weigh-take, Weighed, edge_of}
use Rattle.allocator.specs.Merging.{scan_pair}
use Rattle.allocator.specs.Words.{held}
use Rattle.allocator.specs.declared.merging.Best.{Best}
use Rattle.allocator.proofs.HeldLaws.{held-joined, held-common}
use Rattle.allocator.proofs.merging.Graph.better.Goals as goal

pub returns-then-not-bit : goal.returns-then-not-bit
returns-then-not-bit c =
    let own = c.args.self.now in
    let i = c.args.pair.smaller in
    let j = c.args.pair.larger in
    (tt, weigh-skip (held own.count own.rows) i j _ (held-joined own.count own.rows i j (omega arith) c.requires.1 ∙ sym c.bit.ensures ∙ c.if-not-bit.true))

pub returns-in-Some : goal.returns-in-Some
returns-in-Some c =
    let own = c.args.self.now in
    let g = held own.count own.rows in
    let i = c.args.pair.smaller in
    let j = c.args.pair.larger in
    let kept = subst (Weighed g) c.in-Some.is c.requires.2 in
    let common = held-common own.count own.rows i j own.clear (omega arith) c.requires.1 (omega (arith, own.few)) in (
      tt,
      ap edge_of c.in-Some.is ∙ weigh-keep g i j c.requires.0 (held-joined own.count own.rows i j (omega arith) c.requires.1 ∙ sym c.bit.ensures ∙ c.if-not-bit.false) c.in-Some.b.edge
          (omega (arith, kept, common, c.common-common.ensures.0, c.if-common-b.true))
          ∙ ap (λ (b : Option Best). scan_pair g i j (edge_of b)) (sym c.in-Some.is),
    )

pub returns-in_default : goal.returns-in_default
returns-in_default c =
    let own = c.args.self.now in
    let g = held own.count own.rows in
    let i = c.args.pair.smaller in
    let j = c.args.pair.larger in
    let kept = subst (Weighed g) c.in-Some.is c.requires.2 in
    let common = c.common-common.ensures.0 ∙ held-common own.count own.rows i j own.clear (omega arith) c.requires.1 (omega (arith, own.few)) in (
      common,
      weigh-take g i j c.requires.0 (held-joined own.count own.rows i j (omega arith) c.requires.1 ∙ sym c.bit.ensures ∙ c.if-not-bit.false) c.in-Some.b.edge
          (omega (arith, kept, common, c.if-common-b.false))
          ∙ ap (λ (b : Option Best). scan_pair g i j (edge_of b)) (sym c.in-Some.is),
    )

pub returns-in_default-2 : goal.returns-in_default-2
returns-in_default-2 c =
    let own = c.args.self.now in
    let g = held own.count own.rows in
    let i = c.args.pair.smaller in
    let j = c.args.pair.larger in (
      c.common-common.ensures.0 ∙ held-common own.count own.rows i j own.clear (omega arith) c.requires.1 (omega (arith, own.few)),
      weigh-first g i j c.requires.0 (held-joined own.count own.rows i j (omega arith) c.requires.1 ∙ sym c.bit.ensures ∙ c.if-not-bit.false)
          ∙ ap (λ (b : Option Best). scan_pair g i j (edge_of b)) (sym c.in_default.is),
    )
