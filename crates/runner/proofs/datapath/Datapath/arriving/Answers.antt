-- `arriving` meets its contract: a move and a constant come over the left bus, the other operations from the unit over the result bus.
use Rattle.std.proofs.Common.{get_or, ap, ◌∙◌}
use borrow.Author.Tests.{not-true, not-false}
use Rattle.reader.specs.Binding.{no_place}
use Rattle.runner.specs.DatapathRun.{carried, given}
use Rattle.runner.specs.BoundTables.{holds, over_bus, from_unit, arriving-short, arriving-long}
use Rattle.runner.proofs.datapath.Datapath.arriving.Goals as goal

pub returns-then-not-e : goal.returns-then-not-e
returns-then-not-e c =
    λ b d L l k.
    let a = c.args in
    let left = c.alone-left.ensures b d L ∙ over_bus b d _ _ _ in
    left ∙ ap (carried b d a.k (get_or a.self.now.places a.v no_place).left) c.left_of.ensures
    ∙ arriving-short a.self.now.table a.self.now.places b d L a.file.now a.k a.v l k (not-true _ c.if-not-e.true)

pub returns : goal.returns
returns c =
    λ b d L l k.
    let a = c.args in
    let p = get_or a.self.now.places a.v no_place in
    arriving-long a.self.now.table a.self.now.places b d L a.file.now a.k a.v l k (not-false _ c.if-not-e.false) _ _ _ _
    (c.alone-left.ensures b d L ∙ over_bus b d _ _ _ ∙ ap (carried b d a.k p.left) c.left_of.ensures)
    (c.alone-right.ensures b d L ∙ over_bus b d _ _ _ ∙ ap (carried b d a.k p.right) (c.held-from_right.ensures ∙ ap (holds a.self.now.places a.file.now) c.from.ensures))
    (c.alone-given.ensures b d L ∙ from_unit b d _ _ _ ∙ ap (given b d a.k p.unit) c.result_by-made.ensures)
    (c.alone.ensures b d L ∙ over_bus b d _ _ _)
