-- `tables::table` meets its contract: a refused block has the empty table, of any other every part is what its definition says.
use mathlib.Core.Path.{refl, sym, ◌∙◌}
use Rattle.std.specs.Prelude.{Ok}
use Rattle.reader.specs.Refusals.{read_as}
use Rattle.reader.proofs.RefusalLaws.{unread-number, not-ok}
use native.Mathlib.Omega.{arith}
use Rattle.reader.specs.Block.{incoming, outgoing}
use Rattle.reader.specs.Boundaries.{values-le}
use Rattle.reader.proofs.Answers.{last-step-is, few-records, read-is, no_table_lem, whole-table}
use Rattle.reader.proofs.Entries.{default-entry, default-table, all-lasts, taken, entered}
use Rattle.reader.proofs.tables.table.Goals as goal

pub returns-in_default : goal.returns-in_default
returns-in_default c =
    default-table c.default.result _ _ default-entry (λ x p. p) c.default.ensures
    ∙ no_table_lem c.args.block.now (read_as c.read.result) c.read.ensures (unread-number _ (not-ok _ c.in_default.not-Ok))

pub entries-all-requires : goal.entries-all-requires
entries-all-requires c =
    let R = read-is c.args.block.now (read_as (Ok c.in-Ok.readable)) c.in-Ok.ensures refl in
    let few = R.few in
    let less = values-le c.args.block.now in
    let m = c.count_values-values.ensures in
    (R.whole, few, omega arith, m)

pub slice_bounds-all-end : goal.slice_bounds-all-end
slice_bounds-all-end c =
    let few = few-records c.args.block.now (read_as (Ok c.in-Ok.readable)) c.in-Ok.ensures refl in
    omega (arith, taken c.args.block.now c.entries-all.result c.entries-all.ensures few)

pub slice_bounds-last_boundaries-end : goal.slice_bounds-last_boundaries-end
slice_bounds-last_boundaries-end c =
    let few = few-records c.args.block.now (read_as (Ok c.in-Ok.readable)) c.in-Ok.ensures refl in
    sym (taken c.args.block.now c.entries-all.result c.entries-all.ensures few)

pub last_boundaries-lasts-requires : goal.last_boundaries-lasts-requires
last_boundaries-lasts-requires c =
    let few = few-records c.args.block.now (read_as (Ok c.in-Ok.readable)) c.in-Ok.ensures refl in
    let less = values-le c.args.block.now in
    let m = c.count_values-values.ensures in
    let part = taken c.args.block.now c.entries-all.result c.entries-all.ensures few in
    omega arith

pub returns : goal.returns
unfolding incoming outgoing
returns c =
    let b = c.args.block.now in
    let read = c.in-Ok.ensures in
    let step = last-step-is b _ read refl in
    let few = few-records b _ read refl in
    let less = values-le b in
    let m = c.count_values-values.ensures in
    let part = taken b c.entries-all.result c.entries-all.ensures few in
    whole-table b _ read refl _ _ _ _ _ _ c.entries-all.ensures
    (c.last_boundaries-lasts.ensures ∙ all-lasts _ _ b (entered b c.entries-all.result c.in-Ok.readable.last_step c.entries-all.ensures few step) _ (omega arith) m)
    c.count_of.ensures c.count_values-values.ensures c.count_of-2.ensures step
