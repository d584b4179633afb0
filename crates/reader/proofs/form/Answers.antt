-- `form` meets its contract: each answer stands where its tests led to it.
use mathlib.Core.Path.{sym, ◌∙◌}
use Rattle.reader.specs.Refusals.{read_as}
use Rattle.reader.specs.Boundaries.{values-le}
use Rattle.reader.proofs.Answers.{few-records, no-form, parts-of-records, not-as-many, by-places}
use Rattle.reader.proofs.RefusalLaws.{unread-number, read-number}
use native.Mathlib.Omega.{arith}
use Rattle.reader.proofs.form.Goals as goal

pub returns-then-is_err : goal.returns-then-is_err
returns-then-is_err c = no-form c.args.block.now (read_as c.read.result) c.read.ensures c.args.binding.now (unread-number _ (sym c.is_err.ensures.value ∙ c.if-is_err.true))

pub returns-then-binding-ne0 : goal.returns-then-binding-ne0
returns-then-binding-ne0 c = parts-of-records c.args.block.now (read_as c.read.result) c.read.ensures c.args.binding.now (read-number _ (sym c.is_err.ensures.value ∙ c.if-is_err.false)) (omega arith)

pub returns-then-binding-values : goal.returns-then-binding-values
returns-then-binding-values c = not-as-many c.args.block.now (read_as c.read.result) c.read.ensures c.args.binding.now (read-number _ (sym c.is_err.ensures.value ∙ c.if-is_err.false)) (omega arith) (λ z. c.if-binding-values.true (z ∙ sym c.count_values-values.ensures))

pub first_fault-requires : goal.first_fault-requires
first_fault-requires c =
    let b = c.args.block.now in
    let m = c.count_values-values.ensures in
    let few = few-records b (read_as c.read.result) c.read.ensures (read-number _ (sym c.is_err.ensures.value ∙ c.if-is_err.false)) in
    (m, omega (arith, values-le b), omega arith)

pub returns : goal.returns
returns c =
    let start = c in
    by-places start.args.block.now (read_as c.read.result) c.read.ensures start.args.binding.now (read-number _ (sym c.is_err.ensures.value ∙ c.if-is_err.false)) (omega arith)
    (c.if-binding-values.false ∙ c.count_values-values.ensures) _ c.first_fault.ensures
