-- `read` meets its contract: each answer stands where its tests led to it.
use Rattle.std.proofs.lemmas.Result.{err_from_is_err_and}
use Rattle.reader.specs.Boundaries.{values-le}
use Rattle.reader.proofs.Answers.{not-whole, too_many, faulty, sound}
use Rattle.reader.proofs.RefusalLaws.{not-zero}
use native.Mathlib.Omega.{arith}
use Rattle.reader.proofs.read.Goals as goal

pub returns-then-block-ne0 : goal.returns-then-block-ne0
returns-then-block-ne0 c = rw c.into.ensures (not-whole c.args.block.now c.if-block-ne0.true)

pub returns-then-block-gt80 : goal.returns-then-block-gt80
returns-then-block-gt80 c = rw c.into-then-block-gt80.ensures (too_many c.args.block.now (omega arith) (omega arith))

pub returns-in_err-first_fault : goal.returns-in_err-first_fault
returns-in_err-first_fault c =
    let p = err_from_is_err_and c.from_residual.result c.from_residual.ensures.1 in
    rw (p.1, p.2) (faulty c.args.block.now (omega arith) (omega arith) _ _ c.in_err-first_fault.ensures (not-zero _))

pub overflow_cast-result : goal.overflow_cast-result
overflow_cast-result c = omega (arith, c.count_values.ensures, values-le c.args.block.now)

pub returns : goal.returns
returns c = sound c.args.block.now (omega arith) (omega arith) c.in_ok-first_fault.ensures c.count_values.result c.last_step.result c.count_values.ensures c.last_step.ensures
