use mathlib.Core.Path.{sym, ap, ◌∙◌}
use lib.Dec.{eqb}
use borrow.Author.Count.{below_more}
use Rattle.reader.specs.declared.Record.{Record}
use Rattle.reader.specs.Records.{record_of}
use Rattle.reader.specs.Refusals.{fault_number}
use Rattle.reader.proofs.RefusalLaws.{not-zero}
use Rattle.reader.proofs.Turns.{place_is, place-stops, all_right_lem}
use native.Mathlib.Omega.{arith}
use Rattle.reader.proofs.placing.first_fault.Goals as goal

pub loop-v-init : goal.loop-v-init
loop-v-init c = λ k h. absurd (omega arith)

pub returns-in-Err : goal.returns-in-Err
unfolding record_of
returns-in-Err c =
    let a = c.args in
    let at = c.loop-v in
    let e = c.record_of-f.ensures in
    place-stops a.block.now a.binding.now at.v _ _ _ (ap (λ (x : Record). eqb x.kind 2) e) (ap (λ (x : Record). x.reads_right) e) c.in-Err.ensures (omega arith) at.invariant (not-zero c.in-Err.reason)

pub loop-v-preserved : goal.loop-v-preserved
unfolding record_of
loop-v-preserved c =
    let a = c.args in
    let at = c.loop-v in
    let e = c.record_of-f.ensures in
    let same = place_is a.block.now a.binding.now at.v _ _ _ (ap (λ (x : Record). eqb x.kind 2) e) (ap (λ (x : Record). x.reads_right) e) c.judge.ensures in
    below_more _ _ at.invariant (sym same ∙ ap fault_number c.in_default.is)

pub returns : goal.returns
returns c =
    let start = c in
    all_right_lem start.args.block.now start.args.binding.now (λ k h. c.loop-v.invariant k (omega (arith, start.requires.0)))
