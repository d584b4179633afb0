-- `run_datapath` meets its contract: refused, nothing is stored; done, the register file is that of T, and the outgoing words are taken from it.
use Rattle.std.proofs.Common.{◌≡◌, ℕ, List, length, take, sym, refl, ap, ◌∙◌, ap₂, arith, ne_eqb}
use Rattle.std.proofs.lemmas.Result.{err_from_is_err_and}
use Rattle.ranges.specs.Below.{filled}
use Rattle.ranges.specs.Tables.{tabulate-list}
use Rattle.reader.specs.Block.{outgoing, last_step}
use Rattle.reader.specs.TableLaws.{shown_by, table-few}
use Rattle.reader.specs.declared.refusals.Reason.TheVariants.{RegisterFile}
use Rattle.reader.proofs.RefusalLaws.{not-zero}
use Rattle.runner.specs.DatapathRun.{file_at}
use Rattle.runner.specs.Numbers.{Ran}
use Rattle.runner.specs.Answers.{refused, done, counted, registered}
use Rattle.runner.specs.AnswerLaws.{is_read, is_formed, met, unread-datapath, misformed-datapath, counted-datapath, datapath-stopped, datapath-ended, room-few}
use Rattle.runner.specs.BoundTables.{laid, datapath-sent, file-whole}
use Rattle.runner.specs.TableRuns.{sent_by}
use Rattle.runner.proofs.run_datapath.Goals as goal

pub returns-in_err-read : goal.returns-in_err-read
returns-in_err-read c =
    let a = c.args in
    let p = err_from_is_err_and c.from_residual.result c.from_residual.ensures.1 in
    rw (p.1, p.2) (datapath-stopped a.block.now a.binding.now a.incoming.now a.outgoing.now a.registers.now _ (unread-datapath _ _ _ _ _ _ c.in_err-read.ensures) (not-zero _))

pub returns-in_err-form : goal.returns-in_err-form
returns-in_err-form c =
    let a = c.args in
    let b = a.block.now in
    let p = err_from_is_err_and c.from_residual-in_err-form.result c.from_residual-in_err-form.ensures.1 in
    let z = is_read b c.in_ok-read.ensures refl in
    rw (p.1, p.2) (datapath-stopped b a.binding.now a.incoming.now a.outgoing.now a.registers.now _ (misformed-datapath _ _ _ _ _ z _ c.in_err-form.ensures) (not-zero _))

pub returns-in_err-counted : goal.returns-in_err-counted
returns-in_err-counted c =
    let a = c.args in
    let b = a.block.now in
    let p = err_from_is_err_and c.from_residual-in_err-counted.result c.from_residual-in_err-counted.ensures.1 in
    let z = is_read b c.in_ok-read.ensures refl in
    let y = is_formed b a.binding.now c.in_ok-form.ensures refl in
    let S = shown_by _ b c.table-t.ensures z in
    rw (p.1, p.2) (datapath-stopped b a.binding.now a.incoming.now a.outgoing.now a.registers.now _
    (counted-datapath _ _ _ _ _ z y (c.in_err-counted.ensures b a.incoming.now a.outgoing.now (registered (length a.registers.now) (outgoing b)) S refl refl)) (not-zero _))

pub returns-then-registers-ne80 : goal.returns-then-registers-ne80
returns-then-registers-ne80 c =
    let a = c.args in
    let b = a.block.now in
    let z = is_read b c.in_ok-read.ensures refl in
    let y = is_formed b a.binding.now c.in_ok-form.ensures refl in
    let S = shown_by _ b c.table-t.ensures z in
    let short : registered (length a.registers.now) (outgoing b) ≡ refused 23 0 0 = rw (ne_eqb _ 80 c.if-registers-ne80.true) in
    rw c.into.ensures
    (datapath-stopped b a.binding.now a.incoming.now a.outgoing.now a.registers.now _
    (counted-datapath _ _ _ _ _ z y (sym short ∙ c.in_ok-counted.ensures b a.incoming.now a.outgoing.now (registered (length a.registers.now) (outgoing b)) S refl refl)) (not-zero RegisterFile))

pub invariant_of-path : goal.invariant_of-path
invariant_of-path c = record { few = rw c.table-t.ensures (omega (arith, table-few c.args.block.now)) }

pub sent_of-sent-requires : goal.sent_of-sent-requires
sent_of-sent-requires c = rw c.table-t.ensures (omega (arith, table-few c.args.block.now))

pub overflow_cast-result : goal.overflow_cast-result
overflow_cast-result c = rw c.table-t.ensures (omega (arith, table-few c.args.block.now))

pub hand_out-requires : goal.hand_out-requires
hand_out-requires c =
    let a = c.args in
    let b = a.block.now in
    let z = is_read b c.in_ok-read.ensures refl in
    let S = shown_by _ b c.table-t.ensures z in
    let m = met b a.incoming.now a.outgoing.now (λ next. c.in_ok-counted.ensures b a.incoming.now a.outgoing.now next S refl refl) in
    omega (arith, m.outgoing-room, room-few b z)

pub returns : goal.returns
returns c =
    let b = c.args.block.now in
    let d = c.args.binding.now in
    let w = c.args.incoming.now in
    let o = c.args.outgoing.now in
    let r = c.args.registers.now in
    let t = c.table-t.result in
    let z = is_read b c.in_ok-read.ensures refl in
    let y = is_formed b d c.in_ok-form.ensures refl in
    let S = shown_by _ b c.table-t.ensures z in
    let passed : (next : Ran) → next ≡ counted b w o next = λ next. c.in_ok-counted.ensures b w o next S refl refl in
    let L = laid _ _ b d S c.places.ensures in
    let file = c.file_at_end-file.ensures b d L
    ∙ ap (λ (f : List ℕ). file_at b d w f (last_step b)) (c.file_of.ensures ∙ tabulate-list 80 0 r c.if-registers-ne80.false) in
    datapath-ended b d w o r _ (counted-datapath b d w o r z y (ap done S.outgoing-are ∙ ap (λ (n : ℕ). registered n (outgoing b)) (sym c.if-registers-ne80.false) ∙ passed (registered (length r) (outgoing b)))) _ _ refl
    (c.hand_out.ensures ∙ ap₂ take (met b w o passed).outgoing-room (c.sent_of-sent.ensures ∙ ap (λ (all : List ℕ). filled 80 t.outgoing 0 (sent_by t all)) c.held_of.ensures)
    ∙ datapath-sent t _ b d w r L _ file)
    (c.hand_out-2.ensures ∙ ap₂ take c.if-registers-ne80.false file ∙ file-whole b d w r (last_step b))
