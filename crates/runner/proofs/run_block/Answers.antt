-- `run_block` meets its contract: refused, nothing is stored; done, the outgoing words are those of the block's run.
use Rattle.std.proofs.Common.{◌≡◌, take, refl, ap, ◌∙◌, ap₂, arith}
use Rattle.std.proofs.lemmas.Result.{err_from_is_err_and}
use Rattle.reader.specs.Block.{outgoing}
use Rattle.reader.specs.TableLaws.{shown_by, table-few}
use Rattle.reader.proofs.RefusalLaws.{not-zero}
use Rattle.runner.specs.Numbers.{Ran}
use Rattle.runner.specs.Answers.{done, counted}
use Rattle.runner.specs.AnswerLaws.{is_read, met, unread-block, counted-block, block-stopped, block-ended, room-few}
use Rattle.runner.specs.TableRuns.{block-sent}
use Rattle.runner.proofs.run_block.Goals as goal

pub returns-in_err-read : goal.returns-in_err-read
returns-in_err-read c =
    let a = c.args in
    let p = err_from_is_err_and c.from_residual.result c.from_residual.ensures.1 in
    rw (p.1, p.2) (block-stopped a.block.now a.incoming.now a.outgoing.now _ (unread-block _ _ _ _ c.in_err-read.ensures) (not-zero _))

pub returns-in_err-counted : goal.returns-in_err-counted
returns-in_err-counted c =
    let a = c.args in
    let b = a.block.now in
    let p = err_from_is_err_and c.from_residual-in_err-counted.result c.from_residual-in_err-counted.ensures.1 in
    let z = is_read b c.in_ok-read.ensures refl in
    let S = shown_by _ b c.table-table.ensures z in
    rw (p.1, p.2) (block-stopped b a.incoming.now a.outgoing.now _ (counted-block _ _ _ z (c.in_err-counted.ensures b a.incoming.now a.outgoing.now (done (outgoing b)) S refl refl)) (not-zero _))

pub words_of-requires : goal.words_of-requires
words_of-requires c = rw c.table-table.ensures (omega (arith, table-few c.args.block.now))

pub sent_of-sent-requires : goal.sent_of-sent-requires
sent_of-sent-requires c = rw c.table-table.ensures (omega (arith, table-few c.args.block.now))

pub overflow_cast-result : goal.overflow_cast-result
overflow_cast-result c = rw c.table-table.ensures (omega (arith, table-few c.args.block.now))

pub hand_out-requires : goal.hand_out-requires
hand_out-requires c =
    let a = c.args in
    let b = a.block.now in
    let z = is_read b c.in_ok-read.ensures refl in
    let S = shown_by _ b c.table-table.ensures z in
    let m = met b a.incoming.now a.outgoing.now (λ next. c.in_ok-counted.ensures b a.incoming.now a.outgoing.now next S refl refl) in
    omega (arith, m.outgoing-room, room-few b z)

pub returns : goal.returns
returns c =
    let b = c.args.block.now in
    let w = c.args.incoming.now in
    let o = c.args.outgoing.now in
    let z = is_read b c.in_ok-read.ensures refl in
    let S = shown_by _ b c.table-table.ensures z in
    let passed : (next : Ran) → next ≡ counted b w o next = λ next. c.in_ok-counted.ensures b w o next S refl refl in
    block-ended b w o _ (counted-block b w o z (ap done S.outgoing-are ∙ passed (done (outgoing b)))) _ refl
    (c.hand_out.ensures ∙ ap₂ take (met b w o passed).outgoing-room c.sent_of-sent.ensures
    ∙ block-sent _ b w S _ (c.words_of.ensures b S))
