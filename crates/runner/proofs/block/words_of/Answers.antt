use Rattle.std.proofs.Common.{◌≡◌, get_or, arith}
use Rattle.reader.specs.Table.{no_entry}
use Rattle.runner.specs.TableRuns.{word_by, worded-none, worded-next}
use Rattle.runner.proofs.block.words_of.Goals as goal

pub loop-v-init : goal.loop-v-init
loop-v-init c = worded-none _ _

pub loop-v-preserved : goal.loop-v-preserved
loop-v-preserved c =
    let at = c.loop-v in
    let a = c.args in
    let e = get_or a.t.entries at.v no_entry in
    let h : c.word_of.result ≡ word_by e (get_or a.incoming.now at.v 0) (get_or at.all e.left 0) (get_or at.all e.right 0) = cc in
    rw h (worded-next a.t a.incoming.now at.all at.v (omega arith) at.invariant)
