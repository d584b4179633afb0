use Rattle.std.proofs.Common.{◌≡◌, ◌<◌, sym, ap, ◌∙◌, arith, rules}
use Rattle.reader.specs.Block.{values}
use Rattle.runner.specs.DatapathRun.{file_at}
use Rattle.runner.specs.Fillings.{entry_filling, begins, entry_next, entry_stays, entry_done}
use Rattle.runner.specs.declared.filling.Filling.{Filling}
use Rattle.runner.proofs.datapath.Datapath.at_entry.Goals as goal
use Rattle.runner.proofs.datapath.Datapath.at_entry.Goals.{then-enters, else-enters}

pub loop-v-init : goal.loop-v-init
loop-v-init c = record { is = λ b d L. begins _ _ _ c.args.file _ (search rules) c.new-s.ensures }

pub loop-v-preserved : goal.loop-v-preserved
loop-v-preserved c =
    let at = c.loop-v in
    record {
      is = λ b d L.
          let l : at.v < values b = omega (arith, L.shown.values-are) in
          let h = at.invariant.is b d L in
          elim c.if-enters.branch [
            | then-enters w ↦ w.s-is ∙ w.take.ensures ∙ entry_next _ _ b d L _ at.v l _ _ h _ (sym c.enters.ensures ∙ w.if-enters.true) w.word_at.ensures
            | else-enters w ↦ w.s-is ∙ entry_stays _ _ b d L _ at.v l _ _ h (sym c.enters.ensures ∙ w.if-enters.false)
          ];
    }

pub returns : goal.returns
returns c =
    let start = c.new-s in
    let w = c.args.incoming.now in
    let at = c.loop-v in
    λ b d L. let e : at.v ≡ values b = omega (arith, L.shown.values-are) in
    ap (λ (s : Filling). s.words) (at.invariant.is b d L ∙ ap (entry_filling b d w start.result.began) e) ∙ entry_done b d start.result.began w
    ∙ ap (λ (s : Filling). file_at b d w s.began 0) start.ensures
