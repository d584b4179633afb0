use Rattle.std.proofs.Common.{◌≡◌, ◌<◌, sym, ap, ◌∙◌, arith, rules}
use Rattle.reader.specs.Block.{values}
use Rattle.runner.specs.DatapathRun.{file_after}
use Rattle.runner.specs.Fillings.{step_filling, begins, step_stays, step-done}
use Rattle.runner.specs.declared.filling.Filling.{Filling}
use Rattle.runner.proofs.datapath.Datapath.after_step.Goals as goal
use Rattle.runner.proofs.datapath.Datapath.after_step.Goals.{then-written, else-written}

pub loop-v-init : goal.loop-v-init
loop-v-init c = record { is = λ b d L. begins _ _ _ c.args.file _ (search rules) c.new-s.ensures }

pub loop-v-preserved : goal.loop-v-preserved
loop-v-preserved c =
    let at = c.loop-v in
    record {
      is = λ b d L.
          let l : at.v < values b = omega (arith, L.shown.values-are) in
          let h = at.invariant.is b d L in
          elim c.if-written.branch [
            | then-written w ↦ w.s-is ∙ w.step_value.ensures b d _ L l h
            | else-written w ↦ w.s-is ∙ step_stays _ _ b d L _ at.v l _ _ (sym c.written.ensures ∙ w.if-written.false) h
          ];
    }

pub returns : goal.returns
returns c =
    let start = c.new-s in
    let k = c.args.k in
    let at = c.loop-v in
    λ b d L. let e : at.v ≡ values b = omega (arith, L.shown.values-are) in
    ap (λ (s : Filling). s.words) (at.invariant.is b d L ∙ ap (step_filling b d start.result.began k) e) ∙ step-done b d start.result.began k
    ∙ ap (λ (s : Filling). file_after b d k s.began) start.ensures
