use Rattle.runner.specs.Fillings.{reaches-next}
use Rattle.runner.proofs.datapath.Datapath.file_at_end.Goals as goal

pub loop-k-preserved : goal.loop-k-preserved
loop-k-preserved c = reaches-next _ _ _ _ _ _ _ c.loop-k.invariant c.after_step-next.ensures
