-- `run_accepted` meets its contract: a binding that is not accepted runs nothing; one that is accepted sends the block's words, by `sent-right`.
use Rattle.std.proofs.Common.{refl}
use Rattle.std.proofs.lemmas.Result.{err_from_is_err_and}
use Rattle.reader.proofs.RefusalLaws.{not-zero}
use Rattle.evidence.proofs.RunsAccepted.{not-accepted, accepted-runs}
use Rattle.evidence.proofs.run_accepted.Goals as goal

pub returns-in_err-check : goal.returns-in_err-check
returns-in_err-check c =
    let p = err_from_is_err_and c.from_residual.result c.from_residual.ensures.1 in
    rw (p.1, p.2) (not-accepted _ _ _ _ _ _ c.in_err-check.ensures (not-zero _))

pub returns : goal.returns
returns c = accepted-runs _ _ _ _ _ _ c.in_ok-check.ensures refl _ _ _ c.run_datapath.ensures
