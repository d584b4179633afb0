-- `step_value` meets its contract: what arrives at an operation written in the step comes to its register.
use Rattle.std.proofs.Common.{ℕ, List, sym, ap, ◌∙◌}
use Rattle.reader.specs.StepsInUse.{written-operation}
use Rattle.runner.specs.DatapathRun.{arriving}
use Rattle.runner.specs.Fillings.{began-is, written_is, step-next}
use Rattle.runner.proofs.datapath.Datapath.step_value.Goals as goal

pub returns : goal.returns
returns c =
    let start = c in
    let a = start.args in
    let t = a.self.now.table in
    let places = a.self.now.places in
    let w = start.requires.1 in
    λ b d f L l h.
    let o = written-operation b a.v a.k (sym (written_is t places b d L f a.v l a.s.now a.k) ∙ w) in
    let e = began-is _ _ _ f a.s.now a.v h in
    c.take.ensures
    ∙ step-next t places b d L f a.v l a.s.now a.k _ w (c.arriving.ensures b d L l o ∙ ap (λ (g : List ℕ). arriving b d g a.k a.v) e) h
