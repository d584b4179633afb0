-- `judged` meets its contract. The loop's invariant: what is answered is what the rules that are left answer.
use Rattle.std.proofs.Common.{◌≡◌, drop}
use Rattle.checker.specs.Judgement.{judged_by, judgement}
use Rattle.checker.proofs.judged.Given as goal

abbrev pub invariant-loop-rule : goal.invariant-loop-rule
invariant-loop-rule l = judgement l.all ≡ judged_by (drop l.rule-index l.rule-items) l.all
