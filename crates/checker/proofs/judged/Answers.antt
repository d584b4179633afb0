use Rattle.std.proofs.Common.{◌≡◌, ℕ, drop, sym, ap, ◌∙◌, arith}
use Rattle.reader.specs.declared.refusals.Reason.{Reason}
use Rattle.reader.specs.Refusals.{number_of}
use Rattle.checker.specs.Rules.{refusal}
use Rattle.checker.specs.Judgement.{judged_by, rules_in_order}
use Rattle.checker.proofs.Judgement.{broken-here, fine-then}
use Rattle.checker.proofs.judged.Goals as goal

pub loop-rule-preserved : goal.loop-rule-preserved
loop-rule-preserved c =
    c.loop-rule.invariant ∙ fine-then rules_in_order c.loop-rule.rule-index (omega arith) c.args.all.now c.first_broken.ensures c.in_default.is

pub returns-in-Some : goal.returns-in-Some
returns-in-Some c =
    let pair = c.in-Some.pair in
    ap (λ (reason : Reason). refusal (number_of reason) pair.later pair.earlier) c.into.ensures
    ∙ sym (c.loop-rule.invariant ∙ broken-here rules_in_order c.loop-rule.rule-index (omega arith) c.args.all.now c.first_broken.ensures c.in-Some.is)

pub returns : goal.returns
unfolding judged_by
returns c =
    let all = c.args.all.now in
    let e : c.loop-rule.rule-index ≡ 4 = omega arith in
    c.accepted.ensures ∙ sym (c.loop-rule.invariant ∙ ap (λ (i : ℕ). judged_by (drop i rules_in_order) all) e)
