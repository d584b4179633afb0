-- `counted` meets its contract: a count that is not met, or both met.
use Rattle.std.proofs.Common.{sym, ◌∙◌}
use Rattle.runner.specs.AnswerLaws.{counted-incoming, counted-outgoing, counted-after}
use Rattle.runner.proofs.counted.Goals as goal

pub returns-then-incoming-t : goal.returns-then-incoming-t
returns-then-incoming-t c =
    λ b w o next S e z.
    sym (counted-incoming b w o next (λ q. c.if-incoming-t.true (sym e ∙ q ∙ sym S.incoming-are)))

pub returns-then-outgoing-t : goal.returns-then-outgoing-t
returns-then-outgoing-t c =
    λ b w o next S e z.
    sym (counted-outgoing b w o next (e ∙ c.if-incoming-t.false ∙ S.incoming-are) (λ q. c.if-outgoing-t.true (sym z ∙ q ∙ sym S.outgoing-are)))

pub returns : goal.returns
returns c = λ b w o next S e z. sym (counted-after b w o next (e ∙ c.if-incoming-t.false ∙ S.incoming-are) (z ∙ c.if-outgoing-t.false ∙ S.outgoing-are))
