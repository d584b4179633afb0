-- `placing::judge` meets its contract: 13 before 14.
use mathlib.Core.Path.{sym, ◌∙◌}
use borrow.Author.Tests.{eq-eqb, ne_eqb}
use Rattle.reader.specs.Binding.{record_fault}
use Rattle.reader.proofs.placing.judge.Goals as goal

pub returns-then-from-v : goal.returns-then-from-v
unfolding record_fault
returns-then-from-v c = rw (record_fault, ne_eqb _ _ (λ z. c.if-from-v.true (c.from.ensures ∙ c.field.ensures ∙ z)))

pub returns-then-fields_right : goal.returns-then-fields_right
unfolding record_fault
returns-then-fields_right c = rw (record_fault, eq-eqb _ _ (sym c.field.ensures ∙ sym c.from.ensures ∙ c.if-from-v.false), sym c.fields_right.ensures ∙ c.if-fields_right.true)

pub returns-else-fields_right : goal.returns-else-fields_right
unfolding record_fault
returns-else-fields_right c = rw (record_fault, eq-eqb _ _ (sym c.field.ensures ∙ sym c.from.ensures ∙ c.if-from-v.false), sym c.fields_right.ensures ∙ c.if-fields_right.false)
