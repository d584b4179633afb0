-- `placing::field_right` meets its contract.

use Rattle.reader.proofs.placing.field_right.Goals as goal

pub returns-then-needed : goal.returns-then-needed
returns-then-needed c = rw c.if-needed.true

pub returns-else-needed : goal.returns-else-needed
returns-else-needed c = rw c.if-needed.false
