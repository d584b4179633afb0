-- `without` meets its contract: one digit of one word is cleared.
use Rattle.allocator.proofs.RowLaws.{bits-clear}
use borrow.Author.Rules.{rules}
use Rattle.allocator.proofs.rows.without.Goals as goal

pub returns : goal.returns
returns c = bits-clear c.args.row c.args.k (search rules) c.requires
