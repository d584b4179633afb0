-- `both` meets its contract: word by word, the digits of `&`.
use Rattle.allocator.proofs.RowLaws.{bits-and, four-and}
use borrow.Author.Rules.{rules}
use Rattle.allocator.proofs.rows.both.Goals as goal

pub returns : goal.returns
returns c = let a = c.args in bits-and a.a a.b _ (four-and a.a a.b (search rules))
