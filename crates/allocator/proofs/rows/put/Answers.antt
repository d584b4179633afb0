-- `put` meets its contract: one digit of one word is set.
use mathlib.Core.Path.{ap, ◌∙◌}
use mathlib.Core.Bool.{Bool, true, cond}
use lib.Dec.{eqb}
use Rattle.allocator.specs.Words.{bit_of}
use Rattle.allocator.proofs.RowLaws.{bits-with, on-true}
use borrow.Author.Rules.{rules}
use Rattle.allocator.proofs.rows.put.Goals as goal

pub returns-then-on : goal.returns-then-on
returns-then-on c =
    let s = c in
    λ j. bits-with s.args.row s.args.k (search rules) s.requires j
    ∙ ap (λ (t : Bool). cond t true (bit_of s.args.row j)) (on-true (eqb j s.args.k) s.args.on c.if-on.true)
