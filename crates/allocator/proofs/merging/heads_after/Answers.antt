use borrow.Author.Rules.{rules}
use lib.ListN.{get_or}
use Rattle.allocator.specs.Merging.{head_after}
use Rattle.ranges.specs.Arrays.{made}
use Rattle.allocator.proofs.merging.heads_after.Goals as goal

pub returns : goal.returns
returns c = let s = c.args in made _ 240 (λ k. head_after s.edge.smaller s.edge.larger (get_or s.heads k 0)) _ (λ i y f l k. search rules) _ c.from_fn.ensures.items
