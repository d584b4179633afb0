use Rattle.ranges.specs.Arrays.{made}
use borrow.Author.Rules.{rules}
use Rattle.allocator.proofs.sharing.lives.Goals as goal

pub returns : goal.returns
returns c = made _ 80 _ _ (λ i y f l k. search rules) _ c.from_fn.ensures.items
