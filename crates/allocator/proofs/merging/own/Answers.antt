use borrow.Author.Rules.{rules}
use Rattle.ranges.specs.Arrays.{made}
use Rattle.allocator.proofs.merging.own.Goals as goal

pub returns : goal.returns
returns c = made _ 240 (λ k. k) _ (λ i y f l k. search rules) _ c.from_fn.ensures.items
