use borrow.Author.Rules.{rules}
use lib.ListN.{get_or}
use Rattle.ranges.specs.Arrays.{made}
use Rattle.allocator.proofs.HeadLaws.{numbers_of}
use Rattle.allocator.proofs.merging.numbers.Goals as goal

pub returns : goal.returns
returns c =
    let heads = c.args.heads in
    let ranks = c.ranks-ranks.result in
    numbers_of heads ranks _ c.ranks-ranks.ensures (made _ 240 (λ k. get_or ranks (get_or heads k 0) 0) _ (λ i y f l k. search rules) _ c.from_fn.ensures.items)
