-- `held_of` meets its contract: each word is what the register of the value has.
use Rattle.std.proofs.Common.{rules}
use Rattle.ranges.specs.Arrays.{made}
use Rattle.runner.proofs.datapath.Datapath.held_of.Goals as goal

pub returns : goal.returns
returns c = made _ 80 _ _ (λ i y q l k. search rules) _ c.from_fn.ensures.items
