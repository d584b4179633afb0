-- `file_of` meets its contract: each word is the register's.
use Rattle.std.proofs.Common.{rules}
use Rattle.ranges.specs.Arrays.{made}
use Rattle.runner.proofs.words.file_of.Goals as goal

pub returns : goal.returns
returns c = made _ 80 _ _ (λ i y q l k. search rules) _ c.from_fn.ensures.items
