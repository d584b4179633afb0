use Rattle.std.proofs.Common.{None, ◌∙◌, arith}
use Rattle.ranges.specs.Tables.{filled_none, filled_more, filled-end}
use Rattle.reader.specs.Sources.{named_in}
use Rattle.reader.proofs.Entries.{all-names}
use Rattle.reader.proofs.sources.names.Goals as goal

pub loop-i-init : goal.loop-i-init
loop-i-init c = filled_none 80 None (named_in c.args.block.now)

pub loop-i-preserved : goal.loop-i-preserved
loop-i-preserved c = let at = c.loop-i in filled_more 80 None _ at.i _ _ (omega arith) at.invariant c.named-own.ensures

pub returns : goal.returns
returns c = filled-end 80 None _ _ _ _ (omega arith) c.loop-i.invariant ∙ all-names c.args.block.now c.requires.0
