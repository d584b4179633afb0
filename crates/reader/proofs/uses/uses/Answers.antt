-- `uses` meets its contract: each use is the definition's.
use Rattle.std.proofs.Common.{rules}
use Rattle.reader.specs.Uses.{use_at, uses_in}
use Rattle.ranges.specs.Arrays.{made}
use Rattle.reader.proofs.uses.uses.Goals as goal

pub returns : goal.returns
unfolding use_at uses_in
returns c = made _ 240 (use_at c.args.t.entries c.args.places) _ (λ i y q l k. search rules) _ c.from_fn.ensures.items
