-- `sources::names` meets its contract. The loop's invariant: the names of the first i records, the rest have none.
use Rattle.std.proofs.Common.{◌≡◌, None}
use Rattle.ranges.specs.Below.{filled}
use Rattle.reader.specs.Sources.{named_in}
use Rattle.reader.proofs.sources.names.Given as goal

abbrev pub invariant-loop-i : goal.invariant-loop-i
invariant-loop-i l = l.all ≡ filled 80 l.i None (named_in l.block)
