-- `sent_of` meets its contract. The loop's invariant: the first j words are those of the first j outgoing records, the rest are 0.
use Rattle.std.proofs.Common.{◌≡◌}
use Rattle.ranges.specs.Below.{filled}
use Rattle.runner.specs.TableRuns.{sent_by}
use Rattle.runner.proofs.block.sent_of.Given as goal

abbrev pub invariant-loop-j : goal.invariant-loop-j
invariant-loop-j l = l.sent ≡ filled 80 l.j 0 (sent_by l.t l.all)
