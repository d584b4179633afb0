-- `tables::entries` meets its contract. The loop's invariant: the entries of the first i records, the rest are the blank one.
use Rattle.std.proofs.Common.{◌≡◌}
use Rattle.ranges.specs.Below.{filled}
use Rattle.reader.specs.Table.{no_entry, entry_of}
use Rattle.reader.proofs.tables.entries.Given as goal

abbrev pub invariant-loop-i : goal.invariant-loop-i
invariant-loop-i l = l.all ≡ filled 80 l.i no_entry (entry_of l.block)
