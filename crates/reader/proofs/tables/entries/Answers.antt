use Rattle.std.proofs.Common.{◌∙◌, arith, ap, replicate}
use Rattle.ranges.specs.Tables.{filled_none, filled_more, filled-end}
use Rattle.reader.specs.Table.{no_entry, entry_of, entries_of}
use Rattle.reader.specs.declared.Entry.{Entry}
use Rattle.reader.proofs.Highest.{noted}
use Rattle.reader.proofs.Entries.{default-entry}
use Rattle.reader.proofs.tables.entries.Goals as goal

pub loop-i-init : goal.loop-i-init
loop-i-init c = ap (λ (e : Entry). replicate 80 e) (default-entry c.default-all.result c.default-all.ensures) ∙ filled_none 80 no_entry (entry_of c.args.block.now)

pub loop-i-preserved : goal.loop-i-preserved
loop-i-preserved c =
    let b = c.args.block.now in
    let at = c.loop-i in
    let own = noted b c.names-names.result c.args.m c.names-names.ensures c.requires.2 in
    filled_more 80 no_entry _ at.i _ _ (omega arith) at.invariant (c.entry_of-e.ensures (own.0 ∙ c.requires.3) own.1)

pub returns : goal.returns
unfolding entries_of
returns c = filled-end 80 no_entry _ _ _ _ (omega arith) c.loop-i.invariant
