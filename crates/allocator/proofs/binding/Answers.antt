-- `binding` meets its contract: the records are those of the places and the buses.
use mathlib.Core.Path.{◌≡◌}
use lib.ListN.{length}
use borrow.Author.Rules.{rules}
use Rattle.allocator.proofs.WritingLaws.{records-bound}
use Rattle.allocator.proofs.binding.Goals as goal

pub returns : goal.returns
returns c =
    let t = c.args.t in
    let whole : length c.placed-places.result ≡ 80 = search rules in
    λ b S. let P = c.placed-places.ensures b S in records-bound t b _ _ _ _ S whole P (c.bused-buses.ensures b _ S P) c.records.ensures
