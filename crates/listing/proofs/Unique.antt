-- No second answer satisfies the promise of a public function of the listing.
-- Document 01, "Strength of the promises".
use mathlib.Core.Path.{sym, ◌∙◌}
use Rattle.ranges.specs.Promises.{Determines}
use Rattle.listing.proofs.list.Kinds as list-kinds
use Rattle.listing.proofs.list.Reads as list
use Rattle.listing.proofs.lines.refused.Kinds as refused-kinds
use Rattle.listing.proofs.lines.refused.Reads as refused

pub listing-unique : Determines 1 list-kinds.ps list-kinds.r list.Post
listing-unique κs a x y s t p q = p ∙ sym q

pub refused-unique : Determines 0 refused-kinds.ps refused-kinds.r refused.Post
refused-unique κs a x y s t p q = p ∙ sym q
