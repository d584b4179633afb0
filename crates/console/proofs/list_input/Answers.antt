-- `list_input` writes a part of the text: a listing lies within it.
use Rattle.listing.specs.Fits.{within_text}
use Rattle.console.proofs.list_input.Goals as goal

pub slice_bounds-text-end : goal.slice_bounds-text-end
slice_bounds-text-end c = (within_text c.list-listing.result _ c.list-listing.ensures).0

pub slice_bounds-write_all-end : goal.slice_bounds-write_all-end
slice_bounds-write_all-end c = (within_text c.list-listing.result _ c.list-listing.ensures).1
