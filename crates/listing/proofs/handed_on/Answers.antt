-- `handed_on` meets its contract: the text's characters, then what the array was.
use mathlib.Core.Path.{◌∙◌}
use Rattle.listing.proofs.Whole.{in-full}
use Rattle.listing.proofs.handed_on.Goals as goal

pub returns : goal.returns
returns c =
    let text = c.as_slice.ensures in
    in-full c.args.text.items (rw text.value at text.fits) _ _ (c.copy_from_slice.ensures.after ∙ text.value) c.len-length.ensures.value
