-- `placing::place_at_lem` meets its contract: each field is a byte of the place.
use Rattle.reader.specs.Binding.{place_of}
use Rattle.reader.proofs.placing.place_at.Goals as goal

pub returns : goal.returns
unfolding place_of
returns c = rw (place_of, c.field.ensures, c.field-2.ensures, c.field-3.ensures, c.field-4.ensures, c.field-5.ensures)
