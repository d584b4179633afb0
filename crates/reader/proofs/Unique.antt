-- No second answer satisfies the promise of a public function of the reader.
-- Document 01, "Strength of the promises".
use mathlib.Core.Path.{sym, ◌∙◌}
use Rattle.ranges.specs.Promises.{Determines}
use Rattle.reader.proofs.RefusalLaws.{one-reading, one-form}
use Rattle.reader.proofs.read.Kinds as read-kinds
use Rattle.reader.proofs.read.Reads as read
use Rattle.reader.proofs.refusals.Reason.number.Kinds as number-kinds
use Rattle.reader.proofs.refusals.Reason.number.Reads as number
use Rattle.reader.proofs.tables.table.Kinds as table-kinds
use Rattle.reader.proofs.tables.table.Reads as table
use Rattle.reader.proofs.form.Kinds as form-kinds
use Rattle.reader.proofs.form.Reads as form
use Rattle.reader.proofs.places.Kinds as places-kinds
use Rattle.reader.proofs.places.Reads as places
use Rattle.reader.proofs.Use.if_made.Kinds as if-made-kinds
use Rattle.reader.proofs.Use.if_made.Reads as if-made
use Rattle.reader.proofs.uses.uses.Kinds as uses-kinds
use Rattle.reader.proofs.uses.uses.Reads as uses

pub read-unique : Determines 1 read-kinds.ps read-kinds.r read.Post
read-unique κs a x y s t p q = one-reading x y (p ∙ sym q)

pub table-unique : Determines 1 table-kinds.ps table-kinds.r table.Post
table-unique κs a x y s t p q = p ∙ sym q

pub form-unique : Determines 2 form-kinds.ps form-kinds.r form.Post
form-unique κs a x y s t p q = one-form x y (p ∙ sym q)

pub places-unique : Determines 1 places-kinds.ps places-kinds.r places.Post
places-unique κs a x y s t p q = p ∙ sym q

pub uses-unique : Determines 0 uses-kinds.ps uses-kinds.r uses.Post
uses-unique κs a x y s t p q = p ∙ sym q

pub if-made-unique : Determines 0 if-made-kinds.ps if-made-kinds.r if-made.Post
if-made-unique κs a x y s t p q = p ∙ sym q

pub number-unique : Determines 0 number-kinds.ps number-kinds.r number.Post
number-unique κs a x y s t p q = p ∙ sym q
