-- The files of the reader: Block, Binding, Table and Uses define, Records, Judging and Sources say what is read of a record and what its judge and the search for a value go by, the others are laws.
-- Document 01, "Records of a block", "Values, steps and boundaries", "Binding records".
pub mod Numbers
pub mod Block
pub mod Binding
pub mod Table
pub mod Uses
pub mod Refusals
pub mod Kinds
pub mod Records
pub mod Judging
pub mod Sources
pub mod RecordLaws
pub mod KindLaws
pub mod Boundaries
pub mod LatestValues
pub mod Readability
pub mod StepsInUse
pub mod Readings
pub mod Connections
pub mod WellFormed
pub mod TableLaws
pub mod UseLaws
