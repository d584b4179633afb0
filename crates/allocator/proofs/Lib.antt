-- What the proofs of several functions rest on.
mod LeadingLaws
mod Digits
mod RowLaws
mod HeldLaws
mod HeadLaws
mod SortLaws
mod PassLaws
mod SharingLaws
mod LinkLaws
mod BusLaws
mod WritingLaws
mod MethodLaws
mod AnswerLaws
pub mod AllocatedLaws
pub mod Passes
pub mod LeftEdgeLaws
pub mod OwnRegisters
pub mod OwnBinding
