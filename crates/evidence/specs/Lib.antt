-- The files of the evidence: a theorem a file, with the induction behind soundness in Soundness. Orders has document 01's order of refusals as statements on bytes,
-- Decisions to BindingDecisions show that the tests behind the promises decide them. RunAccepted has what `run_accepted` promises. Theorems on which others
-- rest stand in proofs/ where a must-fail edit makes them fail.
-- Demands 1 to 3, and document 01, "Proved table".
pub mod Soundness
pub mod Sound
pub mod SentRight
pub mod AcceptsExactly
pub mod NoFewer
pub mod AllocationAccepted
pub mod RunAccepted
pub mod Orders
pub mod Decisions
pub mod OrderLaws
pub mod RecordDecisions
pub mod BindingDecisions
pub mod ProvedTable
