-- Theorems that stand here so that a must-fail edit can be tried with them: BlockOrder, FirstRefusal and Refusals are demand 1, the others demand 3.
-- The index of uniqueness stands here too, beside the promises that the check reads off the sources.
pub mod BlockOrder
pub mod FirstRefusal
pub mod Refusals
pub mod OneAnswer
pub mod RunnersAgree
pub mod RunsAccepted
pub mod WrittenAccepted
pub mod LeftEdgeCount
pub mod LeftEdgeFewest
pub mod Uniqueness
