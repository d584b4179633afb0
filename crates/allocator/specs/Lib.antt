-- The files of the allocator. LeftEdge, Merging, Allocation and Answer define what 01 says; Words, Nodes, Lives, Placing, Links and Written
-- say what the tables of its functions hold; the others are laws.
-- Document 01, "Left edge and clique merging".
pub mod LeftEdge
pub mod Lives
pub mod Sorting
pub mod Merging
pub mod Words
pub mod Choosing
pub mod Nodes
pub mod OneMerge
pub mod Cliques
pub mod Methods
pub mod MostCommon
pub mod Placing
pub mod Allocation
pub mod Links
pub mod Written
pub mod OwnRecords
pub mod OwnUnits
pub mod FirstUses
pub mod OwnBuses
pub mod Numbers
pub mod Answer
pub mod Bound
