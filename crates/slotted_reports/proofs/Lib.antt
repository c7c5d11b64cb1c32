-- Lemmas of reports.
pub mod Counts
pub mod KeyOrder
pub mod FiledNodes
pub mod FreshNodes
pub mod FiledShapes
pub mod Sources
pub mod ClassNodes
pub mod ClassesInTurn
