-- Lemmas of looking up and filling.
pub mod Finds
pub mod MapLoops
pub mod NormalNodes
pub mod RowNames
pub mod LookUpRows
pub mod ReportLists
pub mod AppliedNodes
pub mod EnodeNames
pub mod NodesOver
pub mod IdFillings
pub mod ChildFillings
pub mod FillingSizes
