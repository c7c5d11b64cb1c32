-- What nodes and terms are looked up as.
pub mod Rows
pub mod FoundNames
pub mod NodesOfTrees
pub mod Subterms
pub mod States
pub mod FoundIds
pub mod ClassNodes
pub mod ClassTerms
