pub mod KeptLists
pub mod NameMaps
pub mod NamePairs
pub mod PutNames
pub mod AscendingLists
pub mod ChildIds
pub mod NameCounts
pub mod DistinctValues
pub mod RowsByForm
pub mod Writes
mod DeadClasses
mod Sizes
mod CountedClasses
pub mod Chasing
pub mod StoredFinds
pub mod ClassNodes
pub mod OwnIds
