pub mod Waiting
pub mod Filed
pub mod FiledRows
pub mod Over
pub mod FoundNodes
pub mod NormalNodes
pub mod Sides
pub mod WellFiled
