-- What assertions and unions leave, and what a yes says.
pub mod Equality
pub mod Assertions
pub mod Symmetries
pub mod JoinedClasses
pub mod WholeUnions
pub mod EqualSides
pub mod UnionsOfFillings
pub mod Explanations
pub mod DistinctSymmetries
pub mod AffectedClasses
pub mod CompressedPaths
