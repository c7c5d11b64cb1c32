pub mod Examples
pub mod Data
pub mod Represented
pub mod Correspondences
pub mod Finds
pub mod Rebuilding
pub mod Complete
pub mod LeastTerms
