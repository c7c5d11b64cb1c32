-- The laws of correspondences.
pub mod Pairs
pub mod PartialInjections
pub mod FullMaps
pub mod Listing
pub mod Matching
pub mod Middle
pub mod Joining
pub mod Restricting
pub mod Numbers
pub mod FullIds
