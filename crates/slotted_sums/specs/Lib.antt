-- Definitions of sums.
pub mod LoopCost
pub mod Simplifying
