-- Definitions of queries.
pub mod RowCost
pub mod Sides
pub mod Planning
