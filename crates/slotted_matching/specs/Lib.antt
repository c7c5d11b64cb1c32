-- The words of the clauses of matching.
pub mod KeyRows
pub mod Skeletons
pub mod Indexed
pub mod Compiled
pub mod Wanted
pub mod Matches
pub mod Naming
pub mod Answered
pub mod Found
