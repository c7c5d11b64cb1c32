-- What terms in rows are, how they are renamed, and what the lines of a proof say.
pub mod Renamings
pub mod Rows
pub mod Moves
pub mod Following
pub mod Parts
pub mod Lines
pub mod Derived
pub mod Openings
