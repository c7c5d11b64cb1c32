-- The matcher: its runs, the names of rows, what it finds and that it finds all.
pub mod Walking
pub mod Answering
pub mod AllSlots
pub mod Beside
pub mod Completing
pub mod Readings
pub mod ValidValues
pub mod Running
pub mod Goals
pub mod HiddenNames
pub mod NamedRows
pub mod FlatWalks
pub mod ClassIds
