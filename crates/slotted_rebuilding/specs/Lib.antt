-- What rebuilding leads to.
pub mod Named
pub mod Frames
pub mod Congruence
pub mod Work
pub mod Filed
pub mod Counted
pub mod Causes
pub mod Turns
pub mod NewClasses
pub mod Proving
pub mod Uniting
pub mod Settling
pub mod Grows
pub mod Shortcuts
