-- Rules, conditions and runs of them.
pub mod Asking
pub mod Extending
pub mod Calling
pub mod Applying
pub mod Stopping
pub mod Turns
pub mod Rewriting
pub mod Searching
