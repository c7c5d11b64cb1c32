pub mod Settling
pub mod Steps
pub mod Asking
pub mod Groups
pub mod Equality
