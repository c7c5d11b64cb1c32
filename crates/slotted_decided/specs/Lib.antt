pub mod Turns
pub mod Extracted
