pub mod Answers
pub mod Commands
pub mod Asked
pub mod Explained
pub mod Extracted
pub mod Sessions
