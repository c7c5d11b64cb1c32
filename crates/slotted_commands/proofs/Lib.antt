-- How a line is split, what each step of a command leaves the next one, and what an answer to `eq` says of terms that were looked up.
pub mod Splitting
pub mod Steps
pub mod Comparing
pub mod Explaining
pub mod Extracting
