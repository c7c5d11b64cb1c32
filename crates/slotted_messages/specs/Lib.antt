-- Where tokens and words begin in a text.
pub mod Columns
pub mod Parsed
