-- The laws of the language of these lines.
pub mod Nested
