pub mod Substitutions
pub mod Examples
pub mod Patterns
pub mod Matching
pub mod Rules
pub mod Laws
