-- What the steps of a simplification say of its term.
pub mod Simplified
