-- What the steps of planning say of its term.
pub mod Planned
