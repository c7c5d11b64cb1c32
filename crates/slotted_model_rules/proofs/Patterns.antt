-- Patterns: their instances and their look-ups.
pub mod LookingUp
pub mod Instantiating
pub mod EqualInstances
