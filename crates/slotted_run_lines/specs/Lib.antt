-- Definitions of the parts.
pub mod LeastSize
pub mod LeastBinders
pub mod Marking
pub mod Tired
pub mod ComesTo
