-- What alpha-equality sees of two nodes side by side.
pub mod Seen
pub mod BareNodes
