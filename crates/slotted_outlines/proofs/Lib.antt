-- Lemmas on outlines of nodes.
pub mod Seen
pub mod Opened
pub mod Binders
pub mod Matched
pub mod BareNodes
