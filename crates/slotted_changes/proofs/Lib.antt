-- Lemmas on terms that differ at one place, and on their texts.
pub mod Nodes
pub mod Rows
pub mod LargeNodes
pub mod Differences
pub mod Places
pub mod Texts
