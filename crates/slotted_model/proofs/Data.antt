-- Lists, sets, finite maps and options, and the lemmas of slotted_theory with membership by a walk.
pub mod Members
pub mod Sets
pub mod Theory
pub mod Maps
pub mod Parts
pub mod Options
pub mod Extension
pub mod Ordered
pub mod Injections
