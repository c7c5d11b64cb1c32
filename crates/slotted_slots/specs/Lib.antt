-- The definitions that contracts cite: refusals, maps, the table of slots, tokens.
pub mod Ascending
pub mod Combining
pub mod Error
pub mod Hashing
pub mod Iterating
pub mod Laws
pub mod Maps
pub mod Naming
pub mod SetAlgebra
pub mod Sets
pub mod Shown
pub mod Syntax
pub mod Table
