-- Lemmas on two fields of one node, and on public places.
pub mod Pairs
pub mod PublicPlaces
