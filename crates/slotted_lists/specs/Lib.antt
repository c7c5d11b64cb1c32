pub mod Maps
pub mod Texts
