-- What looking up and filling answer.
pub mod Enodes
pub mod Filling
pub mod LookUp
pub mod Reports
