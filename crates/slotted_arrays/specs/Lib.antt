pub mod Optimising
