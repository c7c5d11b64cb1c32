-- What expressions are seen as, and what texts read as.
pub mod LargeNodes
pub mod AsTerm
pub mod TermPattern
pub mod Flat
pub mod Pairs
pub mod Parsed
pub mod Valid
pub mod Shown
pub mod ReadAgain
pub mod Reader
