-- What nodes and terms cost.
pub mod Costs
pub mod FlatCosts
pub mod Laws
pub mod Size
pub mod SizeLaws
pub mod Weights
pub mod Entries
pub mod Prices
pub mod Counts
pub mod Making
pub mod Least
