-- Tables of costs, and the terms that are extracted from them.
pub mod Costs
pub mod Tables
pub mod Optimal
pub mod Extracting
pub mod ExtractedParts
pub mod Cheapest
pub mod Queues
pub mod TableMaking
pub mod AgreeingCosts
pub mod Sizes
pub mod KnownCosts
pub mod Ties
