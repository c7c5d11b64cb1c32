-- The lemmas that callers and the functions of this crate cite.
pub mod Printing
pub mod Refusals
pub mod Bridges
pub mod SentOn
pub mod NumberedSides
pub mod Written
pub mod Listed
pub mod Entering
pub mod Itself
pub mod Stepping
pub mod Fitting
pub mod Lining
pub mod LineLeaves
