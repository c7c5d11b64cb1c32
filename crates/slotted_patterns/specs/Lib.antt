-- What patterns are, and what texts read as.
pub mod Tree
pub mod View
pub mod Subpatterns
pub mod Shape
pub mod Compared
pub mod Grammar
pub mod Outcome
pub mod Parsed
pub mod Tokens
pub mod LentTokens
pub mod Stack
pub mod Reader
pub mod Known
pub mod Shown
pub mod Pieces
pub mod ReadAgain
