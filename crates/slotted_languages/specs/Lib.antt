-- Shapes, outlines, renaming and refreshing of nodes.
pub mod Filled
pub mod Outline
pub mod NodeTerm
pub mod Shape
pub mod Walk
pub mod Renaming
pub mod Children
pub mod Occurrences
pub mod Fresh
pub mod NewNames
pub mod Sizes
pub mod Beside
