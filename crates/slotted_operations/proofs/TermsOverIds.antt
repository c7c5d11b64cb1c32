-- Terms and nodes over ids: valid ones, their sizes, places and binders.
pub mod LargeNodes
pub mod LargeChildren
pub mod Children
pub mod Layers
pub mod ValidTerms
pub mod TermSizes
pub mod PlaceCounts
pub mod Binders
pub mod Preorders
