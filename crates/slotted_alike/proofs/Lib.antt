-- Lemmas on nodes side by side.
pub mod Partners
pub mod Frames
pub mod WideNodes
