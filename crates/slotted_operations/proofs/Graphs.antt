-- Graphs that have not failed: their finds, images, reports and proofs, and that they rest.
pub mod Finds
pub mod AtRest
pub mod FreshSlots
pub mod Images
pub mod Continuations
pub mod Leaves
pub mod ProofSteps
pub mod EntryTexts
pub mod LiveSizes
pub mod Notes
pub mod Options
pub mod Reports
