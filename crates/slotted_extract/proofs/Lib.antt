-- Lemmas of extraction.
pub mod FoundEntries
