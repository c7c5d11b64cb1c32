-- The lemmas that callers and the functions of this crate cite.
pub mod Ascending
pub mod CombiningLaws
pub mod FreshLaws
pub mod Loops
pub mod MapLaws
pub mod MapLemmas
pub mod MapPrinting
pub mod NamingLaws
pub mod Printing
pub mod SetAlgebraLaws
pub mod SetLemmas
pub mod SlotsTaken
pub mod TableLaws
pub mod Taken
pub mod WholeMaps
pub mod Among
