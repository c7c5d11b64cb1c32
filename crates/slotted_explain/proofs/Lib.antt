-- Lemmas on printed proofs.
pub mod ChainLeaves
pub mod LastLine
pub mod LinesBelow
pub mod PrintedLines
pub mod Rewriting
pub mod Sides
pub mod SlotsOfLines
pub mod SlotsOfSteps
pub mod UsedNumbers
-- What the crates above cite, handed on.
pub use Rattle.slotted_graph.proofs.CallerLemmas
pub use Rattle.slotted_graph.proofs.YesesStay
pub use Rattle.slotted_graph.proofs.LeastLater
pub use Rattle.slotted_graph.proofs.EntryForms
