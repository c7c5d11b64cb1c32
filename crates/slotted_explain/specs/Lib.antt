-- What printed proofs are.
pub mod Printed
pub mod Chain
-- The words of the clauses of the graph, handed on to the crates above.
pub use Rattle.slotted_graph.specs.Graph
pub use Rattle.slotted_graph.specs.Image
pub use Rattle.slotted_graph.specs.Nodes
pub use Rattle.slotted_graph.specs.ValidIds
pub use Rattle.slotted_graph.specs.LookUp
pub use Rattle.slotted_graph.specs.Adding
pub use Rattle.slotted_graph.specs.AddingTerms
pub use Rattle.slotted_graph.specs.Places
pub use Rattle.slotted_graph.specs.Reports
pub use Rattle.slotted_graph.specs.Affected
pub use Rattle.slotted_graph.specs.Causes
pub use Rattle.slotted_graph.specs.Checks
pub use Rattle.slotted_graph.specs.Leaves
pub use Rattle.slotted_graph.specs.Explaining
pub use Rattle.slotted_graph.specs.Syn
pub use Rattle.slotted_graph.specs.Terms
pub use Rattle.slotted_graph.specs.LeastTerms
pub use Rattle.slotted_graph.specs.declared.entry.TermEntry
pub use Rattle.slotted_graph.specs.Chosen
pub use Rattle.slotted_graph.specs.FiledNodes
pub use Rattle.slotted_graph.specs.Measure
