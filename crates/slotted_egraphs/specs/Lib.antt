-- The words of the clauses that callers meet, handed on from the crates that define them.
--     terms: Term, Nameless, Derives, Valid          slots: Table, Error, Maps
--     ids and classes: Applied, Classes, Growth, Ids     the graph: Graph, ValidIds, LookUp, Adding, AddingTerms, Reports, Affected, Image, Nodes, Checks,
--     Leaves, Causes, Syn, FiledNodes, Measure     extraction: Costs, Laws, Terms, LeastTerms, Chosen
--     analyses: Meaning, Edits, Part, Grounded, Analysed, Asked, Edited, Rounds, Writing     patterns: Known, PatternCode, Variables, Values     rules: Extension, Matching, Methods, Uniting, Rewriting, Written, Applying, EqualInstances,
--     Counting, RuleOrigins, Unless     runs: Seen, Turning, Runs, Eqsat, Counted, RunOrigins
pub use Rattle.slotted_theory.specs.Term
pub use Rattle.slotted_theory.specs.Nameless
pub use Rattle.slotted_theory.specs.Derives
pub use Rattle.slotted_slots.specs.Table
pub use Rattle.slotted_slots.specs.Error
pub use Rattle.slotted_slots.specs.Maps
pub use Rattle.slotted_nodes.specs.Form
pub use Rattle.slotted_languages.specs.NodeTerm
pub use Rattle.slotted_patterns.specs.Outcome
pub use Rattle.slotted_terms.specs.Parsed
pub use Rattle.slotted_terms.specs.Valid
pub use Rattle.slotted_model.specs.Applied
pub use Rattle.slotted_model.specs.Classes
pub use Rattle.slotted_model.specs.Growth
pub use Rattle.slotted_model.specs.Ids
pub use Rattle.slotted_proofs.specs.Entries
pub use Rattle.slotted_explain.specs.Graph
pub use Rattle.slotted_explain.specs.ValidIds
pub use Rattle.slotted_explain.specs.LookUp
pub use Rattle.slotted_explain.specs.Adding
pub use Rattle.slotted_explain.specs.AddingTerms
pub use Rattle.slotted_explain.specs.Reports
pub use Rattle.slotted_explain.specs.Affected
pub use Rattle.slotted_explain.specs.Image
pub use Rattle.slotted_explain.specs.Nodes
pub use Rattle.slotted_explain.specs.Checks
pub use Rattle.slotted_explain.specs.Leaves
pub use Rattle.slotted_explain.specs.Causes
pub use Rattle.slotted_explain.specs.Explaining
pub use Rattle.slotted_explain.specs.Syn
pub use Rattle.slotted_costs.specs.Costs
pub use Rattle.slotted_costs.specs.Laws
pub use Rattle.slotted_explain.specs.Terms
pub use Rattle.slotted_explain.specs.LeastTerms
pub use Rattle.slotted_explain.specs.TermEntry
pub use Rattle.slotted_explain.specs.Chosen
pub use Rattle.slotted_explain.specs.FiledNodes
pub use Rattle.slotted_explain.specs.Measure
-- of analyses
pub use Rattle.slotted_data.specs.Meaning
pub use Rattle.slotted_data.specs.Edits
pub use Rattle.slotted_data.specs.Part
pub use Rattle.slotted_data.specs.Grounded
pub use Rattle.slotted_graph.specs.Analysed
pub use Rattle.slotted_graph.specs.Asked
pub use Rattle.slotted_graph.specs.Edited
pub use Rattle.slotted_graph.specs.Rounds
pub use Rattle.slotted_graph.specs.Writing
-- of patterns and rules
pub use Rattle.slotted_model_rules.specs.Patterns
pub use Rattle.slotted_model_rules.specs.Instances
pub use Rattle.slotted_model_rules.specs.Rules
pub use Rattle.slotted_patterns.specs.Known
pub use Rattle.slotted_patterns.specs.View
pub use Rattle.slotted_rule_patterns.specs.PatternCode
pub use Rattle.slotted_rule_patterns.specs.Variables
pub use Rattle.slotted_rule_patterns.specs.Values
pub use Rattle.slotted_graph.specs.Extension
pub use Rattle.slotted_graph.specs.States
pub use Rattle.slotted_graph.specs.Matching
pub use Rattle.slotted_rules.specs.Building
pub use Rattle.slotted_rules.specs.Methods
pub use Rattle.slotted_rules.specs.Putting
pub use Rattle.slotted_rules.specs.Uniting
pub use Rattle.slotted_rules.specs.Rewriting
pub use Rattle.slotted_rules.specs.Written
pub use Rattle.slotted_rules.specs.Applying
pub use Rattle.slotted_rules.specs.EqualInstances
pub use Rattle.slotted_rules.specs.Counting
pub use Rattle.slotted_rules.specs.RuleOrigins
pub use Rattle.slotted_rules.specs.Unless
-- of runs
pub use Rattle.slotted_rules.specs.Seen
pub use Rattle.slotted_rules.specs.Turning
pub use Rattle.slotted_rules.specs.Runs
pub use Rattle.slotted_rules.specs.Eqsat
pub use Rattle.slotted_rules.specs.Counted
pub use Rattle.slotted_rules.specs.RunOrigins
-- what a caller of its own says
pub mod Filed
pub mod AppliedRules
pub mod Simplified
