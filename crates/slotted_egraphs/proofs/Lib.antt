-- What callers cite.
pub use Rattle.slotted_explain.proofs.CallerLemmas
pub use Rattle.slotted_explain.proofs.YesesStay
pub use Rattle.slotted_explain.proofs.LeastLater
pub use Rattle.slotted_graph.proofs.Extending
pub use Rattle.slotted_rules.proofs.EqualInstances
pub use Rattle.slotted_rules.proofs.RuleOrigins
pub use Rattle.slotted_rules.proofs.RunOrigins
pub mod Asking
