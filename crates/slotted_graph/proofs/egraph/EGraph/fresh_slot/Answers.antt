use Rattle.std.proofs.Common.{inl, inr}
use Rattle.slotted_operations.proofs.Graphs.FreshSlots.{fresh_slots-more}
use Rattle.slotted_graph.proofs.egraph.EGraph.fresh_slot.Goals as goal

pub invariant_of-self : goal.invariant_of-self
invariant_of-self g c = elim c.self.invariant [
  | inl h ↦ inl h
  | inr h ↦ inr (h.0, fresh_slots-more c.self.inside.table c.fresh.new.self c.self.inside.store c.fresh.ensures.more h.1, h.2, h.3, h.4)
]
