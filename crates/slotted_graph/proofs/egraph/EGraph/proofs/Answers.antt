use Rattle.std.proofs.Common.{◌∙◌, ap, sym, subst, inl, inr}
use Rattle.slotted_proofs.specs.Lines.{PartsAreEarlier}
use Rattle.slotted_operations.specs.Graph.{Graph}
use Rattle.slotted_classes.specs.Kept.{nodes_of}
use Rattle.slotted_operations.specs.Leaves.{EntriesFollow}
use Rattle.slotted_operations.proofs.Graphs.Leaves.{good-entries_follow}
use Rattle.slotted_proofs.proofs.Fitting.{parts_earlier}
use Rattle.slotted_graph.proofs.egraph.EGraph.proofs.Goals as goal

pub returns-clause-earlier : goal.returns-clause-earlier
returns-clause-earlier g c = elim c.self.invariant [
  | inl h ↦ inl (sym (ap (λ (x : Graph). x.failed) c.self.view_is) ∙ h)
  | inr h ↦ inr (subst PartsAreEarlier (ap (λ (x : Graph). x.image.stored) c.self.view_is) (parts_earlier (nodes_of c.self.inside.store) c.self.inside.store.proofs h.0.stored.proved))
]

pub returns-clause-leaves : goal.returns-clause-leaves
returns-clause-leaves g c = elim c.self.invariant [
  | inl h ↦ inl (sym (ap (λ (x : Graph). x.failed) c.self.view_is) ∙ h)
  | inr h ↦ inr (subst EntriesFollow (ap (λ (x : Graph). x.image) c.self.view_is) (good-entries_follow c.self.inside.store h.0))
]
