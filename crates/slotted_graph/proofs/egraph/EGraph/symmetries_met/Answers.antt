use Rattle.std.proofs.Common.{◌∙◌, ap, sym, subst, inl, inr}
use Rattle.slotted_operations.specs.Graph.{Graph}
use Rattle.slotted_operations.specs.Image.{AreSymmetries, AreListedOnce}
use Rattle.slotted_operations.proofs.Unions.DistinctSymmetries.{listed_once}
use Rattle.slotted_operations.proofs.Unions.Symmetries.{are_symmetries, findable-sides}
use Rattle.slotted_graph.proofs.egraph.EGraph.symmetries_met.Goals as goal

pub returns-clause-each : goal.returns-clause-each
returns-clause-each g c = elim c.self.invariant [
  | inl h ↦ inl (sym (ap (λ (x : Graph). x.failed) c.self.view_is) ∙ h)
  | inr h ↦ inr (subst AreSymmetries (ap (λ (x : Graph). x.image) c.self.view_is) (are_symmetries c.self.inside.store h.0))
]

pub returns-clause-once : goal.returns-clause-once
returns-clause-once g c = elim c.self.invariant [
  | inl h ↦ inl (sym (ap (λ (x : Graph). x.failed) c.self.view_is) ∙ h)
  | inr h ↦ inr (subst AreListedOnce (ap (λ (x : Graph). x.image) c.self.view_is) (listed_once c.self.inside.store h.0))
]

pub returns-clause-sides : goal.returns-clause-sides
returns-clause-sides g c = elim c.self.invariant [
  | inl h ↦ inl (sym (ap (λ (x : Graph). x.failed) c.self.view_is) ∙ h)
  | inr h ↦ inr (findable-sides c.self.inside.store h.0 c.args.self.now (ap (λ (x : Graph). x.image) c.self.view_is))
]
