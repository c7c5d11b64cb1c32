use Rattle.std.proofs.Common.{◌<◌, ◌∙◌, length, sym, subst, inl, inr}
use Rattle.std.proofs.lemmas.Bool.{false≢true}
use Rattle.slotted_model.specs.Applied.{Applied, values}
use Rattle.slotted_slots.specs.Table.{AllKnown}
use Rattle.slotted_operations.specs.Good.{HasFreshSlots}
use Rattle.slotted_operations.specs.Graph.{Graph}
use Rattle.slotted_operations.proofs.Ids.ValidIds.{to-valid}
use Rattle.slotted_operations.proofs.Graphs.Finds.{good-finds}
use Rattle.slotted_operations.proofs.Graphs.Reports.{names-are, names-known, within}
use Rattle.slotted_proofs.specs.Equations.{to_applied}
use Rattle.slotted_graph.proofs.Insides.{inside-of, given}
use Rattle.slotted_graph.proofs.egraph.EGraph.mk_identity_applied_id.Goals as goal

pub mk_identity_applied_id-requires-clause-good : goal.mk_identity_applied_id-requires-clause-good
mk_identity_applied_id-requires-clause-good l c = elim c.self.invariant [ inl h ↦ absurd (false≢true (sym c.if-self.false ∙ h)) | inr h ↦ good-finds c.self.inside.store h.0 ]

pub mk_identity_applied_id-requires-clause-within : goal.mk_identity_applied_id-requires-clause-within
mk_identity_applied_id-requires-clause-within l c =
    let inside = inside-of c.self.inside.table c.self.inside.store c.self.inside.nodes c.self.view_is c.if-self.false c.self.invariant in
    let g = c.args.self.now in
    let i = c.args.id.0 in
    let valid : i < length g.image.canonical = given inside.failed c.requires in
    within c.self.inside.store g.image inside.image i valid

pub returns-clause-ok : goal.returns-clause-ok
returns-clause-ok l c =
    let inside = inside-of c.self.inside.table c.self.inside.store c.self.inside.nodes c.self.view_is c.if-self.false c.self.invariant in
    let g = c.args.self.now in
    let i = c.args.id.0 in
    let core = c.self.inside.store in
    let valid : i < length g.image.canonical = given inside.failed c.requires in
    c.in_ok-made.ensures.ok ∙ names-are core inside.good g inside.image i valid

pub returns-clause-valid : goal.returns-clause-valid
returns-clause-valid l c =
    let inside = inside-of c.self.inside.table c.self.inside.store c.self.inside.nodes c.self.view_is c.if-self.false c.self.invariant in
    let g = c.args.self.now in
    let i = c.args.id.0 in
    let core = c.self.inside.store in
    let fresh : HasFreshSlots g.table core = elim c.self.invariant [
      | inl h ↦ absurd (false≢true (sym c.if-self.false ∙ h))
      | inr h ↦ subst (λ (x : Graph). HasFreshSlots x.table core) c.self.view_is h.1
    ] in
    let valid : i < length g.image.canonical = given inside.failed c.requires in
    let known = subst (λ (x : Applied). AllKnown g.table (values x.1)) (sym c.in_ok-made.ensures.ok) (names-known core inside.good g inside.image fresh i valid) in
    to-valid core inside.good g inside.image (to_applied c.in_ok-made.made) c.in_ok-made.ensures.findable known
