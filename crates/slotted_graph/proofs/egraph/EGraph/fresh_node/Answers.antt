-- What is answered over what is kept, told of the graph.
use Rattle.std.proofs.Common.{◌∙◌, ◌*◌, ap, refl, subst, sym, inl, inr}
use Rattle.std.proofs.lemmas.Bool.{false≢true}
use Rattle.std.proofs.lemmas.Result.{IfOk-weaker}
use Rattle.slotted_slots.specs.Table.{Table, AllKnown}
use Rattle.slotted_model.specs.Applied.{values}
use Rattle.slotted_model.specs.Classes.{IsFull}
use Rattle.slotted_proofs.specs.Equations.{to_applied}
use Rattle.slotted_operations.specs.Canonical.{IsNodeOf}
use Rattle.slotted_operations.specs.Good.{IsNodeOver, image_of}
use Rattle.slotted_operations.specs.Graph.{Graph, MakesAtMost}
use Rattle.slotted_operations.specs.Image.{Image}
use Rattle.slotted_operations.specs.Syn.{FreshNodeRunsOut, HasUnknownBinders, node_binders}
use Rattle.slotted_operations.proofs.Ids.ValidIds.{node-children_valid}
use Rattle.slotted_operations.proofs.Graphs.FreshSlots.{fresh_slots-more}
use Rattle.slotted_graph.proofs.Insides.{inside-of}
use Rattle.slotted_graph.proofs.egraph.EGraph.fresh_node.Goals as goal

pub fresh_node-requires-clause-fresh_slots : goal.fresh_node-requires-clause-fresh_slots
fresh_node-requires-clause-fresh_slots g c = elim c.self.invariant [ inl e ↦ absurd (false≢true (sym c.if-self.false ∙ e)) | inr inv ↦ inv.1 ]

pub fresh_node-requires-clause-full : goal.fresh_node-requires-clause-full
fresh_node-requires-clause-full g c =
    let inside = inside-of c.self.inside.table c.self.inside.store c.self.inside.nodes c.self.view_is c.if-self.false c.self.invariant in
    let core = c.self.inside.store in
    let a = to_applied c.args.a.now in
    elim c.requires [
      | inl e ↦ absurd (false≢true (sym c.if-self.false ∙ (ap (λ (x : Graph). x.failed) c.self.view_is ∙ e)))
      | inr v ↦ (subst (λ (x : Image). IsFull x.canonical a) (sym inside.image) v.full, subst (λ (t : Table). AllKnown t (values a.1)) (sym inside.table) v.known)
    ]

pub invariant_of-self : goal.invariant_of-self
invariant_of-self g c = elim c.self.invariant [
  | inl h ↦ inl h
  | inr h ↦ inr (h.0, fresh_slots-more c.self.inside.table c.fresh_node.new.table c.self.inside.store c.fresh_node.ensures.more h.1, h.2, h.3, h.4)
]

pub returns-clause-node : goal.returns-clause-node
returns-clause-node g c =
    let form = g.L.LanguageChildren.form in
    IfOk-weaker c.fresh_node.result (λ n. IsNodeOf (image_of c.self.inside.store).canonical (to_applied c.args.a.now) (form n)) _
    (λ n is. subst (λ (y : Graph). IsNodeOf y.image.canonical (to_applied c.args.a.now) (form n)) c.self.view_is is) c.fresh_node.ensures.node

pub returns-clause-fresh : goal.returns-clause-fresh
returns-clause-fresh g c =
    let form = g.L.LanguageChildren.form in
    IfOk-weaker c.fresh_node.result (λ n. HasUnknownBinders c.self.inside.table (form n)) _ (λ n is. subst (λ (y : Graph). HasUnknownBinders y.table (form n)) c.self.view_is is) c.fresh_node.ensures.fresh

pub returns-clause-valid : goal.returns-clause-valid
returns-clause-valid g c =
    let form = g.L.LanguageChildren.form in
    let k = c.self.inside.store in
    elim c.self.invariant [
      | inl e ↦ absurd (false≢true (sym c.if-self.false ∙ e))
      | inr inv ↦
          IfOk-weaker c.fresh_node.result (λ n. IsNodeOver c.fresh_node.new.table k (form n)) _
          (λ n valid. record { few = valid.0; known = valid.1; children = node-children_valid k inv.0 _ refl (form n) valid.1 valid.2 }) c.fresh_node.ensures.valid
    ]

pub returns-clause-count : goal.returns-clause-count
returns-clause-count g c =
    subst (λ (y : Graph). MakesAtMost (2 * node_binders y.image.canonical c.args.a.now.id.0) y.table c.fresh_node.new.table) c.self.view_is c.fresh_node.ensures.takes

pub returns-clause-full : goal.returns-clause-full
returns-clause-full g c out =
    subst (λ (y : Graph). FreshNodeRunsOut y.image.canonical c.args.a.now.id.0 y.table c.fresh_node.new.table) c.self.view_is (c.fresh_node.ensures.full out)
