use Rattle.std.proofs.Common.{◌∙◌, ap, refl, subst, sym, inl, inr}
use Rattle.std.proofs.lemmas.Bool.{false≢true}
use Rattle.std.proofs.lemmas.Result.{IfOk-weaker}
use Rattle.slotted_slots.specs.Table.{Table, AllKnown}
use Rattle.slotted_model.specs.Applied.{values}
use Rattle.slotted_proofs.specs.Equations.{to_applied}
use Rattle.slotted_operations.specs.Graph.{Graph, MakesAtMost}
use Rattle.slotted_operations.specs.Syn.{FilledNodeRunsOut, GivesNode, IsFilledNode, IsNodeWhereFull, slots_for_node}
use Rattle.slotted_operations.proofs.Ids.ValidIds.{node-children_valid, of-valid}
use Rattle.slotted_operations.proofs.Graphs.FreshSlots.{fresh_slots-more}
use Rattle.slotted_graph.proofs.Insides.{inside-of}
use Rattle.slotted_graph.proofs.egraph.EGraph.get_syn_node.Goals as goal

pub syn_node_of-requires-clause-findable : goal.syn_node_of-requires-clause-findable
syn_node_of-requires-clause-findable g c =
    let inside = inside-of c.self.inside.table c.self.inside.store c.self.inside.nodes c.self.view_is c.if-self.false c.self.invariant in
    let graph = c.args.self.now in
    let core = c.self.inside.store in
    let a = to_applied c.args.a.now in
    elim c.self.invariant [
      | inl e ↦ absurd (false≢true (sym c.if-self.false ∙ e))
      | inr inv ↦
          elim c.requires [
            | inl e ↦ absurd (false≢true (sym c.if-self.false ∙ (ap (λ (x : Graph). x.failed) c.self.view_is ∙ e)))
            | inr v ↦ (of-valid core inv.0 graph inside.image a v, subst (λ (t : Table). AllKnown t (values a.1)) (sym inside.table) v.known)
          ]
    ]

pub invariant_of-self : goal.invariant_of-self
invariant_of-self g c = elim c.self.invariant [
  | inl h ↦ inl h
  | inr h ↦ inr (h.0, fresh_slots-more c.self.inside.table c.syn_node_of.new.table c.self.inside.store c.syn_node_of.ensures.more h.1, h.2, h.3, h.4)
]

pub returns-clause-filled : goal.returns-clause-filled
returns-clause-filled g c =
    let form = g.L.LanguageChildren.form in
    let t = c.self.inside.table in
    let u = c.syn_node_of.new.table in
    let a = to_applied c.args.a.now in
    IfOk-weaker c.syn_node_of.result (λ n. GivesNode t u c.self.inside.store c.args.a.now (form n)) _
    (λ n gives. subst (λ (y : Graph). IsFilledNode y.image y.table u a (form n)) c.self.view_is gives.filled) c.syn_node_of.ensures.ok

pub returns-clause-node : goal.returns-clause-node
returns-clause-node g c =
    let form = g.L.LanguageChildren.form in
    let t = c.self.inside.table in
    let u = c.syn_node_of.new.table in
    let a = to_applied c.args.a.now in
    IfOk-weaker c.syn_node_of.result (λ n. GivesNode t u c.self.inside.store c.args.a.now (form n)) _
    (λ n gives. subst (λ (y : Graph). IsNodeWhereFull y.image.canonical a (form n)) c.self.view_is gives.node) c.syn_node_of.ensures.ok

pub returns-clause-valid : goal.returns-clause-valid
returns-clause-valid g c =
    let form = g.L.LanguageChildren.form in
    let t = c.self.inside.table in
    let u = c.syn_node_of.new.table in
    elim c.self.invariant [
      | inl e ↦ absurd (false≢true (sym c.if-self.false ∙ e))
      | inr inv ↦
          IfOk-weaker c.syn_node_of.result (λ n. GivesNode t u c.self.inside.store c.args.a.now (form n)) _
          (λ n gives. record { few = gives.valid.0; known = gives.valid.1; children = node-children_valid c.self.inside.store inv.0 _ refl (form n) gives.valid.1 gives.valid.2 }) c.syn_node_of.ensures.ok
    ]

pub returns-clause-children : goal.returns-clause-children
returns-clause-children g c =
    let form = g.L.LanguageChildren.form in
    IfOk-weaker c.syn_node_of.result (λ n. GivesNode c.self.inside.table c.syn_node_of.new.table c.self.inside.store c.args.a.now (form n)) _ (λ n gives. gives.children) c.syn_node_of.ensures.ok

pub returns-clause-count : goal.returns-clause-count
returns-clause-count g c =
    let a = to_applied c.args.a.now in
    subst (λ (y : Graph). MakesAtMost (slots_for_node y.image.canonical a) y.table c.syn_node_of.new.table) c.self.view_is c.syn_node_of.ensures.takes

pub returns-clause-full : goal.returns-clause-full
returns-clause-full g c out =
    let a = to_applied c.args.a.now in
    subst (λ (y : Graph). FilledNodeRunsOut y.image.canonical a y.table c.syn_node_of.new.table) c.self.view_is (c.syn_node_of.ensures.full out)

pub syn_node_of-requires-clause-fresh_slots : goal.syn_node_of-requires-clause-fresh_slots
syn_node_of-requires-clause-fresh_slots g c = elim c.self.invariant [ inl e ↦ absurd (false≢true (sym c.if-self.false ∙ e)) | inr inv ↦ inv.1 ]
