use Rattle.std.proofs.Common.{◌∙◌, ap, subst, sym, inl, inr}
use Rattle.std.proofs.lemmas.Bool.{false≢true}
use Rattle.std.proofs.lemmas.Result.{IfOk-weaker}
use Rattle.slotted_slots.specs.Table.{Table, AllKnown}
use Rattle.slotted_model.specs.Applied.{values}
use Rattle.slotted_proofs.specs.Equations.{to_applied}
use Rattle.slotted_operations.specs.Graph.{Graph, MakesAtMost}
use Rattle.slotted_operations.specs.Syn.{FilledTermRunsOut, GivesTerm, IsFilledTerm, IsTermWhereFull, slots_for_term}
use Rattle.slotted_operations.proofs.Ids.ValidIds.{of-valid}
use Rattle.slotted_operations.proofs.Graphs.FreshSlots.{fresh_slots-more}
use Rattle.slotted_graph.proofs.Insides.{inside-of}
use Rattle.slotted_graph.proofs.egraph.EGraph.get_syn_expr.Goals as goal

pub syn_expr_of-requires-clause-findable : goal.syn_expr_of-requires-clause-findable
syn_expr_of-requires-clause-findable g c =
    let inside = inside-of c.self.inside.table c.self.inside.store c.self.inside.nodes c.self.view_is c.if-self.false c.self.invariant in
    let graph = c.args.self.now in
    let core = c.self.inside.store in
    let a = to_applied c.args.a.now in
    elim c.self.invariant [
      | inl e ↦ absurd (false≢true (sym c.if-self.false ∙ e))
      | inr inv ↦
          elim c.requires [
            | inl e ↦ absurd (false≢true (sym c.if-self.false ∙ (ap (λ (x : Graph). x.failed) c.self.view_is ∙ e)))
            | inr v ↦ (of-valid core inv.0 graph inside.image a v, subst (λ (t : Table). AllKnown t (values a.1)) (sym inside.table) v.known)
          ]
    ]

pub invariant_of-self : goal.invariant_of-self
invariant_of-self g c = elim c.self.invariant [
  | inl h ↦ inl h
  | inr h ↦ inr (h.0, fresh_slots-more c.self.inside.table c.syn_expr_of.new.table c.self.inside.store c.syn_expr_of.ensures.more h.1, h.2, h.3, h.4)
]

pub returns-clause-filled : goal.returns-clause-filled
returns-clause-filled g c =
    let t = c.self.inside.table in
    let u = c.syn_expr_of.new.table in
    let a = to_applied c.args.a.now in
    IfOk-weaker c.syn_expr_of.result (λ x. GivesTerm t u c.self.inside.store c.args.a.now x) _
    (λ x gives. subst (λ (y : Graph). IsFilledTerm y.image y.table u a x) c.self.view_is gives.filled) c.syn_expr_of.ensures.ok

pub returns-clause-term : goal.returns-clause-term
returns-clause-term g c =
    let t = c.self.inside.table in
    let u = c.syn_expr_of.new.table in
    let a = to_applied c.args.a.now in
    IfOk-weaker c.syn_expr_of.result (λ x. GivesTerm t u c.self.inside.store c.args.a.now x) _
    (λ x gives. subst (λ (y : Graph). IsTermWhereFull y.image.canonical a x) c.self.view_is gives.term) c.syn_expr_of.ensures.ok

pub returns-clause-valid : goal.returns-clause-valid
returns-clause-valid g c =
    let t = c.self.inside.table in
    let u = c.syn_expr_of.new.table in
    IfOk-weaker c.syn_expr_of.result (λ x. GivesTerm t u c.self.inside.store c.args.a.now x) _ (λ x gives. gives.valid) c.syn_expr_of.ensures.ok

pub returns-clause-count : goal.returns-clause-count
returns-clause-count g c =
    let a = to_applied c.args.a.now in
    subst (λ (y : Graph). MakesAtMost (slots_for_term y.image.canonical a) y.table c.syn_expr_of.new.table) c.self.view_is c.syn_expr_of.ensures.takes

pub returns-clause-full : goal.returns-clause-full
returns-clause-full g c out =
    let a = to_applied c.args.a.now in
    subst (λ (y : Graph). FilledTermRunsOut y.image.canonical a y.table c.syn_expr_of.new.table) c.self.view_is (c.syn_expr_of.ensures.full out)

pub syn_expr_of-requires-clause-fresh_slots : goal.syn_expr_of-requires-clause-fresh_slots
syn_expr_of-requires-clause-fresh_slots g c = elim c.self.invariant [ inl e ↦ absurd (false≢true (sym c.if-self.false ∙ e)) | inr inv ↦ inv.1 ]
