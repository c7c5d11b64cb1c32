-- The id is filled over the table that makes its names.
use Rattle.std.proofs.Common.{◌≡◌, ◌∙◌, ap, subst, sym, inl, inr}
use Rattle.std.proofs.lemmas.Bool.{false≢true}
use Rattle.std.proofs.lemmas.Result.{IfOk-weaker}
use Rattle.slotted_lists.proofs.Results.{IfOk-both, IfOk-three}
use Rattle.slotted_slots.specs.Table.{Table, AllKnown}
use Rattle.slotted_model.specs.Applied.{values}
use Rattle.slotted_proofs.specs.Equations.{to_applied}
use Rattle.slotted_lookup.specs.Filling.{FillsId, filled_id, missing, with_fresh}
use Rattle.slotted_operations.specs.Good.{image_of}
use Rattle.slotted_operations.specs.Graph.{Graph, IsFullId}
use Rattle.slotted_operations.specs.Syn.{FillsFresh}
use Rattle.slotted_operations.proofs.Ids.FilledNames.{filled-full, fills-fresh}
use Rattle.slotted_operations.proofs.Graphs.FreshSlots.{fresh_slots-more}
use Rattle.slotted_operations.proofs.Ids.ValidIds.{of-valid}
use Rattle.slotted_graph.proofs.Insides.{inside-of}
use Rattle.slotted_graph.proofs.egraph.EGraph.full_id.Goals as goal

pub fill_id-requires-clause-findable : goal.fill_id-requires-clause-findable
fill_id-requires-clause-findable g c =
    let inside = inside-of c.self.inside.table c.self.inside.store c.self.inside.nodes c.self.view_is c.if-self.false c.self.invariant in
    let graph = c.args.self.now in
    let core = c.self.inside.store in
    let a = to_applied c.args.a.now in
    elim c.self.invariant [
      | inl e ↦ absurd (false≢true (sym c.if-self.false ∙ e))
      | inr inv ↦
          elim c.requires [
            | inl e ↦ absurd (false≢true (sym c.if-self.false ∙ (ap (λ (x : Graph). x.failed) c.self.view_is ∙ e)))
            | inr v ↦ of-valid core inv.0 graph inside.image a v
          ]
    ]

pub invariant_of-self : goal.invariant_of-self
invariant_of-self g c = elim c.self.invariant [
  | inl h ↦ inl h
  | inr h ↦ inr (h.0, fresh_slots-more c.self.inside.table c.fill_id.new.table c.self.inside.store c.fill_id.ensures.more h.1, h.2, h.3, h.4)
]

pub returns-clause-id : goal.returns-clause-id
returns-clause-id g c =
    let graph = c.args.self.now in
    let core = c.self.inside.store in
    let t = c.self.inside.table in
    let inside = inside-of t c.self.inside.store c.self.inside.nodes c.self.view_is c.if-self.false c.self.invariant in
    let a = to_applied c.args.a.now in
    elim c.requires [
      | inl e ↦ absurd (false≢true (sym c.if-self.false ∙ (ap (λ (x : Graph). x.failed) c.self.view_is ∙ e)))
      | inr v ↦
          let known : AllKnown t (values a.1) = subst (λ (x : Table). AllKnown x (values a.1)) (sym inside.table) v.known in
          IfOk-both c.fill_id.result (λ b. FillsId core t a (to_applied b)) (λ b. AllKnown t (values a.1) → AllKnown c.fill_id.new.table (values (to_applied b).1)) (λ b. IsFullId _ (to_applied b))
          (λ b fills k. record { full = filled-full core t a (to_applied b) known fills; known = k known }) c.fill_id.ensures.fills c.fill_id.ensures.known
    ]

pub returns-clause-fills : goal.returns-clause-fills
returns-clause-fills g c =
    let graph = c.args.self.now in
    let core = c.self.inside.store in
    let t = c.self.inside.table in
    let inside = inside-of t c.self.inside.store c.self.inside.nodes c.self.view_is c.if-self.false c.self.invariant in
    let u = c.fill_id.new.table in
    let a = to_applied c.args.a.now in
    elim c.requires [
      | inl e ↦ absurd (false≢true (sym c.if-self.false ∙ (ap (λ (x : Graph). x.failed) c.self.view_is ∙ e)))
      | inr v ↦
          let known : AllKnown t (values a.1) = subst (λ (x : Table). AllKnown x (values a.1)) (sym inside.table) v.known in
          IfOk-weaker c.fill_id.result (λ b. FillsFresh (image_of core) t u a (to_applied b)) _
          (λ b fresh. subst (λ (y : Graph). FillsFresh y.image y.table u a (to_applied b)) c.self.view_is fresh)
          (IfOk-three c.fill_id.result (λ b. FillsId core t a (to_applied b)) (λ b. to_applied b ≡ filled_id core t.fresh a) (λ b. u ≡ with_fresh (missing core a) t)
          (λ b. FillsFresh (image_of core) t u a (to_applied b)) (λ b fills is made. fills-fresh core t a (to_applied b) known fills u u is made (λ s k. k))
          c.fill_id.ensures.fills c.fill_id.ensures.id c.fill_id.ensures.made)
    ]
