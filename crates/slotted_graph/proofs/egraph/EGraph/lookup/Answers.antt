use Rattle.std.proofs.Common.{◌≡◌, ◌∙◌, sym, inl, inr}
use Rattle.std.specs.Prelude.{IfSome, Option, option_map}
use Rattle.std.proofs.lemmas.Bool.{false≢true}
use Rattle.std.proofs.lemmas.Result.{IfOk-weaker}
use Rattle.slotted_slots.specs.declared.types.AppliedId.{AppliedId}
use Rattle.slotted_proofs.specs.Equations.{to_applied}
use Rattle.slotted_operations.specs.Adding.{IsEqualToNode}
use Rattle.slotted_operations.specs.ValidIds.{IsValidNode}
use Rattle.slotted_operations.specs.LookUp.{look_up}
use Rattle.slotted_operations.specs.Reports.{IsFound}
use Rattle.slotted_operations.proofs.Ids.ValidIds.{findable-children}
use Rattle.slotted_operations.proofs.LookUps.FoundIds.{node-equal_to, node-found, node-id}
use Rattle.slotted_graph.proofs.Insides.{inside-of, given}
use Rattle.slotted_graph.proofs.egraph.EGraph.lookup.Goals as goal

pub look_up-requires-clause-good : goal.look_up-requires-clause-good
look_up-requires-clause-good g c = elim c.self.invariant [ inl e ↦ absurd (false≢true (sym c.if-self.false ∙ e)) | inr v ↦ v.2.filed ]

pub look_up-requires-clause-children : goal.look_up-requires-clause-children
look_up-requires-clause-children g c =
    let h = c.args.self.now in
    let f = g.L.LanguageChildren.form c.args.node.now in
    let k = c.self.inside.store in
    let r = c.self.inside.nodes in
    let inside = inside-of c.self.inside.table k r c.self.view_is c.if-self.false c.self.invariant in
    let valid : IsValidNode h f = given inside.failed c.requires in
    findable-children k inside.good h inside.image f (g.met.L.LanguageChildren.fits c.args.node.now) valid.children

pub returns-clause-id : goal.returns-clause-id
returns-clause-id g c =
    let h = c.args.self.now in
    let f = g.L.LanguageChildren.form c.args.node.now in
    let k = c.self.inside.store in
    let r = c.self.inside.nodes in
    let inside = inside-of c.self.inside.table k r c.self.view_is c.if-self.false c.self.invariant in
    let valid : IsValidNode h f = given inside.failed c.requires in
    IfOk-weaker c.look_up.result _ (λ (o : Option AppliedId). option_map to_applied o ≡ look_up h f)
    (λ o e. node-id k r inside.good inside.rests h inside.image inside.filed f (g.met.L.LanguageChildren.fits c.args.node.now) valid o e) c.look_up.ensures.ok

pub returns-clause-found : goal.returns-clause-found
returns-clause-found g c =
    let h = c.args.self.now in
    let f = g.L.LanguageChildren.form c.args.node.now in
    let k = c.self.inside.store in
    let r = c.self.inside.nodes in
    let inside = inside-of c.self.inside.table k r c.self.view_is c.if-self.false c.self.invariant in
    let valid : IsValidNode h f = given inside.failed c.requires in
    IfOk-weaker c.look_up.result _ (λ (o : Option AppliedId). IfSome o (λ a. IsFound h (to_applied a)))
    (λ o e. node-found k r inside.good inside.rests h inside.image inside.filed f (g.met.L.LanguageChildren.fits c.args.node.now) valid o e) c.look_up.ensures.ok

pub returns-clause-equal : goal.returns-clause-equal
returns-clause-equal g c =
    let h = c.args.self.now in
    let f = g.L.LanguageChildren.form c.args.node.now in
    let k = c.self.inside.store in
    let r = c.self.inside.nodes in
    let inside = inside-of c.self.inside.table k r c.self.view_is c.if-self.false c.self.invariant in
    let valid : IsValidNode h f = given inside.failed c.requires in
    IfOk-weaker c.look_up.result _ (λ (o : Option AppliedId). IfSome o (λ a. IsEqualToNode h.image (to_applied a) f))
    (λ o e. node-equal_to k r inside.good inside.rests h inside.image inside.filed f (g.met.L.LanguageChildren.fits c.args.node.now) valid o e) c.look_up.ensures.ok
