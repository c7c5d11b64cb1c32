use Rattle.std.proofs.Common.{◌≡◌, ◌∙◌, sym, inl, inr}
use Rattle.std.proofs.lemmas.Bool.{false≢true}
use Rattle.std.proofs.lemmas.Result.{IfOk-weaker}
use Rattle.slotted_slots.specs.declared.types.AppliedId.{AppliedId}
use Rattle.slotted_proofs.specs.Equations.{to_applied}
use Rattle.slotted_operations.specs.ValidIds.{IsValidId}
use Rattle.slotted_operations.specs.Image.{found_id}
use Rattle.slotted_operations.specs.Reports.{IsFoundFor}
use Rattle.slotted_operations.proofs.Ids.ValidIds.{of-valid}
use Rattle.slotted_operations.proofs.Graphs.Finds.{good-finds}
use Rattle.slotted_operations.proofs.Graphs.Reports.{found-for, found_id-finds}
use Rattle.slotted_graph.proofs.Insides.{inside-of, given}
use Rattle.slotted_graph.proofs.egraph.EGraph.find_applied_id.Goals as goal

pub find_applied_id-requires-clause-good : goal.find_applied_id-requires-clause-good
find_applied_id-requires-clause-good l c = elim c.self.invariant [ inl h ↦ absurd (false≢true (sym c.if-self.false ∙ h)) | inr h ↦ good-finds c.self.inside.store h.0 ]

pub find_applied_id-requires-clause-findable : goal.find_applied_id-requires-clause-findable
find_applied_id-requires-clause-findable l c =
    let inside = inside-of c.self.inside.table c.self.inside.store c.self.inside.nodes c.self.view_is c.if-self.false c.self.invariant in
    let g = c.args.self.now in
    let core = c.self.inside.store in
    let valid : IsValidId g (to_applied c.args.a.now) = given inside.failed c.requires in
    of-valid core inside.good g inside.image (to_applied c.args.a.now) valid

pub returns-clause-ok : goal.returns-clause-ok
returns-clause-ok l c =
    let inside = inside-of c.self.inside.table c.self.inside.store c.self.inside.nodes c.self.view_is c.if-self.false c.self.invariant in
    let g = c.args.self.now in
    let a = to_applied c.args.a.now in
    let core = c.self.inside.store in
    let valid : IsValidId g a = given inside.failed c.requires in
    IfOk-weaker c.find_applied_id.result _ (λ (b : AppliedId). to_applied b ≡ found_id g.image a) (λ b e. e ∙ found_id-finds core inside.good g inside.image a valid) c.find_applied_id.ensures.ok

pub returns-clause-found : goal.returns-clause-found
returns-clause-found l c =
    let inside = inside-of c.self.inside.table c.self.inside.store c.self.inside.nodes c.self.view_is c.if-self.false c.self.invariant in
    let g = c.args.self.now in
    let a = to_applied c.args.a.now in
    let core = c.self.inside.store in
    let valid : IsValidId g a = given inside.failed c.requires in
    IfOk-weaker c.find_applied_id.result _ (λ (b : AppliedId). IsFoundFor g a (to_applied b)) (λ b w. found-for core inside.good g inside.image a (to_applied b) valid w) c.find_applied_id.ensures.found
