use Rattle.std.proofs.Common.{◌∙◌, sym, inl, inr}
use Rattle.std.proofs.lemmas.Bool.{false≢true}
use Rattle.slotted_operations.specs.ValidIds.{IsValidId}
use Rattle.slotted_operations.specs.Good.{RestsWith}
use Rattle.slotted_proofs.specs.Equations.{to_applied}
use Rattle.slotted_operations.proofs.Unions.Equality.{says-of}
use Rattle.slotted_operations.proofs.Completeness.{complete-of}
use Rattle.slotted_operations.proofs.Ids.ValidIds.{of-valid}
use Rattle.slotted_graph.proofs.Insides.{inside-of, given}
use Rattle.slotted_graph.proofs.egraph.EGraph.eq.Goals as goal

pub returns-clause-found : goal.returns-clause-found
returns-clause-found l c =
    let inside = inside-of c.self.inside.table c.self.inside.store c.self.inside.nodes c.self.view_is c.if-self.false c.self.invariant in
    let g = c.args.self.now in
    let core = c.self.inside.store in
    let left : IsValidId g (to_applied c.args.a.now) = given inside.failed c.requires.left in
    let right : IsValidId g (to_applied c.args.b.now) = given inside.failed c.requires.right in
    (says-of core inside.good g inside.image (to_applied c.args.a.now) (to_applied c.args.b.now) left right c.eq.result c.eq.ensures).found

pub returns-clause-filled : goal.returns-clause-filled
returns-clause-filled l c =
    let inside = inside-of c.self.inside.table c.self.inside.store c.self.inside.nodes c.self.view_is c.if-self.false c.self.invariant in
    let g = c.args.self.now in
    let core = c.self.inside.store in
    let left : IsValidId g (to_applied c.args.a.now) = given inside.failed c.requires.left in
    let right : IsValidId g (to_applied c.args.b.now) = given inside.failed c.requires.right in
    (says-of core inside.good g inside.image (to_applied c.args.a.now) (to_applied c.args.b.now) left right c.eq.result c.eq.ensures).filled

pub returns-clause-whole : goal.returns-clause-whole
returns-clause-whole l c =
    let inside = inside-of c.self.inside.table c.self.inside.store c.self.inside.nodes c.self.view_is c.if-self.false c.self.invariant in
    let g = c.args.self.now in
    let core = c.self.inside.store in
    let left : IsValidId g (to_applied c.args.a.now) = given inside.failed c.requires.left in
    let right : IsValidId g (to_applied c.args.b.now) = given inside.failed c.requires.right in
    (says-of core inside.good g inside.image (to_applied c.args.a.now) (to_applied c.args.b.now) left right c.eq.result c.eq.ensures).whole

pub returns-clause-equal : goal.returns-clause-equal
returns-clause-equal l c =
    let inside = inside-of c.self.inside.table c.self.inside.store c.self.inside.nodes c.self.view_is c.if-self.false c.self.invariant in
    let g = c.args.self.now in
    let core = c.self.inside.store in
    let left : IsValidId g (to_applied c.args.a.now) = given inside.failed c.requires.left in
    let right : IsValidId g (to_applied c.args.b.now) = given inside.failed c.requires.right in
    (says-of core inside.good g inside.image (to_applied c.args.a.now) (to_applied c.args.b.now) left right c.eq.result c.eq.ensures).equal

pub returns-clause-derivable : goal.returns-clause-derivable
returns-clause-derivable l c =
    let inside = inside-of c.self.inside.table c.self.inside.store c.self.inside.nodes c.self.view_is c.if-self.false c.self.invariant in
    let g = c.args.self.now in
    let core = c.self.inside.store in
    let left : IsValidId g (to_applied c.args.a.now) = given inside.failed c.requires.left in
    let right : IsValidId g (to_applied c.args.b.now) = given inside.failed c.requires.right in
    (says-of core inside.good g inside.image (to_applied c.args.a.now) (to_applied c.args.b.now) left right c.eq.result c.eq.ensures).derivable

pub returns-clause-terms : goal.returns-clause-terms
returns-clause-terms l c =
    let inside = inside-of c.self.inside.table c.self.inside.store c.self.inside.nodes c.self.view_is c.if-self.false c.self.invariant in
    let g = c.args.self.now in
    let core = c.self.inside.store in
    let left : IsValidId g (to_applied c.args.a.now) = given inside.failed c.requires.left in
    let right : IsValidId g (to_applied c.args.b.now) = given inside.failed c.requires.right in
    (says-of core inside.good g inside.image (to_applied c.args.a.now) (to_applied c.args.b.now) left right c.eq.result c.eq.ensures).terms

pub eq-requires-clause-left : goal.eq-requires-clause-left
eq-requires-clause-left l c =
    let inside = inside-of c.self.inside.table c.self.inside.store c.self.inside.nodes c.self.view_is c.if-self.false c.self.invariant in
    let g = c.args.self.now in
    let core = c.self.inside.store in
    let left : IsValidId g (to_applied c.args.a.now) = given inside.failed c.requires.left in
    of-valid core inside.good g inside.image (to_applied c.args.a.now) left

pub eq-requires-clause-right : goal.eq-requires-clause-right
eq-requires-clause-right l c =
    let inside = inside-of c.self.inside.table c.self.inside.store c.self.inside.nodes c.self.view_is c.if-self.false c.self.invariant in
    let g = c.args.self.now in
    let core = c.self.inside.store in
    let right : IsValidId g (to_applied c.args.b.now) = given inside.failed c.requires.right in
    of-valid core inside.good g inside.image (to_applied c.args.b.now) right

pub returns-clause-complete_equal : goal.returns-clause-complete_equal
returns-clause-complete_equal l c =
    let inside = inside-of c.self.inside.table c.self.inside.store c.self.inside.nodes c.self.view_is c.if-self.false c.self.invariant in
    let g = c.args.self.now in
    let core = c.self.inside.store in
    let rests : RestsWith core c.self.inside.nodes = elim c.self.invariant [ inl h ↦ absurd (false≢true (sym c.if-self.false ∙ h)) | inr h ↦ h.2 ] in
    let left : IsValidId g (to_applied c.args.a.now) = given inside.failed c.requires.left in
    let right : IsValidId g (to_applied c.args.b.now) = given inside.failed c.requires.right in
    (complete-of core c.self.inside.nodes inside.good rests g inside.image (to_applied c.args.a.now) (to_applied c.args.b.now) left right c.eq.result c.eq.ensures).0

pub returns-clause-complete : goal.returns-clause-complete
returns-clause-complete l c =
    let inside = inside-of c.self.inside.table c.self.inside.store c.self.inside.nodes c.self.view_is c.if-self.false c.self.invariant in
    let g = c.args.self.now in
    let core = c.self.inside.store in
    let rests : RestsWith core c.self.inside.nodes = elim c.self.invariant [ inl h ↦ absurd (false≢true (sym c.if-self.false ∙ h)) | inr h ↦ h.2 ] in
    let left : IsValidId g (to_applied c.args.a.now) = given inside.failed c.requires.left in
    let right : IsValidId g (to_applied c.args.b.now) = given inside.failed c.requires.right in
    (complete-of core c.self.inside.nodes inside.good rests g inside.image (to_applied c.args.a.now) (to_applied c.args.b.now) left right c.eq.result c.eq.ensures).1
