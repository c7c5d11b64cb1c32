use Rattle.std.proofs.Common.{◌∙◌, ap, arith}
use Rattle.slotted_languages.specs.Shape.{shape}
use Rattle.slotted_languages.proofs.HandedOn.{handed_memory, no_slots, not_refused}
use Rattle.slotted_languages.proofs.Shapes.{values_of_shape, shape_back}
use Rattle.slotted_languages.proofs.language.Language.weak_shape.Goals as goal

pub returns-clause-names : goal.returns-clause-names
returns-clause-names g c =
    let form = g.Self.LanguageChildren.form in
    values_of_shape (form c.args.self.now) (form c.number_places.new.node) c.in_ok-free.free (c.in_ok-free.ensures.ok ∙ ap (λ n. shape (form n)) c.in_ok-node.ensures.ok)

pub returns-clause-back : goal.returns-clause-back
returns-clause-back g c =
    let form = g.Self.LanguageChildren.form in
    shape_back (form c.args.self.now) (form c.number_places.new.node) c.in_ok-free.free (g.met.Self.LanguageChildren.fits c.args.self.now)
    (c.in_ok-free.ensures.ok ∙ ap (λ n. shape (form n)) c.in_ok-node.ensures.ok)

pub returns-in_err-node-clause-full : goal.returns-in_err-node-clause-full
returns-in_err-node-clause-full g c = ((λ is. no_slots c.from_residual.result c.in_err-node.field-0.0 c.from_residual.ensures.1 c.in_err-node.ensures.err is), λ large. absurd (omega (arith, large, c.if-slot_count-ge-PLACES.false, c.slot_count.ensures)))

pub returns-in_err-node-clause-only : goal.returns-in_err-node-clause-only
returns-in_err-node-clause-only g c = handed_memory c.from_residual.result c.in_err-node.field-0.0 c.from_residual.ensures.1 c.in_err-node.ensures.err

pub returns-in_err-free-clause-full : goal.returns-in_err-free-clause-full
returns-in_err-free-clause-full g c = ((λ is. no_slots c.from_residual-in_err-free.result c.in_err-free.field-0.0 c.from_residual-in_err-free.ensures.1 c.in_err-free.ensures.err is), λ large. absurd (omega (arith, large, c.if-slot_count-ge-PLACES.false, c.slot_count.ensures)))

pub returns-in_err-free-clause-only : goal.returns-in_err-free-clause-only
returns-in_err-free-clause-only g c = handed_memory c.from_residual-in_err-free.result c.in_err-free.field-0.0 c.from_residual-in_err-free.ensures.1 c.in_err-free.ensures.err

pub returns-clause-full : goal.returns-clause-full
returns-clause-full g c = ((λ is. not_refused (c.number_places.new.node, c.in_ok-free.free) is), λ large. absurd (omega (arith, large, c.if-slot_count-ge-PLACES.false, c.slot_count.ensures)))

pub returns-clause-shape : goal.returns-clause-shape
returns-clause-shape g c = c.in_ok-free.ensures.ok ∙ ap (λ n. shape (g.Self.LanguageChildren.form n)) c.in_ok-node.ensures.ok
