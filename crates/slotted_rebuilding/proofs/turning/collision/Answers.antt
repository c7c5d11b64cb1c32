use Rattle.std.proofs.Common.{◌∙◌, ap, sym}
use Rattle.std.specs.Prelude.{option_map}
use Rattle.std.proofs.lemmas.Option.{none-some}
use Rattle.slotted_rebuilding.proofs.Collisions.{shared-shapes, shared-within}
use Rattle.slotted_rebuilding.proofs.turning.collision.Goals as goal

pub twin_proof-requires-clause-right : goal.twin_proof-requires-clause-right
twin_proof-requires-clause-right g c = shared-within c.args.store.now c.args.nodes.now c.args.class c.args.names.now c.args.other c.requires.good c.requires.shape

pub twin_proof-requires-clause-shape : goal.twin_proof-requires-clause-shape
twin_proof-requires-clause-shape g c =
    let form = g.L.LanguageChildren.form in
    shared-shapes c.args.store.now c.args.nodes.now c.args.class c.args.names.now c.args.other c.requires.good c.requires.within c.requires.shape (form c.in-Some.field-0-0.now) c.in-Some.others.now
    (ap (option_map (λ p. (form p.0.now, p.1.now))) (sym c.in-Some.is) ∙ c.node.ensures)

pub unreachable-requires : goal.unreachable-requires
unreachable-requires g c =
    let form = g.L.LanguageChildren.form in
    let s = c.requires.shape in
    none-some (s.key, s.filed.0) (ap (option_map (λ p. (form p.0.now, p.1.now))) (sym c.in-None.is) ∙ (c.node.ensures ∙ s.filed.1))
