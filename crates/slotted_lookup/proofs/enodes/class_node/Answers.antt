-- The node with the names of the id in the place of numbers.
use Rattle.std.proofs.Common.{◌∙◌, ap, sym, subst, arith}
use Rattle.std.specs.Prelude.{option_map}
use Rattle.slotted_nodes.specs.Form.{Form}
use Rattle.slotted_languages.specs.Shape.{shape}
use Rattle.slotted_model.specs.Applied.{values}
use Rattle.slotted_proofs.specs.Equations.{to_applied}
use Rattle.slotted_classes.specs.Names.{with_put}
use Rattle.slotted_hashcons.specs.Filed.{HasKey}
use Rattle.slotted_hashcons.proofs.Indexed.{place-within}
use Rattle.slotted_classes.proofs.StoredFinds.{stored-finds}
use Rattle.slotted_lookup.specs.Enodes.{HasNamesOrNumbers, IsLookedUpAs}
use Rattle.slotted_lookup.proofs.EnodeNames.{put-key, put-looked_up, put-names}
use Rattle.slotted_lookup.proofs.enodes.class_node.Goals as goal

pub names_beside-requires-clause-good : goal.names_beside-requires-clause-good
names_beside-requires-clause-good g c = stored-finds c.args.store.now c.requires.good.stored

pub names_beside-requires-clause-within : goal.names_beside-requires-clause-within
names_beside-requires-clause-within g c =
    let h = c.requires.filed in
    omega (arith, place-within c.args.nodes.now.filed c.args.source h.0 h.1, c.requires.good.count)

pub returns-clause-key : goal.returns-clause-key
returns-clause-key g c =
    let form = g.L.LanguageChildren.form in
    let k = c.args.store.now in
    let r = c.args.nodes.now in
    let key = form c.in-Some.key.now in
    let at = sym (ap (option_map (λ p. (form p.0.now, p.1.now))) (sym c.in-Some.is) ∙ c.node.ensures) in
    let is = c.put_at_places.ensures ∙ (λ j. with_put (c.in_ok-names-in-Some.ensures.ok j) (form (c.in_ok-node-in-Some.ensures.ok j))) in
    subst (λ (f : Form). HasKey r.filed c.args.source (shape f).0) (sym is)
    (put-key k r c.requires.good c.args.source key c.in-Some.slots.now at c.requires.quiet (to_applied c.args.a.now) c.requires.findable c.requires.met c.requires.fresh)

pub returns-clause-found : goal.returns-clause-found
returns-clause-found g c =
    let form = g.L.LanguageChildren.form in
    let k = c.args.store.now in
    let r = c.args.nodes.now in
    let a = to_applied c.args.a.now in
    let key = form c.in-Some.key.now in
    let at = sym (ap (option_map (λ p. (form p.0.now, p.1.now))) (sym c.in-Some.is) ∙ c.node.ensures) in
    let is = c.put_at_places.ensures ∙ (λ j. with_put (c.in_ok-names-in-Some.ensures.ok j) (form (c.in_ok-node-in-Some.ensures.ok j))) in
    subst (IsLookedUpAs k r a) (sym is) (put-looked_up k r c.requires.good c.args.source key c.in-Some.slots.now at c.requires.quiet a c.requires.findable c.requires.met c.requires.fresh)

pub returns-clause-names : goal.returns-clause-names
returns-clause-names g c =
    let form = g.L.LanguageChildren.form in
    let k = c.args.store.now in
    let r = c.args.nodes.now in
    let a = to_applied c.args.a.now in
    let key = form c.in-Some.key.now in
    let at = sym (ap (option_map (λ p. (form p.0.now, p.1.now))) (sym c.in-Some.is) ∙ c.node.ensures) in
    let is = c.put_at_places.ensures ∙ (λ j. with_put (c.in_ok-names-in-Some.ensures.ok j) (form (c.in_ok-node-in-Some.ensures.ok j))) in
    subst (HasNamesOrNumbers (values a.1)) (sym is) (put-names k r c.requires.good c.args.source key c.in-Some.slots.now at c.requires.quiet a c.requires.findable c.requires.met c.requires.fresh)
