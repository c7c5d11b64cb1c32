use Rattle.std.proofs.Common.{◌∙◌, ap, inl, inr, rules, sym}
use Rattle.std.specs.Prelude.{option_map}
use Rattle.slotted_languages.specs.NodeTerm.{nameless_node}
use Rattle.slotted_model.proofs.Represented.Children.{EachChild-map}
use Rattle.slotted_model.proofs.Data.Options.{None-Some}
use Rattle.slotted_classes.specs.Finding.{IsFindable}
use Rattle.slotted_proofs.specs.Equations.{to_applied}
use Rattle.slotted_operations.proofs.Additions.MissingNodes.{found, found-known, found-made}
use Rattle.slotted_operations.proofs.Additions.NodeFillings.{none-taken, runs_out-large}
use Rattle.slotted_operations.proofs.looking_up.add.Goals as goal

pub look_up-requires-clause-good : goal.look_up-requires-clause-good
look_up-requires-clause-good g c = c.requires.rests.filed

pub returns-in-Some-clause-ok : goal.returns-in-Some-clause-ok
returns-in-Some-clause-ok g c =
    found-known c.args.store.now c.args.nodes.now c.requires.good c.requires.rests c.args.table.now c.requires.fresh_slots (g.L.LanguageChildren.form c.args.node.now) (to_applied c.in-Some.answer) (ap (option_map to_applied) (sym c.in-Some.is) ∙ c.in_ok-answer.ensures.ok)

pub returns-in-Some-clause-takes : goal.returns-in-Some-clause-takes
returns-in-Some-clause-takes g c = none-taken c.args.store.now (g.L.LanguageChildren.form c.args.node.now) c.args.table.now

pub returns-in_err-answer-clause-takes : goal.returns-in_err-answer-clause-takes
returns-in_err-answer-clause-takes g c = none-taken c.args.store.now (g.L.LanguageChildren.form c.args.node.now) c.args.table.now

pub returns-in_err-answer-clause-full : goal.returns-in_err-answer-clause-full
returns-in_err-answer-clause-full g c e =
    let large = c.in_err-answer.ensures.full (search rules) in
    (runs_out-large c.args.store.now (g.L.LanguageChildren.form c.args.node.now) c.args.table.now c.args.table.now large, inr large)

pub returns-in_err-add_filled-clause-full : goal.returns-in_err-add_filled-clause-full
returns-in_err-add_filled-clause-full g c e = (c.in_err-add_filled.ensures.full (search rules), inl (sym c.in_ok-answer.ensures.ok ∙ ap (option_map to_applied) c.in_default.is))

pub look_up-requires-2-clause-good : goal.look_up-requires-2-clause-good
look_up-requires-2-clause-good g c = c.in_ok-add_filled.ensures.ok.adds.rests.filed

pub look_up-requires-2-clause-children : goal.look_up-requires-2-clause-children
look_up-requires-2-clause-children g c =
    let on = c.in_ok-add_filled.ensures.ok.adds.goes_on in
    EachChild-map (IsFindable c.args.store.now) (IsFindable c.add_filled.new.store) (λ a v. (on.finds a v).0) (nameless_node (g.L.LanguageChildren.form c.args.node.now)).args c.requires.children

pub returns-in_err-answer-2-clause-full : goal.returns-in_err-answer-2-clause-full
returns-in_err-answer-2-clause-full g c e =
    let large = c.in_err-answer-2.ensures.full (search rules) in
    (runs_out-large c.args.store.now (g.L.LanguageChildren.form c.args.node.now) c.args.table.now c.add_filled.new.table large, inr large)

pub returns-clause-ok : goal.returns-clause-ok
returns-clause-ok g c =
    found-made c.args.store.now c.args.nodes.now c.requires.good c.requires.rests c.args.table.now c.add_filled.new.table (g.L.LanguageChildren.form c.args.node.now) c.requires.children
    (sym c.in_ok-answer.ensures.ok ∙ ap (option_map to_applied) c.in_default.is) c.add_filled.new.store c.add_filled.new.nodes (to_applied c.in_ok-add_filled.field-0) c.in_ok-add_filled.ensures.ok (to_applied c.in-Some-2.answer) (ap (option_map to_applied) (sym c.in-Some-2.is) ∙ c.in_ok-answer-2.ensures.ok)

pub unreachable-requires : goal.unreachable-requires
unreachable-requires g c =
    let f = g.L.LanguageChildren.form c.args.node.now in
    let h = found c.args.store.now c.args.nodes.now c.requires.good c.requires.rests c.args.table.now c.add_filled.new.table f c.requires.children
    (sym c.in_ok-answer.ensures.ok ∙ ap (option_map to_applied) c.in_default.is) c.add_filled.new.store c.add_filled.new.nodes (to_applied c.in_ok-add_filled.field-0) c.in_ok-add_filled.ensures.ok in
    None-Some _ (ap (option_map to_applied) (sym c.in-None.is) ∙ (c.in_ok-answer-2.ensures.ok ∙ h))
