use Rattle.std.proofs.Common.{◌∙◌, sym}
use Rattle.slotted_slots.specs.Maps.{value_of}
use Rattle.slotted_slots.proofs.Ascending.{has-is_among}
use Rattle.slotted_languages.specs.Fresh.{at_hand}
use Rattle.slotted_languages.proofs.Chosen.{chosen_free, chosen_fresh, chosen_own, no_value}
use Rattle.slotted_languages.proofs.HandedOn.{not_refused, takes_nothing}
use Rattle.slotted_languages.proofs.renaming.choose_name.Goals as goal

pub returns-in-Some-clause-ok : goal.returns-in-Some-clause-ok
returns-in-Some-clause-ok g c = chosen_free (g.L.LanguageChildren.form c.args.node.now).names c.args.avoid.now c.args.free.now c.args.names.now c.args.number c.args.name c.args.table.now c.in-Some.new (sym c.get.ensures ∙ c.in-Some.is)

pub returns-in-Some-clause-count : goal.returns-in-Some-clause-count
returns-in-Some-clause-count g c = takes_nothing 1 (at_hand c.args.avoid.now c.args.names.now (g.L.LanguageChildren.form c.args.node.now)) c.args.table.now

pub returns-in-Some-clause-full : goal.returns-in-Some-clause-full
returns-in-Some-clause-full g c is = not_refused c.in-Some.new is

pub returns-in-Some-clause-needed : goal.returns-in-Some-clause-needed
returns-in-Some-clause-needed g c is = not_refused c.in-Some.new is

pub returns-then-not-contains-clause-ok : goal.returns-then-not-contains-clause-ok
returns-then-not-contains-clause-ok g c = chosen_own (g.L.LanguageChildren.form c.args.node.now).names c.args.avoid.now c.args.free.now c.args.names.now c.args.number c.args.name c.args.table.now (sym c.get.ensures ∙ c.in_default.is) (sym (has-is_among c.args.avoid.now c.args.name) ∙ (sym c.contains.ensures ∙ c.if-not-contains.true))

pub returns-then-not-contains-clause-count : goal.returns-then-not-contains-clause-count
returns-then-not-contains-clause-count g c = takes_nothing 1 (at_hand c.args.avoid.now c.args.names.now (g.L.LanguageChildren.form c.args.node.now)) c.args.table.now

pub returns-then-not-contains-clause-full : goal.returns-then-not-contains-clause-full
returns-then-not-contains-clause-full g c is = not_refused c.args.name is

pub returns-then-not-contains-clause-needed : goal.returns-then-not-contains-clause-needed
returns-then-not-contains-clause-needed g c is = sym c.get.ensures ∙ c.in_default.is

pub returns-clause-ok : goal.returns-clause-ok
returns-clause-ok g c =
    chosen_fresh (g.L.LanguageChildren.form c.args.node.now).names c.args.avoid.now c.args.free.now c.args.names.now c.args.number c.args.name c.args.table.now c.fresh_apart.new.table c.fresh_apart.result (sym c.get.ensures ∙ c.in_default.is)
    (sym (has-is_among c.args.avoid.now c.args.name) ∙ (sym c.contains.ensures ∙ c.if-not-contains.false))
    c.fresh_apart.ensures.avoid c.fresh_apart.ensures.node c.fresh_apart.ensures.names c.fresh_apart.ensures.unused c.fresh_apart.ensures.known

pub returns-clause-taken : goal.returns-clause-taken
returns-clause-taken g c = c.fresh_apart.ensures.taken

pub returns-clause-count : goal.returns-clause-count
returns-clause-count g c = c.fresh_apart.ensures.count

pub returns-clause-full : goal.returns-clause-full
returns-clause-full g c is = c.fresh_apart.ensures.full is

pub returns-clause-spared : goal.returns-clause-spared
returns-clause-spared g c h = no_value (value_of c.args.free.now c.args.number) (sym c.get.ensures ∙ c.in_default.is) h

pub returns-clause-needed : goal.returns-clause-needed
returns-clause-needed g c is = sym c.get.ensures ∙ c.in_default.is
