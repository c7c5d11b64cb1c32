use Rattle.std.proofs.Common.{ap, ◌∙◌, Some}
use Rattle.slotted_patterns.specs.declared.grammar.Part.TheVariants.{Node, Place, Value}
use Rattle.slotted_patterns.proofs.ReaderSteps.{parts_of-popped, popped_outside}
use Rattle.slotted_patterns.proofs.grammar.pop_bracket.Goals as goal

pub returns-in-Some-Node-clause-some : goal.returns-in-Some-Node-clause-some
returns-in-Some-Node-clause-some g c =
    parts_of-popped g.L.LanguageChildren.form c.args.stack.now.items c.pop.new.self.items c.pop.result (Node c.in-Some-Node.open) c.pop.ensures.items (c.in-Some-Node.is ∙ ap Some c.in-Some-Node.field-0-is)

pub returns-in-Some-Place-clause-none : goal.returns-in-Some-Place-clause-none
returns-in-Some-Place-clause-none g c =
    popped_outside g.L.LanguageChildren.form c.args.stack.now.items c.pop.new.self.items c.pop.result (Place c.in-Some-Place.field-0-0) c.pop.ensures.items (c.in-Some-Place.is ∙ ap Some c.in-Some-Place.field-0-is) tt

pub returns-in-Some-Value-clause-none : goal.returns-in-Some-Value-clause-none
returns-in-Some-Value-clause-none g c =
    popped_outside g.L.LanguageChildren.form c.args.stack.now.items c.pop.new.self.items c.pop.result (Value c.in-Some-Value.field-0-0 c.in-Some-Value.field-0-1) c.pop.ensures.items (c.in-Some-Value.is ∙ ap Some c.in-Some-Value.field-0-is) tt
