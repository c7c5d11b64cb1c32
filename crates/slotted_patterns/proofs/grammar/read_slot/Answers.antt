use Rattle.std.proofs.Common.{◌∷◌, map, refl}
use Rattle.slotted_slots.specs.Syntax.{lexeme_of, slot}
use Rattle.slotted_patterns.proofs.ReaderSteps.{stepped_slot, refuses_outside}
use Rattle.slotted_patterns.proofs.grammar.read_slot.Goals as goal

pub returns-in_default-clause-none : goal.returns-in_default-clause-none
returns-in_default-clause-none g c =
    refuses_outside g.L.LanguageChildren.form g.L.LanguageChildren.read c.args.stack.now.items (slot c.args.name ∷ map lexeme_of c.args.tokens.now.items) c.no_pattern.result c.in_default.ensures.none refl c.no_pattern.ensures

pub returns-clause-ok : goal.returns-clause-ok
returns-clause-ok g c =
    stepped_slot g.L.LanguageChildren.form g.L.LanguageChildren.read c.args.stack.now.items c.pop_bracket.new.stack.items c.push.new.self.items c.in-Some.open _ c.args.name (map lexeme_of c.args.tokens.now.items) c.in-Some.ensures.some c.in_ok-push_slot.ensures.ok c.in_ok-push.ensures.items
