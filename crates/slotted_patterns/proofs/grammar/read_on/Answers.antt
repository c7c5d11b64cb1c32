use Rattle.std.proofs.Common.{map, ap, ◌∙◌, rules, arith, length, ◌≡◌, Some}
use Rattle.slotted_slots.specs.Syntax.{lexeme_of}
use Rattle.slotted_patterns.specs.declared.grammar.Part.TheVariants.{Node, Place, Value}
use Rattle.slotted_patterns.specs.declared.grammar.Point.TheVariants.{Due}
use Rattle.slotted_patterns.proofs.ReaderSteps.{stepped_left_bracket, stepped_whole, stepped_on, answers_on, refusals_on, resumed_child}
use Rattle.slotted_patterns.proofs.grammar.read_on.Goals as goal

pub returns-then-skip_left_bracket-clause-ok : goal.returns-then-skip_left_bracket-clause-ok
returns-then-skip_left_bracket-clause-ok g c =
    stepped_left_bracket g.L.LanguageChildren.form g.L.LanguageChildren.read c.args.stack.now.items c.push.new.self.items c.args.base _ (map lexeme_of c.args.tokens.now.items) (map lexeme_of c.skip_left_bracket.new.tokens.items) (c.skip_left_bracket.ensures.found c.if-skip_left_bracket.true) (search (rules)) c.in_ok-push.ensures.items

pub returns-in-None-clause-ok : goal.returns-in-None-clause-ok
returns-in-None-clause-ok g c =
    let absent = c.skip_left_bracket.ensures.none c.if-skip_left_bracket.false in
    let none : length c.args.stack.now.items ≡ 0 = search (rules, arith) in
    stepped_whole g.L.LanguageChildren.form g.L.LanguageChildren.read c.args.stack.now.items c.pop.new.self.items c.args.base (map lexeme_of c.args.tokens.now.items) (map lexeme_of c.skip_left_bracket.new.tokens.items) (ap (map lexeme_of) absent.0) absent.1 none

pub returns-in_ok-push-in-Some-Node-clause-ok : goal.returns-in_ok-push-in-Some-Node-clause-ok
returns-in_ok-push-in-Some-Node-clause-ok g c =
    let absent = c.skip_left_bracket.ensures.none c.if-skip_left_bracket.false in
    stepped_on g.L.LanguageChildren.form g.L.LanguageChildren.read c.args.stack.now.items c.pop.new.self.items c.push-in-Some-Node.new.self.items c.pop.result (Node c.in-Some-Node.open) c.args.base Due (map lexeme_of c.args.tokens.now.items) (map lexeme_of c.skip_left_bracket.new.tokens.items) (map lexeme_of c.skip_left_bracket.new.tokens.items) (ap (map lexeme_of) absent.0) absent.1 c.pop.ensures.items (c.in-Some-Node.is ∙ ap Some c.in-Some-Node.field-0-is)
    (resumed_child g.L.LanguageChildren.form g.L.LanguageChildren.read c.pop.new.self.items c.push-in-Some-Node.new.self.items c.in-Some-Node.open _ c.args.base (map lexeme_of c.skip_left_bracket.new.tokens.items) c.in_ok-push_child-in-Some-Node.ensures.ok c.in_ok-push-in-Some-Node.ensures.items)

pub returns-in-Some-Place-clause-ok : goal.returns-in-Some-Place-clause-ok
returns-in-Some-Place-clause-ok g c =
    let absent = c.skip_left_bracket.ensures.none c.if-skip_left_bracket.false in
    answers_on g.L.LanguageChildren.form g.L.LanguageChildren.read c.args.stack.now.items c.pop.new.self.items c.read_value.new.stack.items c.pop.result (Place c.in-Some-Place.body) c.args.base (map lexeme_of c.args.tokens.now.items) (map lexeme_of c.skip_left_bracket.new.tokens.items) (map lexeme_of c.read_value.new.tokens.items) c.read_value.result (ap (map lexeme_of) absent.0) absent.1 c.pop.ensures.items (c.in-Some-Place.is ∙ ap Some c.in-Some-Place.field-0-is) c.read_value.ensures.ok

pub returns-in-Some-Place-clause-none : goal.returns-in-Some-Place-clause-none
returns-in-Some-Place-clause-none g c =
    let absent = c.skip_left_bracket.ensures.none c.if-skip_left_bracket.false in
    refusals_on g.L.LanguageChildren.form g.L.LanguageChildren.read c.args.stack.now.items c.pop.new.self.items c.pop.result (Place c.in-Some-Place.body) c.args.base (map lexeme_of c.args.tokens.now.items) (map lexeme_of c.skip_left_bracket.new.tokens.items) c.read_value.result (ap (map lexeme_of) absent.0) absent.1 c.pop.ensures.items (c.in-Some-Place.is ∙ ap Some c.in-Some-Place.field-0-is) c.read_value.ensures.none

pub returns-in-Some-Value-clause-ok : goal.returns-in-Some-Value-clause-ok
returns-in-Some-Value-clause-ok g c =
    let absent = c.skip_left_bracket.ensures.none c.if-skip_left_bracket.false in
    answers_on g.L.LanguageChildren.form g.L.LanguageChildren.read c.args.stack.now.items c.pop.new.self.items c.read_close.new.stack.items c.pop.result (Value c.in-Some-Value.body c.in-Some-Value.place) c.args.base (map lexeme_of c.args.tokens.now.items) (map lexeme_of c.skip_left_bracket.new.tokens.items) (map lexeme_of c.read_close.new.tokens.items) c.read_close.result (ap (map lexeme_of) absent.0) absent.1 c.pop.ensures.items (c.in-Some-Value.is ∙ ap Some c.in-Some-Value.field-0-is) c.read_close.ensures.ok

pub returns-in-Some-Value-clause-none : goal.returns-in-Some-Value-clause-none
returns-in-Some-Value-clause-none g c =
    let absent = c.skip_left_bracket.ensures.none c.if-skip_left_bracket.false in
    refusals_on g.L.LanguageChildren.form g.L.LanguageChildren.read c.args.stack.now.items c.pop.new.self.items c.pop.result (Value c.in-Some-Value.body c.in-Some-Value.place) c.args.base (map lexeme_of c.args.tokens.now.items) (map lexeme_of c.skip_left_bracket.new.tokens.items) c.read_close.result (ap (map lexeme_of) absent.0) absent.1 c.pop.ensures.items (c.in-Some-Value.is ∙ ap Some c.in-Some-Value.field-0-is) c.read_close.ensures.none
