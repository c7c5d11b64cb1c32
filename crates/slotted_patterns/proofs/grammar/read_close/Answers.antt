use Rattle.std.proofs.Common.{map, ap, rules}
use Rattle.slotted_slots.specs.Syntax.{lexeme_of}
use Rattle.slotted_patterns.proofs.ReaderSteps.{resumed_right_bracket, refuses_no_right_bracket}
use Rattle.slotted_patterns.specs.declared.pattern.Pattern.{the_lemmas}
use Rattle.slotted_patterns.proofs.grammar.read_close.Goals as goal

pub returns-then-not-skip_right_bracket-clause-none : goal.returns-then-not-skip_right_bracket-clause-none
returns-then-not-skip_right_bracket-clause-none g c =
    let absent = c.skip_right_bracket.ensures.none c.if-not-skip_right_bracket.true in
    refuses_no_right_bracket g.L.LanguageChildren.form g.L.LanguageChildren.read c.args.stack.now.items c.args.body c.args.place c.args.value (map lexeme_of c.args.tokens.now.items) (map lexeme_of c.skip_right_bracket.new.tokens.items) c.no_right_bracket.result (ap (map lexeme_of) absent.0) absent.1 c.no_right_bracket.ensures

pub returns-clause-ok : goal.returns-clause-ok
returns-clause-ok g c =
    resumed_right_bracket g.L.LanguageChildren.form g.L.LanguageChildren.read c.args.stack.now.items c.args.body c.args.place c.args.value _ (map lexeme_of c.args.tokens.now.items) (map lexeme_of c.skip_right_bracket.new.tokens.items) (c.skip_right_bracket.ensures.found c.if-not-skip_right_bracket.false) (search (rules, the_lemmas))
