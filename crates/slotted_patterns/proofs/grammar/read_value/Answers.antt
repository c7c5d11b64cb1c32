use Rattle.std.proofs.Common.{map, ap, rules}
use Rattle.slotted_slots.specs.Syntax.{lexeme_of}
use Rattle.slotted_patterns.proofs.ReaderSteps.{resumed_colon_equals, refuses_no_colon_equals}
use Rattle.slotted_patterns.proofs.grammar.read_value.Goals as goal

pub returns-then-not-skip_colon_equals-clause-none : goal.returns-then-not-skip_colon_equals-clause-none
returns-then-not-skip_colon_equals-clause-none g c =
    let absent = c.skip_colon_equals.ensures.none c.if-not-skip_colon_equals.true in
    refuses_no_colon_equals g.L.LanguageChildren.form g.L.LanguageChildren.read c.args.stack.now.items c.args.body c.args.place (map lexeme_of c.args.tokens.now.items) (map lexeme_of c.skip_colon_equals.new.tokens.items) c.no_colon_equals.result (ap (map lexeme_of) absent.0) absent.1 c.no_colon_equals.ensures

pub returns-clause-ok : goal.returns-clause-ok
returns-clause-ok g c =
    resumed_colon_equals g.L.LanguageChildren.form g.L.LanguageChildren.read c.args.stack.now.items c.push.new.self.items c.args.body c.args.place _ (map lexeme_of c.args.tokens.now.items) (map lexeme_of c.skip_colon_equals.new.tokens.items) (c.skip_colon_equals.ensures.found c.if-not-skip_colon_equals.false) (search (rules)) c.in_ok-push.ensures.items
