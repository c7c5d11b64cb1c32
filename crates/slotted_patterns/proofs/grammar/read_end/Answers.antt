use Rattle.std.proofs.Common.{◌∷◌, map, refl}
use Rattle.std.proofs.lemmas.Result.{err_from_is_err_and}
use Rattle.slotted_slots.specs.Syntax.{lexeme_of, right_paren}
use Rattle.slotted_patterns.proofs.ReaderSteps.{stepped_end, refuses_end, refuses_outside}
use Rattle.slotted_patterns.proofs.grammar.read_end.Goals as goal

pub returns-in_default-clause-none : goal.returns-in_default-clause-none
returns-in_default-clause-none g c =
    refuses_outside g.L.LanguageChildren.form g.L.LanguageChildren.read c.args.stack.now.items (right_paren ∷ map lexeme_of c.args.tokens.now.items) c.no_pattern.result c.in_default.ensures.none refl c.no_pattern.ensures

pub returns-in_err-build-clause-none : goal.returns-in_err-build-clause-none
returns-in_err-build-clause-none g c =
    let p = err_from_is_err_and c.from_residual.result c.from_residual.ensures.1 in
    rw (p.1, p.2)
    (refuses_end g.L.LanguageChildren.form g.L.LanguageChildren.read c.args.stack.now.items c.pop_bracket.new.stack.items c.in-Some.open (map lexeme_of c.args.tokens.now.items) _ c.in-Some.ensures.some c.in_err-build.ensures.none)

pub returns-clause-ok : goal.returns-clause-ok
returns-clause-ok g c =
    stepped_end g.L.LanguageChildren.form g.L.LanguageChildren.read c.args.stack.now.items c.pop_bracket.new.stack.items c.in-Some.open _ (map lexeme_of c.args.tokens.now.items) c.in-Some.ensures.some c.in_ok-build.ensures.ok
