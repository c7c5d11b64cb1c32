use Rattle.std.proofs.Common.{map, ap, ◌∙◌, rules, arith, ◌∷◌}
use Rattle.std.specs.Prelude.{string_bytes}
use Rattle.std.proofs.lemmas.Result.{err_from_is_err_and}
use Rattle.slotted_slots.specs.Syntax.{lexeme_of, left_paren}
use Rattle.slotted_patterns.specs.declared.pattern.Pattern.{the_lemmas}
use Rattle.slotted_patterns.proofs.ReaderSteps.{first_token, refuses_nothing, is_other, refuses_other, stepped_begin, refuses_no_operator, stepped_word, refuses_word, stepped_variable}
use Rattle.slotted_patterns.proofs.grammar.read_base.Goals as goal

pub returns-in_default-clause-none : goal.returns-in_default-clause-none
returns-in_default-clause-none g c =
    refuses_nothing g.L.LanguageChildren.form g.L.LanguageChildren.read c.args.stack.now.items c.args.tokens.now.items c.pop_front.new.self.items c.no_pattern.result c.in_default.ensures.items (search (rules, arith)) c.no_pattern.ensures

pub returns-in_err-operator-in-LParen-clause-none : goal.returns-in_err-operator-in-LParen-clause-none
returns-in_err-operator-in-LParen-clause-none g c =
    let p = err_from_is_err_and c.from_residual.result c.from_residual.ensures.1 in
    rw (p.1, p.2)
    (refuses_no_operator g.L.LanguageChildren.form g.L.LanguageChildren.read c.args.stack.now.items (map lexeme_of c.args.tokens.now.items) (map lexeme_of c.pop_front.new.self.items) _ (first_token c.args.tokens.now.items c.pop_front.new.self.items c.in-Some.token _ c.in-Some.ensures.items c.in-LParen.is) c.in_err-operator-in-LParen.ensures.none)

pub returns-in_err-build-in-Ident-clause-none : goal.returns-in_err-build-in-Ident-clause-none
returns-in_err-build-in-Ident-clause-none g c =
    let p = err_from_is_err_and c.from_residual-in_err-build-in-Ident.result c.from_residual-in_err-build-in-Ident.ensures.1 in
    rw (p.1, p.2)
    (refuses_word g.L.LanguageChildren.form g.L.LanguageChildren.read c.args.stack.now.items c.in_ok-new-in-Ident.field-0 (map lexeme_of c.args.tokens.now.items) (map lexeme_of c.pop_front.new.self.items) (string_bytes c.in-Ident.word) _ (first_token c.args.tokens.now.items c.pop_front.new.self.items c.in-Some.token _ c.in-Some.ensures.items c.in-Ident.is) c.in_ok-new-in-Ident.ensures.ok c.in_err-build-in-Ident.ensures.none)

pub returns-in_ok-push-in-LParen-clause-ok : goal.returns-in_ok-push-in-LParen-clause-ok
returns-in_ok-push-in-LParen-clause-ok g c =
    stepped_begin g.L.LanguageChildren.form g.L.LanguageChildren.read c.args.stack.now.items c.push.new.self.items c.in_ok-new-in-LParen.field-0 (map lexeme_of c.args.tokens.now.items) (map lexeme_of c.next_operator.new.tokens.items) (string_bytes c.in_ok-operator-in-LParen.operator) (first_token c.args.tokens.now.items c.pop_front.new.self.items c.in-Some.token _ c.in-Some.ensures.items c.in-LParen.is ∙ ap (λ ls. left_paren ∷ ls) c.in_ok-operator-in-LParen.ensures.ok) c.in_ok-new-in-LParen.ensures.ok c.in_ok-push-in-LParen.ensures.items

pub returns-in_ok-build-in-Ident-clause-ok : goal.returns-in_ok-build-in-Ident-clause-ok
returns-in_ok-build-in-Ident-clause-ok g c =
    stepped_word g.L.LanguageChildren.form g.L.LanguageChildren.read c.args.stack.now.items c.in_ok-new-in-Ident.field-0 _ (map lexeme_of c.args.tokens.now.items) (map lexeme_of c.pop_front.new.self.items) (string_bytes c.in-Ident.word) (first_token c.args.tokens.now.items c.pop_front.new.self.items c.in-Some.token _ c.in-Some.ensures.items c.in-Ident.is) c.in_ok-new-in-Ident.ensures.ok c.in_ok-build-in-Ident.ensures.ok

pub returns-in-PVar-clause-ok : goal.returns-in-PVar-clause-ok
returns-in-PVar-clause-ok g c =
    stepped_variable g.L.LanguageChildren.form g.L.LanguageChildren.read c.args.stack.now.items _ (map lexeme_of c.args.tokens.now.items) (map lexeme_of c.pop_front.new.self.items) (string_bytes c.in-PVar.name) (first_token c.args.tokens.now.items c.pop_front.new.self.items c.in-Some.token _ c.in-Some.ensures.items c.in-PVar.is) (search (rules, the_lemmas))

pub returns-in_default-token-clause-none : goal.returns-in_default-token-clause-none
returns-in_default-token-clause-none g c =
    let n = is_other c.in-Some.token c.in_default-token.not-Slot c.in_default-token.not-Ident c.in_default-token.not-PVar c.in_default-token.not-LParen c.in_default-token.not-RParen in
    refuses_other g.L.LanguageChildren.form g.L.LanguageChildren.read c.args.stack.now.items c.args.tokens.now.items c.pop_front.new.self.items c.in-Some.token c.no_pattern-in_default-token.result c.in-Some.ensures.items n c.no_pattern-in_default-token.ensures
