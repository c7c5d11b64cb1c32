use Rattle.std.proofs.Common.{map}
use Rattle.std.specs.Str.{chars}
use Rattle.std.proofs.lemmas.Result.{err_from_is_err_and}
use Rattle.slotted_patterns.specs.LentTokens.{lexeme}
use Rattle.slotted_patterns.specs.Tokens.{HasBadToken}
use Rattle.slotted_patterns.specs.Parsed.{PatternReads, without_tokens}
use Rattle.slotted_patterns.proofs.Refusals.{Refuses-weaker}
use Rattle.slotted_terms.proofs.TermReadings.{refuses_pattern, answers_tokens, valid_tokens, nodes_tokens}
use Rattle.slotted_terms.proofs.expr.RecExpr.parse.Goals as goal

pub returns-in_err-tokens-clause-answer : goal.returns-in_err-tokens-clause-answer
returns-in_err-tokens-clause-answer g c =
    let p = err_from_is_err_and c.from_residual.result c.from_residual.ensures.1 in
    rw (p.1, p.2)
    (refuses_pattern g.L.LanguageChildren.read c.args.table.now (chars c.args.text.now) c.tokenize.new.table _
    (Refuses-weaker (λ o. HasBadToken c.args.table.now (chars c.args.text.now) o c.tokenize.new.table) (λ o. PatternReads g.L.LanguageChildren.read c.args.table.now (chars c.args.text.now) o c.tokenize.new.table) _ c.in_err-tokens.ensures.none (λ o h. without_tokens h)))

pub returns-clause-answer : goal.returns-clause-answer
returns-clause-answer g c =
    let lent = c.deref.ensures.value in
    answers_tokens g.L.LanguageChildren.form g.L.LanguageChildren.read c.args.table.now (chars c.args.text.now) c.tokenize.new.table (map lexeme c.in_ok-tokens.tokens.items) c.in_ok-tokens.ensures.ok c.parse_tokens.result (rw lent at c.parse_tokens.ensures.ok) (rw lent at c.parse_tokens.ensures.none)

pub returns-clause-valid : goal.returns-clause-valid
returns-clause-valid g c =
    let lent = c.deref.ensures.value in
    valid_tokens g.L.LanguageChildren.form g.L.LanguageChildren.read c.args.table.now (chars c.args.text.now) c.tokenize.new.table (map lexeme c.in_ok-tokens.tokens.items) c.in_ok-tokens.ensures.ok g.met.L.LanguageChildren.faithful c.parse_tokens.result (rw lent at c.parse_tokens.ensures.ok)

pub returns-clause-nodes : goal.returns-clause-nodes
returns-clause-nodes g c =
    let lent = c.deref.ensures.value in
    nodes_tokens g.L.LanguageChildren.form g.L.LanguageChildren.read c.args.table.now (chars c.args.text.now) c.tokenize.new.table (map lexeme c.in_ok-tokens.tokens.items) c.in_ok-tokens.ensures.ok c.parse_tokens.result (rw lent at c.parse_tokens.ensures.ok)
