use Rattle.std.proofs.Common.{map}
use Rattle.std.specs.Str.{chars}
use Rattle.std.proofs.lemmas.Result.{err_from_is_err_and}
use Rattle.slotted_patterns.specs.LentTokens.{lexeme}
use Rattle.slotted_patterns.specs.View.{tree_of}
use Rattle.slotted_patterns.specs.Tokens.{HasBadToken}
use Rattle.slotted_patterns.specs.Parsed.{TokensRead, PatternReads, without_tokens, by_tokens}
use Rattle.slotted_patterns.proofs.Refusals.{Refuses-weaker, Answers-weaker}
use Rattle.slotted_patterns.proofs.KnownPatterns.{answer_known}
use Rattle.slotted_patterns.proofs.pattern.Pattern.parse.Goals as goal

pub returns-in_err-tokens-clause-answer : goal.returns-in_err-tokens-clause-answer
returns-in_err-tokens-clause-answer g c =
    let p = err_from_is_err_and c.from_residual.result c.from_residual.ensures.1 in
    rw (p.1, p.2)
    (Refuses-weaker (λ o. HasBadToken c.args.table.now (chars c.args.text.now) o c.tokenize.new.table) (λ o. PatternReads g.L.LanguageChildren.read c.args.table.now (chars c.args.text.now) o c.tokenize.new.table) _ c.in_err-tokens.ensures.none (λ o h. without_tokens h))

pub returns-clause-answer : goal.returns-clause-answer
returns-clause-answer g c =
    let lent = c.deref.ensures.value in
    Answers-weaker (tree_of g.L.LanguageChildren.form) (TokensRead g.L.LanguageChildren.read (map lexeme c.in_ok-tokens.tokens.items)) (λ o. PatternReads g.L.LanguageChildren.read c.args.table.now (chars c.args.text.now) o c.tokenize.new.table) c.parse_lent.result (rw lent at c.parse_lent.ensures) (λ o h. by_tokens c.in_ok-tokens.ensures.ok h)

pub returns-clause-known : goal.returns-clause-known
returns-clause-known g c =
    answer_known g.L.LanguageChildren.form g.L.LanguageChildren.read g.met.L.LanguageChildren.faithful c.args.table.now (chars c.args.text.now) c.tokenize.new.table c.parse_lent.result (returns-clause-answer g c)
