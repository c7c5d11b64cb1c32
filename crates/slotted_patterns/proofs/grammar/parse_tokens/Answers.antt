use Rattle.std.proofs.Common.{map, arith, rules}
use Rattle.std.proofs.lemmas.Result.{err_from_is_err_and}
use Rattle.slotted_slots.specs.Syntax.{lexeme_of}
use Rattle.slotted_patterns.specs.View.{tree_of}
use Rattle.slotted_patterns.proofs.WholeTexts.{reads_whole, reads_more, refuses_tokens}
use Rattle.slotted_patterns.proofs.grammar.parse_tokens.Goals as goal

pub returns-in_err-pattern : goal.returns-in_err-pattern
returns-in_err-pattern g c =
    let p = err_from_is_err_and c.from_residual.result c.from_residual.ensures.1 in
    rw (p.1, p.2)
    (refuses_tokens g.L.LanguageChildren.read (map lexeme_of c.args.tokens.items) _ (rw c.from_vec-tokens.ensures.items at c.in_err-pattern.ensures.none))

pub returns-then-is_empty : goal.returns-then-is_empty
returns-then-is_empty g c =
    reads_whole g.L.LanguageChildren.read (map lexeme_of c.args.tokens.items) (tree_of g.L.LanguageChildren.form c.in_ok-pattern.pattern) c.read_pattern.new.tokens.items (rw c.from_vec-tokens.ensures.items at c.in_ok-pattern.ensures.ok) (search (rules, arith))

pub returns-else-is_empty : goal.returns-else-is_empty
returns-else-is_empty g c =
    let more = reads_more g.L.LanguageChildren.read (map lexeme_of c.args.tokens.items) (tree_of g.L.LanguageChildren.form c.in_ok-pattern.pattern) c.read_pattern.new.tokens.items (rw c.from_vec-tokens.ensures.items at c.in_ok-pattern.ensures.ok) (search (rules, arith)) in
    rw c.into_vec.ensures.items more
