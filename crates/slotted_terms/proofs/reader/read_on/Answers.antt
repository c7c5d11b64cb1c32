use Rattle.std.proofs.Common.{map}
use Rattle.slotted_slots.specs.Syntax.{element_of}
use Rattle.slotted_patterns.specs.LentTokens.{lexeme}
use Rattle.slotted_terms.proofs.ReaderSteps.{if_ok_some, leads_operator}
use Rattle.slotted_terms.proofs.reader.read_on.Goals as goal

pub returns-then-due-clause-ok : goal.returns-then-due-clause-ok
returns-then-due-clause-ok g c =
    if_ok_some c.read_operator.result c.read_operator.ensures.ok (λ next h.
    leads_operator g.L.LanguageChildren.form g.L.LanguageChildren.read (map element_of c.args.elements.now.items) (map element_of c.read_operator.new.elements.items) c.args.terms.now.items (lexeme c.args.token.now) c.args.due next h c.if-due.true)
