use Rattle.std.proofs.Common.{map, ap, ◌∙◌}
use Rattle.std.specs.List.{list_all}
use Rattle.slotted_patterns.specs.Tree.{row_of}
use Rattle.slotted_patterns.specs.View.{tree_of}
use Rattle.slotted_symbols.specs.SymbolForms.{symbol_form}
use Rattle.slotted_signatures.specs.Shown.{has_more, is_word}
use Rattle.slotted_signatures.proofs.Examples.{shows, shows-none}
use Rattle.slotted_signatures.proofs.signature.Signature.of.Goals as goal

pub returns-then-not-are_words-clause-ok : goal.returns-then-not-are_words-clause-ok
returns-then-not-are_words-clause-ok c =
    let words = c.are_words.ensures ∙ ap (λ l. list_all is_word (map (tree_of symbol_form) l)) c.deref.ensures.value in
    shows-none c.args.example.now c.in-ENode.node c.in-ENode.children c.in-ENode.is c.args.text.now c.are_words.result words c.if-not-are_words.true

pub returns-clause-ok : goal.returns-clause-ok
returns-clause-ok c =
    let words = c.are_words.ensures ∙ ap (λ l. list_all is_word (map (tree_of symbol_form) l)) c.deref.ensures.value in
    let more = c.has_more-more.ensures ∙ ap (λ l. has_more (symbol_form c.in-ENode.node) (row_of (map (tree_of symbol_form) l))) c.deref-2.ensures.value in
    shows c.args.example.now c.in-ENode.node c.in-ENode.children c.in-ENode.is c.args.text.now c.are_words.result words c.has_more-more.result c.in_ok-signature_of.field-0 c.if-not-are_words.false more c.in_ok-signature_of.ensures.ok
