use Rattle.std.proofs.Common.{ap, ◌∙◌, sym}
use Rattle.slotted_nodes.specs.ReadFrom.{applied_count}
use Rattle.slotted_symbols.specs.Arguments.{elements}
use Rattle.slotted_symbols.specs.Trees.{count-tree_of}
use Rattle.slotted_symbols.proofs.symbol_lang.SymbolLangLanguageChildren.applied_id_count.Goals as goal

pub returns : goal.returns
returns c =
    c.child_count.ensures ∙ (ap (λ l. applied_count (elements l)) c.as_slice.ensures ∙ sym (count-tree_of (elements c.args.self.now.arguments)))
