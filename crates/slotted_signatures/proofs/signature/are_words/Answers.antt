use Rattle.std.proofs.Common.{sym, ◌∙◌, rules, tests}
use Rattle.std.proofs.lemmas.Iterator.{YieldsList-from_slice}
use Rattle.std.proofs.lemmas.Iterator.Search.{all_from_yields_List}
use Rattle.slotted_patterns.specs.View.{tree_of}
use Rattle.slotted_symbols.specs.SymbolForms.{symbol_form}
use Rattle.slotted_signatures.specs.Shown.{is_word}
use Rattle.slotted_signatures.proofs.Lists.{list_all-map}
use Rattle.slotted_signatures.proofs.signature.are_words.Goals as goal

pub returns : goal.returns
returns c =
    all_from_yields_List (λ p. is_word (tree_of symbol_form p)) _ _ c.all.result c.all.ensures.ran (YieldsList-from_slice c.args.patterns.now cc) (λ x b q k. search (rules, tests))
    ∙ sym (list_all-map is_word (tree_of symbol_form) c.args.patterns.now)
