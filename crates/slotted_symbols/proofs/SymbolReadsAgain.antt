-- Each node of SymbolLang is written as one word, and after it its slots and children in the order of its places.
use Rattle.std.specs.Prelude.{List, [], ◌∷◌, refl}
use Rattle.std.proofs.Common.{sym}
use Rattle.slotted_patterns.specs.ReadAgain.{IsWordAndPlaces, HasNoText}
use Rattle.slotted_symbols.specs.Arguments.{elements}
use Rattle.slotted_symbols.specs.SymbolForms.{symbol_form, symbol_shown}
use Rattle.slotted_symbols.specs.Trees.{children-tree_of}
use Rattle.slotted_symbols.specs.declared.argument.Argument.{Argument}
use Rattle.slotted_symbols.specs.declared.argument.Argument.TheVariants.{Slot, Child}
use Rattle.slotted_symbols.specs.declared.symbol_lang.SymbolLang.{SymbolLang}

no_texts : (args : List Argument) → HasNoText (elements args)
no_texts [] = tt
no_texts (Slot x ∷ args) = no_texts args
no_texts (Child a ∷ args) = no_texts args

pub symbol_plain : (a : SymbolLang) → IsWordAndPlaces (symbol_form a) (symbol_shown a)
symbol_plain a = record { word = no_texts a.arguments; slots = refl; children = sym (children-tree_of (elements a.arguments)) }
