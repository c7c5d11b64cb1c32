-- The language SymbolLang: what its nodes are, what they are written as, and what is read as them.
--     word_of a        the bytes of the word of a node
--     arguments_of a   its arguments
--     symbol_form a    the node
--     symbol_shown a   what it is written as: the word, and the arguments behind it
--     symbol_read es   the node that is written so: a word, and slots and children behind it
use Rattle.std.specs.Prelude.{ℕ, List, ◌∷◌, Option, Some, None, if◌then◌else◌}
use Rattle.slotted_slots.specs.Syntax.{Element, text}
use Rattle.slotted_nodes.specs.Form.{Form}
use Rattle.slotted_symbols.specs.Arguments.{elements, form_over, are_arguments}
use Rattle.slotted_symbols.specs.declared.argument.Argument.{Argument}
use Rattle.slotted_symbols.specs.declared.symbol_lang.SymbolLang.{SymbolLang}

abbrev pub word_of : SymbolLang → List ℕ
word_of a = a.word

abbrev pub arguments_of : SymbolLang → List Argument
arguments_of a = a.arguments

abbrev pub symbol_form : SymbolLang → Form
symbol_form a = form_over (word_of a) (elements (arguments_of a))

abbrev pub symbol_shown : SymbolLang → List Element
symbol_shown a = text (word_of a) ∷ elements (arguments_of a)

abbrev pub symbol_read : List Element → Option Form
symbol_read (text w ∷ es) = if are_arguments es then Some (form_over w es) else None
symbol_read _ = None
